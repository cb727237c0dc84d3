pub mod Known
pub mod NameTexts
pub mod MemorySinks
pub mod Results
