pub mod LineTexts
pub mod Texts
pub mod OneLine
pub mod Whole
