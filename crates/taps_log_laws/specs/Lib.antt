pub mod EntriesOf
pub mod Laws
pub mod WholeTexts
