pub mod Decimals
pub mod FieldTexts
pub mod Growing
pub mod Lengths
pub mod LineTexts
pub mod Logs
pub mod Words
