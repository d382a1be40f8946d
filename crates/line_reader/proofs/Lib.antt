pub mod ByKeyword
pub mod SkippedWords
pub mod AttributeWords
pub mod ItemByItem
pub mod Lists
