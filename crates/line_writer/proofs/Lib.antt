pub mod SpacedWords
