pub mod ScriptRuns
pub mod Plays
pub mod DeclaredRuns
pub mod Endings
pub mod RunText
pub mod WorkedRuns
pub mod Words
