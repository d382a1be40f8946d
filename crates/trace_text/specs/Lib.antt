pub mod AnswerRoom
pub mod Taken
