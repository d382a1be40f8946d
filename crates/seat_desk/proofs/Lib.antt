pub mod Histories
pub mod Desks
pub mod Answered
