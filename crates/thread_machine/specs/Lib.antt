pub mod LastAnswers
pub mod Places
pub mod Slots
pub mod Bodies
pub mod Machines
pub mod Words
