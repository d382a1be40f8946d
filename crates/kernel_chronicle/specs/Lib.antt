pub mod Asks
pub mod Declarations
pub mod Endings
pub mod Handles
pub mod Openings
pub mod Replies
pub mod Statuses
pub mod Written
