pub mod Openings
pub mod Histories
pub mod Replies
pub mod Rooms
