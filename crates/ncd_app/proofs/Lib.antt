pub mod Found
pub mod Kept
pub mod Lines
pub mod Lists
pub mod Owners
pub mod Records
pub mod Steps
pub mod Telling
