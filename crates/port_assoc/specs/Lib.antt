pub mod Keys
pub mod Lists
pub mod Table
pub mod Watchers
pub mod Rows
pub mod Value
pub mod Words
