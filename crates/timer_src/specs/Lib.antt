pub mod Lists
pub mod Keys
pub mod Table
pub mod Pending
pub mod Value
pub mod Words
