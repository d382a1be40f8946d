pub mod Entries
pub mod Lists
pub mod Alone
pub mod Moments
pub mod Ordered
pub mod Pendings
pub mod Free
pub mod Kept
