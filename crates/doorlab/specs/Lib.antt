pub mod Status
pub mod History
