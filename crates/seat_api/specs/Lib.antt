pub mod History
pub mod Seating
