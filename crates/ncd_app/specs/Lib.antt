pub mod Cache
pub mod Commands
pub mod Definition
pub mod Stands
pub mod Table
pub mod Words
