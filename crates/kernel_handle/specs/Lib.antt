pub mod Told
pub mod Openings
pub mod Shapes
