pub mod Records
pub mod Core
pub mod Coherent
pub mod Told
pub mod Invariant
pub mod Arrows
pub mod Events
