pub mod PlusJoined
pub mod NamedThreads
pub mod RunLines
pub mod Short
