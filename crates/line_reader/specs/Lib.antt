pub mod Types
pub mod Combinators
pub mod OperandContracts
pub mod Operands
pub mod ListContracts
pub mod Commands
pub mod Words
