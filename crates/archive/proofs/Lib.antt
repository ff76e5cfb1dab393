pub mod Writing
pub mod Examples
pub mod Supplying
