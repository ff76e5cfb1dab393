pub mod LineKinds
pub mod Lines
pub mod Read
pub mod Faults
