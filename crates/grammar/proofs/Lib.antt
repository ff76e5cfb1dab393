pub mod Elements
pub mod Taking
