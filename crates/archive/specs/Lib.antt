pub mod Arguments
pub mod Texts
pub mod Rows
pub mod Functions
pub mod Settings
pub mod Varied
pub mod Numerals
pub mod Apart
