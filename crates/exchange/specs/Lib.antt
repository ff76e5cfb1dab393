pub mod Setting
pub mod Waking
pub mod Takers
pub mod Freeing
pub mod Exchanging
pub mod Heights
