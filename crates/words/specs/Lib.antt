pub mod Cuts
pub mod Numbers
pub mod Tokens
pub mod Left
