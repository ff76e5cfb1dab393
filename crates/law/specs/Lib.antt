pub mod Declines
pub mod Handed
pub mod Conditions
pub mod Calls
pub mod Book
pub mod Histories
pub mod Law
