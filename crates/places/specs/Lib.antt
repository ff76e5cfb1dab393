pub mod Marks
pub mod Stack
pub mod Places
pub mod Shape
pub mod Climbs
pub mod Kinds
pub mod Totals
pub mod Trees
