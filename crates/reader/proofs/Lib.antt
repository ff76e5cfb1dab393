pub mod Tabled
pub mod Stepping
pub mod Spanned
pub mod PlanWords
pub mod Closed
pub mod Folding
