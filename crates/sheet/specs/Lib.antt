pub mod Writing
pub mod Meaning
pub mod Kept
pub mod Answers
pub mod Worked
pub mod CountsText
