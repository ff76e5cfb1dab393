pub mod Stands
pub mod Moves
pub mod Ahead
pub mod Walking
pub mod Evaluation
pub mod Marked
pub mod OneWalk
