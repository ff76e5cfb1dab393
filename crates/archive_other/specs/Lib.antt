pub mod Harbours
