pub mod Keys
pub mod Answers
pub mod Roots
pub mod Prefixes
pub mod Padded
mod ChMaj
mod Rotations
