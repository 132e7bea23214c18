pub mod KeptTrees
pub mod NameMaps
pub mod OneMore
pub mod Pushes
pub mod Reading
pub mod Replaying
