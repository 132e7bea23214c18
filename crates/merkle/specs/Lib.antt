pub mod Tree
pub mod Ascent
pub mod Nodes
pub mod Cache
pub mod Lanes
pub mod inner
