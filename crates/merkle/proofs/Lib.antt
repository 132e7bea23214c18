pub mod Climb
pub mod Leading
pub mod Building
pub mod Paths
pub mod Listing
pub mod Reading
pub mod Kept
pub mod Halves
