-- What private functions alone cite, and proofs that contracts need: a reader of public contracts doesn't need it.
pub mod Beginning
pub mod Chain
pub mod Feeding
pub mod Groups
pub mod Lanes
pub mod Sums
