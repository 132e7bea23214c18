-- What private functions alone cite, and proofs that contracts need: a reader of public contracts doesn't need it.
pub mod Address
pub mod Hashes
pub mod LaneKeys
