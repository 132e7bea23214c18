-- What private functions alone cite, and proofs that contracts need: a reader of public contracts doesn't need it.
pub mod DiskCalls
pub mod Fields
pub mod File
pub mod FileStore
pub mod Filling
pub mod Log
pub mod MemoryStore
pub mod Opening
pub mod Place
pub mod Shown
pub mod Slot
pub mod StoreReads
