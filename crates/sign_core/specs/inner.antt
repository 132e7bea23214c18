-- What private functions alone cite: a reader of the contracts of public functions doesn't need it.
pub mod Caches
pub mod Cases
pub mod Frames
pub mod Ledger
pub mod KeyTrees
pub mod OldFile
pub mod Progress
pub mod Replay
pub mod Bind
pub mod Serving
pub mod Signer
pub mod Signing
pub mod Source
pub mod Trees
