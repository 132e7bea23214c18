pub mod Key
pub mod Signature
pub mod View
pub mod Nodes
pub mod Verification
pub mod Secret
pub mod Writing
pub mod SigningTree
