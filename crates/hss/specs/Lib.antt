pub mod Key
pub mod SignedKey
pub mod Signature
pub mod View
pub mod Verification
pub mod Secret
pub mod Writing
pub mod inner
