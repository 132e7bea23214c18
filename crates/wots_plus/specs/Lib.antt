pub mod Hashes
pub mod Address
pub mod LTree
pub mod Key
pub mod inner
