pub mod Bytes
pub mod LTree
pub mod Signing
pub mod Rows
