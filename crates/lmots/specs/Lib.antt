pub mod Hashes
pub mod Key
