pub mod Chain
pub mod Digest
pub mod Hasher
pub mod Lanes
pub mod Beginning
pub mod inner
