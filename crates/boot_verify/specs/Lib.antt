pub mod Key
pub mod Answer
pub mod Pieces
pub mod inner
