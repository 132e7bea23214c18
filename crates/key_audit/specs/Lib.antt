pub mod Audit
pub mod Given
pub mod Listing
pub mod Signatures
pub mod Runs
pub mod Tags
pub mod inner
