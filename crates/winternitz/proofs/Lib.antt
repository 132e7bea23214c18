pub mod Walks
mod Widths
mod Bases
pub mod Coefs
mod Checksums
mod Apart
pub mod Ends
pub mod Concatenated
pub mod Signing
pub mod Chains
mod Beginnings
mod Rotations
mod Vectors
mod Long
mod Words
mod Ways
mod Sums
mod Absorbing
