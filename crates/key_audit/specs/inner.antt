-- What private functions alone cite: a reader of the contracts of public functions doesn't need it.
pub mod Audit
pub mod InMemory
pub mod LeafIndex
pub mod ListedName
pub mod Listing
pub mod Loading
pub mod Uses
