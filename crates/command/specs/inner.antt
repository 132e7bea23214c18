-- What private functions alone cite, and proofs that contracts need: a reader of public contracts doesn't need it.
pub mod FileDisk
pub mod Files
pub mod Line
pub mod ListingText
pub mod Notes
pub mod RandomFile
pub mod Sentence
pub mod Sign
pub mod StateFile
pub mod SystemFile
