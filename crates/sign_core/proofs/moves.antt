pub mod Ends
pub mod KeptRecords
pub mod Moves
pub mod OldFile
