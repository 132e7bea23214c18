pub mod Cases
pub mod Holds
pub mod NamedRefusals
pub mod NewRecords
pub mod Settled
pub mod TreeDraws
pub mod Turned
