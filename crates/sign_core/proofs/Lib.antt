pub mod calls
pub mod chains
pub mod exchanges
pub mod law
pub mod ledgers
pub mod moves
pub mod records
pub mod steps
