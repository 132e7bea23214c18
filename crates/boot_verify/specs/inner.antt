-- What private functions alone cite: a reader of the contracts of public functions doesn't need it.
pub mod Key
