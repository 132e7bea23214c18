pub mod InputReading
pub mod Replying
pub mod ServedCalls
pub mod Turns
