pub mod Signing
mod Steps
mod Messages
mod Ends
