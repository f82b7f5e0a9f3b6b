pub mod Steps
pub mod Waiting
