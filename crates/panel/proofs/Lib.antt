pub mod Glass
pub mod Puts
mod Steps
