pub mod Held
pub mod Screen
