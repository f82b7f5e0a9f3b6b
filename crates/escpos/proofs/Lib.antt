pub mod Cancels
pub mod Lawful
pub mod Pages
