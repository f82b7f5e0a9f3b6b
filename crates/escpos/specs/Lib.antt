pub mod Names
pub mod Numbers
pub mod Steps
pub mod Groups
pub mod Glances
pub mod Laws
pub mod Cancels
pub mod Classes
