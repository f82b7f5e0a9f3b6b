pub mod Forty
pub mod Laws
pub mod Numbers
pub mod Steps
