pub mod Strip
pub mod Latest
pub mod Laws
pub mod Waiting
