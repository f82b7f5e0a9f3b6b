pub mod Kept
pub mod Runs
pub mod Stays
pub mod Glanced
