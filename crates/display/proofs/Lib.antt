pub mod Fed
pub mod Shorts
