pub mod Places
pub mod Drawn
pub mod Frames
