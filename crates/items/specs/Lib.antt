pub mod Kinds
pub mod Extents
pub mod Handed
pub mod Hands
