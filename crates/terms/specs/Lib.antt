pub mod Faults
pub mod Presets
