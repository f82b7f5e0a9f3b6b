pub mod Runs
pub mod Framed
pub mod Confined
pub mod Recalled
pub mod Malformed
mod Lived
mod Bounds
mod Named
mod Replayed
mod Compared
mod Said
