pub mod Numbers
pub mod Items
pub mod Sets
pub mod Held
