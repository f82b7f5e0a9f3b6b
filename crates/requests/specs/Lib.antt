pub mod Asked
pub mod Keywords
