pub mod Figures
pub mod Rows
pub mod Signs
pub mod Splits
