mod Joins
mod Wholes
