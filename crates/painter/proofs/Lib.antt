mod Kept
mod Painting
