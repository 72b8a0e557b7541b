pub mod Boxes
pub mod Basic
pub mod Truths
pub mod Weights
pub mod Ranks
pub mod Laws
