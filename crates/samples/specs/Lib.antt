pub mod Ranks
pub mod Samples
pub mod Laws
