pub mod Ranks
pub mod Samples
pub mod Joined
pub mod Openings
pub mod Texts
