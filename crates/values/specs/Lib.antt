pub mod Value
pub mod Windows
pub mod Laws
pub mod Telling
