pub mod Witness
pub mod Comparing
