pub mod Order
pub mod Kinds
