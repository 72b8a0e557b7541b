pub mod Decimals
pub mod Fields
pub mod Headers
pub mod Checks
pub mod Surveys
pub mod Places
pub mod Parts
pub mod Endian
