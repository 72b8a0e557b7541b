pub mod Window
pub mod Sets
pub mod Terms
pub mod Entering
pub mod Truth
pub mod Places
pub mod Faults
pub mod Parts
