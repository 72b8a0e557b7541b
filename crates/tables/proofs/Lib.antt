pub mod Turning
pub mod Pushing
