pub mod Spelling
pub mod Undoing
pub mod Reading
pub mod Answering
