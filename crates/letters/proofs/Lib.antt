mod Runs
mod Digits
mod Numerals
mod Cuts
mod CutTokens
pub mod Onward
pub mod Spelling
