pub mod Fronts
pub mod LeafFronts
pub mod Letters
pub mod Beginnings
pub mod Spelling
pub mod WordLetters
pub mod Places
