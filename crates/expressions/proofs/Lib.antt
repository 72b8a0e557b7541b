pub mod WeightSteps
pub mod ArgumentSteps
