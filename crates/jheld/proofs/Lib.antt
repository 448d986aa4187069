pub mod HeldSteps
pub mod Values
