pub mod Setups
pub mod Answers
pub mod Sessions
