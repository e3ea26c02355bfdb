pub mod Texts
pub mod Summaries
