pub mod Searches
pub mod Sheets
