pub mod Numbers
pub mod Models
pub mod Forms
pub mod Sheets
