mod Finding
mod Sheets
