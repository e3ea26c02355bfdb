pub mod Grammar
pub mod Scan
pub mod Reading
