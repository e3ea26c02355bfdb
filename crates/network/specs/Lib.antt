pub mod Rows
pub mod Graphs
pub mod Parts
