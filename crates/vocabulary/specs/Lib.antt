pub mod ModelKinds
pub mod Refusals
pub mod Standings
