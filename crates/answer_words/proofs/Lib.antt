pub mod BufferLaws
pub mod Capacities
pub mod Ways
