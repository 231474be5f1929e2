pub mod Law
pub mod Replay
pub mod Updates
pub mod Words
