pub mod Carries
pub mod Heads
