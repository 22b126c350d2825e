pub mod Evicts
