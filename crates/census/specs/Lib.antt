pub mod Check
