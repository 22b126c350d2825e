pub mod GhostLaws
pub mod HeldLaws
