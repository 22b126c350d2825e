pub mod MapLaws
pub mod ShownLaws
pub mod LookLaws
pub mod KeepsLaws
pub mod HoldsLaws
pub mod CreatedLaws
pub mod PooledLaws
