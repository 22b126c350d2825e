pub mod Wire
pub mod CarriedOut
