pub mod ComesLaws
pub mod HandOutLaws
pub mod DrainLaws
