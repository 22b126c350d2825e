pub mod CreateLaws
pub mod CallLaws
pub mod FeedLaws
pub mod OnceLaws
pub mod WentLaws
pub mod ChainLaws
pub mod StreamLaws
pub mod PromisesLaws
