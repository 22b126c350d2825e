pub mod FormLaws
pub mod CarriesLaws
pub mod HeadsLaws
