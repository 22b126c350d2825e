pub mod OverLaws
pub mod NodesLaws
pub mod FieldsLaws
