pub mod FieldLaws
pub mod NameLaws
