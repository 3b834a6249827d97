pub mod DecimalLaws
pub mod WritingLaws
pub mod SizeLaws
