pub mod ColumnTestLaws
