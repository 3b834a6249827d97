pub mod ColumnTests
pub mod FirstRefusal
