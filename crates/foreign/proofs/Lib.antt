pub mod RowAddedLaws
pub mod GatheredLaws
pub mod WithinLaws
pub mod SomeRowsLaws
