pub mod SheetLines
pub mod Tests
