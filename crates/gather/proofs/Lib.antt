pub mod SheetLinesLaws
