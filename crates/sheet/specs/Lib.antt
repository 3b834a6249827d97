pub mod Reading
pub mod Sheets
pub mod ReadingCall
pub mod OrderNames
pub mod TextCases
