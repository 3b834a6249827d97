pub mod FaultLaws
pub mod ColumnLaws
pub mod OrderLaws
pub mod WindowLaws
pub mod TrainLaws
