pub mod BarLaws
