pub mod PlanLengthLaws
