pub mod PlanBytes
