pub mod StateLaws
pub mod FitLaws
pub mod CallLaws
pub mod AdvanceLaws
pub mod PlanLaws
pub mod RoundCallLaws
pub mod AnyCallsLaws
