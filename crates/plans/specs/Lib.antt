pub mod PlanRules
pub mod PlanTests
pub mod Groups
