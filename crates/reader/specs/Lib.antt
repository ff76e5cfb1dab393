pub mod Spans
pub mod PlanTable
pub mod Steps
pub mod Judgement
pub mod Views
pub mod FaultText
