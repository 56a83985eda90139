pub mod PlanFiles
pub mod Signs
