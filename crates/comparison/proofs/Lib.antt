pub mod ComparisonExamples
pub mod ComparedCases
pub mod ComparisonLaws
pub mod PlanLoads
pub mod EqualLoadsExamples
pub mod CompareRun
