-- What the chart and the panel answer.
pub mod Clauses
