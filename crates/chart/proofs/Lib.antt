-- What is proved of the points on a chart.
pub mod DiscLaws
