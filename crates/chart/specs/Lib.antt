-- The chart, in reading order: a fraction as a binary64 number, the root, the mark and a point on a chart, then their laws.
pub mod Fraction
pub mod Root
pub mod Mark
pub mod Projection
pub mod FractionLaws
pub mod RootLaws
pub mod MarkLaws
pub mod ProjectionLaws
pub mod OwnLaws
