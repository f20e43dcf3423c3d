-- Envelopes, in reading order: the figures with their limits, figures that are lent, then the laws.
pub mod Figures
pub mod Clauses
pub mod FigureLaws
