-- The laws of the figures and of the moves, and what is proved of them.
pub mod FigureLaws
pub mod LimitLaws
pub mod MoveLaws
pub mod ScoreLaws
pub mod Demand
