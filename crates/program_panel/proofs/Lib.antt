-- What the proofs of `panel` use.
pub mod PanelSteps
