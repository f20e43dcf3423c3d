-- The panel, then its laws.
pub mod Panel
pub mod PanelLaws
pub mod OwnLaws
