-- The program `judge`, in reading order: what it prints, and the law.
pub mod Output
pub mod OutputLaws
