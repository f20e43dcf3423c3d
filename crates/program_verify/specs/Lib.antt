-- The program `verify`, in reading order: what it prints, and the law.
pub mod Output
pub mod OutputLaws
