-- The lines that the programs print, in reading order: the lines; then the room for one, and how long lines are.
pub mod Lines
pub mod Clauses
pub mod LineLaws
