-- What is handed out of a program.
pub mod Handed
