-- What the proof of writing uses, and what its answers say.
pub mod WriteSteps
pub mod AnswerLaws
