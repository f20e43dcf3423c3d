-- Verdicts on readings, in reading order: what a text is as a reading, its verdict, then the laws of both; s of a text, or its refusal.
pub mod Content
pub mod ContentLaws
pub mod Verdict
pub mod VerdictLaws
pub mod QuietLaws
pub mod Clauses
