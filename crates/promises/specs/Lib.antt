-- The promises of docs/PROMISES.md, each id one name: by demand, and what several of them say before them.
-- ---- the words of several demands
pub mod House
-- ---- demand 1: every call ends with a result or a listed refusal
pub mod Answering
pub mod Calls
pub mod ProgramCalls
pub mod Exports
pub mod Programs
pub mod ToldRefusals
pub mod Listed
pub mod ListedVerdicts
pub mod ListedAnswers
pub mod ListedNumbers
pub mod ListedExports
pub mod Lent
pub mod LentExports
pub mod MeasureCalls
pub mod MeasureAnswers
pub mod WriterCalls
pub mod WriterAnswers
pub mod WriterRefusals
pub mod AlertCalls
pub mod AlertAnswers
pub mod AlertTexts
pub mod Results
pub mod RefusalValues
pub mod RefusedTexts
pub mod RefusedPrograms
pub mod RefusedExports
pub mod Refusals
pub mod ReadingTags
-- ---- demand 2: exactly the published moves, exactly the written form
pub mod Moves
pub mod Drawings
pub mod Texts
pub mod Readings
pub mod Records
pub mod RoundTrips
pub mod Tight
pub mod Shown
pub mod Limited
-- ---- requests
pub mod WrittenTexts
pub mod WrittenReferences
pub mod AlertTrials
pub mod BelowDetection
