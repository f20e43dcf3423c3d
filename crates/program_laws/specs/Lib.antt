-- What holds of the programs, in reading order: how much is read of a text; the rows of a reference text
-- are Quiet; draw, verify and judge together; what the first line of an output tells; what the others make of
-- what plain prints; what a trial of alert settings counts of what judge prints.
pub mod LongTexts
pub mod QuietLaws
pub mod TripLaws
pub mod ToldLaws
pub mod PlainLaws
pub mod AlertLaws
