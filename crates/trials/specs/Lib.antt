-- The starred trial figures of document 01, and the range of TOC; alert settings on a few verdicts.
pub mod Trials
pub mod Alerts
