-- Labels, the numbers by which the code tells them apart, and their laws; labels of rows after them; marks of numbers.
pub mod Label
pub mod Key
pub mod LabelLaws
pub mod RowLabel
pub mod Clauses
pub mod ContractLaws
pub mod RowLabelLaws
pub mod Marks
pub mod MarksLaws
