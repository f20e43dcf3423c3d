-- Agreement with rows, then its laws.
pub mod Agreement
pub mod AgreementLaws
