-- What follows enough bytes of a text changes no output.
pub mod LongLaws
