pub mod DottedLemmas
pub mod Parents
