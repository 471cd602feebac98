pub mod LinesLemmas
pub mod MeaningLemmas
pub mod Asking
