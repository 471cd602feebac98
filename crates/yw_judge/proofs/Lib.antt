pub mod ReadLemmas
pub mod TellLemmas
pub mod EndLemmas
