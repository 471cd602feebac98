pub mod Deciding
pub mod SpellsLemmas
pub mod LayerLemmas
pub mod FittingLemmas
pub mod NamedLemmas
pub mod ParameterLemmas
