pub mod Answering
pub mod RunLemmas
