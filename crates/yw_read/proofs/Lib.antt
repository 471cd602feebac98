pub mod InitLemmas
pub mod KeyLemmas
pub mod KindLemmas
pub mod UnknownLemmas
