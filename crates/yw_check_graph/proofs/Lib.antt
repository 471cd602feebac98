mod NumberLemmas
mod OrderLemmas
mod PathLemmas
mod CycleLemmas
mod FirstLemmas
mod LinkLemmas
mod ChildLemmas
mod NetLemmas
