mod FlowLemmas
mod MarkLemmas
mod PathLemmas
mod RowLemmas
mod SearchLemmas
mod TrimmingLemmas
pub mod Renaming
pub mod Walks
