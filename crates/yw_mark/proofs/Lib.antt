pub mod TokenLemmas
pub mod JoinLemmas
pub mod SplitLemmas
