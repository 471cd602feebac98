pub mod PlaceLemmas
pub mod RowLemmas
pub mod LayerLemmas
pub mod ExpressionLemmas
pub mod ZipLemmas
pub mod InLemmas
pub mod TaskLemmas
