pub mod FrontLemmas
pub mod KindLemmas
pub mod QuotedLemmas
pub mod TokenLemmas
