pub mod Elements
pub mod Inserted
pub mod Keys
mod DueLemmas
mod NetTokens
mod Ordered
pub mod Rising
mod TokenLemmas
pub mod Walking
mod Zips
