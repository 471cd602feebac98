pub mod IdentityLemmas
pub mod ListLemmas
pub mod SentLemmas
pub mod StepLemmas
mod Floats
mod MemberLemmas
