pub mod Listed
mod Adding
