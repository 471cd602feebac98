mod Candidates
mod Entry
mod Exits
mod Follows
mod Gone
mod Holding
pub mod Lacking
mod Order
mod Rules
mod Same
mod Splits
