pub mod Alone
pub mod Compacting
pub mod Found
pub mod Heads
pub mod Opening
pub mod Pair
pub mod Reading
pub mod Window
