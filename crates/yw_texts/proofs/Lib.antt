pub mod Lacking
pub mod Judging
pub mod ReadingOnce
pub mod Loading
pub mod Alone
