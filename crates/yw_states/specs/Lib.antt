pub mod Ascending
pub mod Rising
pub mod RowLaws
pub mod Rows
pub mod States
pub mod Wholes
