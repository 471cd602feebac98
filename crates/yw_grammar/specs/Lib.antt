pub mod Grammar
pub mod Machine
pub mod Reading
pub mod SyntaxTree
pub mod Tie
