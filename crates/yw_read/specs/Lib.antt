pub mod Inits
pub mod Keys
pub mod Kinds
pub mod Reading
pub mod Tables
pub mod TaskKinds
