pub mod Calls
pub mod Files
pub mod FolderDesk
pub mod Handed
pub mod StdSource
