pub mod Upstreams
pub mod Known
pub mod Here
pub mod Judged
