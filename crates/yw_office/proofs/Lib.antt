mod Keeping
mod Standing
