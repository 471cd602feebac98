mod AtItem
mod AtNet
mod Enters
mod Listing
