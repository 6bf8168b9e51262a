mod Connectors
mod Listing
mod Tasks
mod Whole
