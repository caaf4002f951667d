mod Counts
mod Kills
mod Lists
mod Walks
