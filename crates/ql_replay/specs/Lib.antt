pub mod Book
pub mod FirstDiff
pub mod Replay
pub mod Law
pub mod Page
pub mod Following
pub mod Answer
pub mod Running
