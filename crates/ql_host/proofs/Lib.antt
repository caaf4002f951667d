pub mod RowTicks
pub mod Rooms
pub mod News
pub mod Schedules
pub mod Hosts
pub mod Awaits
pub mod Boxes
pub mod FrameRows
pub mod MarkRows
pub mod UnwindRows
pub mod CallRows
pub mod Values
mod Changes
mod Primitives
mod Prints
mod Closes
mod TurnNumbers
mod MakeRows
mod Awaiting
pub mod Making
pub mod Children
pub mod SpawnRows
pub mod Leftmost
pub mod Stepping
pub mod Picks
pub mod SendRows
pub mod Killing
pub mod CatchRows
pub mod ServerRows
pub mod Counts
pub mod Works
pub mod Commits
pub mod Steps
mod ReplyRows
