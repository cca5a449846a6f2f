pub mod PublicLaws
mod Loads
mod Ends
mod Removals
mod Listed
mod Whole
mod Parts
mod Frames
mod Heads
mod Walking
mod Backwards
