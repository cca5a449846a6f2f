pub mod PublicLaws
mod Addresses
mod Chain
mod Drives
mod Endings
mod Manners
mod Meetings
mod Outputs
mod Rounds
