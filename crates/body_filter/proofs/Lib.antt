pub mod PublicLaws
mod Keeping
mod Searching
mod Tables
mod Holding
mod Machines
mod Limits
mod Pairing
mod Chains
mod Later
mod Ending
mod KeptBack
