pub mod PublicLaws
mod Trying
mod Literals
mod Casting
mod Walking
