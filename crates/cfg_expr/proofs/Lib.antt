pub mod PublicLaws
mod Readings
mod Steps
mod Texts
mod ConditionLemmas
