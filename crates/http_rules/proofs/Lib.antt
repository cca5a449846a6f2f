mod Runs
mod Stepping
mod Bodies
mod Asked
mod Replies
mod ActionLemmas
