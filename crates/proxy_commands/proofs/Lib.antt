mod Causes
mod Connections
mod Drill
mod Replayed
mod Told
mod Writing
