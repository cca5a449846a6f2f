mod Accepted
mod CheckFlags
mod FlagWords
mod Items
mod Passes
mod Reading
mod ThreeWords
