mod AnyEnd
mod Due
mod Endings
mod Stopped
mod Words
