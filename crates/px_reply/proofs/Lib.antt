mod Weights
mod Messages
mod Sent
mod Bodies
mod Replies
mod Rooms
