mod Streams
mod Answering
mod Asking
mod Nets
