-- What links and nets are that ask an application, in words of those below them.
pub mod Reading
pub mod Asking
pub mod Exchange
pub mod Asked
pub mod Nets
