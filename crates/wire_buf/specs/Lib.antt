-- The words of windows: the list that contracts see, and what is lent.
pub use Rattle.circular_buffer.specs.Buffer
pub mod Lends
pub mod Stored
pub mod ItemsLends
