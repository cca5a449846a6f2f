-- The words of bytes: tokens, blanks, numbers in digits, values of a list.
pub mod Tokens
pub mod Blanks
pub mod Numbers
pub mod Values
