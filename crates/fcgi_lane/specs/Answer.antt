-- What an application answers, as the HTTP stream that it is.
pub mod Flow
pub mod Reader
pub mod Section
pub mod Head
pub mod Cgi
pub mod Stands
pub mod Room
pub mod Work
pub mod Found
pub mod Progress
