pub mod Target
pub mod Cut
pub mod Lent
pub mod Authority
pub mod Same
pub mod Forms
