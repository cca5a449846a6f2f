pub mod Expr
pub mod MemEnv
