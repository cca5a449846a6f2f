pub use Rattle.log_format.specs.Format
pub use Rattle.acl_eval.specs.Condition
pub use Rattle.px_expr.specs.Expr
pub mod Actions
pub mod Valid
