use Rattle.std.proofs.Common.{◌≡◌, ◌++◌, ◌-◌, ℕ, List, sym, ap, ◌∙◌, subst, length, take, drop}
use Rattle.http_rules.specs.Action.Joining.{are_blanks, piece_behind, Joins}
use Rattle.http_rules.proofs.ActionLemmas.Joining.{bad_piece, more_joined}
use Rattle.http_rules.proofs.action.joining.put_piece.Goals as goal

pub returns-then-not-are_value_bytes-clause-joins : goal.returns-then-not-are_value_bytes-clause-joins
returns-then-not-are_value_bytes-clause-joins c = λ pieces joins. bad_piece pieces c.args.piece.now (sym c.are_value_bytes.ensures ∙ c.if-not-are_value_bytes.true)

pub returns-clause-joins : goal.returns-clause-joins
returns-clause-joins c =
    λ pieces joins.
    more_joined c.args.into.now.cap pieces c.args.piece.now c.behind-piece.result.now c.args.into.now.bytes c.push_front-whole.new.into.bytes c.args.so_far c.join_by.result c.push_front-whole.result
    (sym c.are_value_bytes.ensures ∙ c.if-not-are_value_bytes.false) (c.behind-piece.ensures ∙ ap (λ (held : List ℕ). piece_behind held c.args.piece.now) c.bytes.ensures.bytes) c.push_front-whole.ensures.bytes c.push_front-whole.ensures.left c.join_by.ensures joins
