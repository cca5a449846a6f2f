use Rattle.std.proofs.Common.{◌≡◌, ◌++◌, ◌∙◌, List, ℕ, sym}
use Rattle.http_rules.proofs.ActionLemmas.Joining.{recapped}
use Rattle.http_rules.proofs.ActionLemmas.Spread.{put_text, put_none}
use Rattle.http_rules.proofs.action.listed.put_filled.Goals as goal

pub returns-in-Unmatched-clause-put : goal.returns-in-Unmatched-clause-put
returns-in-Unmatched-clause-put c =
    λ pat template pieces text joins.
    let here = rw c.in-Unmatched.is at text in
    let cap = c.args.into.now.cap in
    let next = c.put_piece-so_far.new.into.cap in
    let front = c.args.front.now in
    let one = c.put_piece-so_far.ensures.joins pieces joins in
    let two = c.put_piece.ensures.joins (pieces ++ front) (recapped cap next (pieces ++ front) c.put_piece-so_far.new.into.bytes c.put_piece-so_far.result c.put_piece-so_far.ensures.cap one) in
    put_text cap next pat template pieces front c.args.value.now c.args.value.now c.put_piece.new.into.bytes c.put_piece.result here.0 here.1 c.put_piece-so_far.ensures.cap two

pub returns-in-Made-clause-put : goal.returns-in-Made-clause-put
returns-in-Made-clause-put c =
    λ pat template pieces text joins.
    let here = rw c.in-Made.is at text in
    let cap = c.args.into.now.cap in
    let next = c.put_piece-so_far.new.into.cap in
    let front = c.args.front.now in
    let one = c.put_piece-so_far.ensures.joins pieces joins in
    let two = c.put_piece-in-Made.ensures.joins (pieces ++ front) (recapped cap next (pieces ++ front) c.put_piece-so_far.new.into.bytes c.put_piece-so_far.result c.put_piece-so_far.ensures.cap one) in
    put_text cap next pat template pieces front c.args.value.now c.args.text.now c.put_piece-in-Made.new.into.bytes c.put_piece-in-Made.result here.0 here.1 c.put_piece-so_far.ensures.cap two

pub returns-in-Failed-clause-put : goal.returns-in-Failed-clause-put
returns-in-Failed-clause-put c =
    λ pat template pieces text joins.
    put_none c.args.into.now.cap pat template pieces c.args.front.now c.args.value.now c.args.text.now c.put_piece-so_far.new.into.bytes c.in-Failed.field-0 (rw c.in-Failed.is at text)
