use Rattle.std.proofs.Common.{◌≡◌, ◌<◌, ◌≤◌, ◌++◌, ◌∙◌, ap, sym, subst, take, drop, length, arith, ℕ, List, get_or}
use Rattle.std.specs.Prelude.{slice_index}
use Rattle.std.proofs.lemmas.List.{length-take-le, take_at}
use Rattle.body_filter.specs.Filter.{behind, searched}
use Rattle.body_filter.specs.Machines.{SearchAt}
use Rattle.body_filter.proofs.Machines.{going, passes_front}
use Rattle.body_filter.proofs.searcher.Searcher.pass.Goals as goal

pub returns-clause-meaning : goal.returns-clause-meaning
returns-clause-meaning c = λ whole rest.
    let n : List ℕ = c.args.self.now.needle in
    let len : ℕ = c.free_front-len.result in
    let piece : List ℕ = c.args.piece.now in
    let run : List ℕ = take len piece in
    let value : c.as_slice.result.now ≡ n = c.as_slice.ensures.value ∙ ap (λ s. s.needle) c.self.view_is in
    let copied : c.copy_from_slice.new.self ≡ run = c.copy_from_slice.ensures.after in
    let room : c.min-room.result ≤ length piece = omega (arith, c.min-room.ensures) in
    let within : len ≤ c.min-room.result = omega (arith, c.free_front-len.ensures.within, length-take-le c.min-room.result piece room) in
    let fits : len ≤ length piece = omega (arith, room, within) in
    let some : 0 < length n = subst (λ (s : SearchAt). 0 < length s.needle) c.self.view_is c.as_slice.ensures.some in
    let front : take len (c.copy_from_slice.new.self ++ drop len c.args.out.now) ≡ run = ap (λ xs. take len (xs ++ drop len c.args.out.now)) copied ∙ take_at run (drop len c.args.out.now) len (length-take-le len piece fits) in
    let m = searched n c.args.self.now.to 0 whole rest in
    going c.args.self.now whole (run ++ rest) c.requires.going c.requires.empty c.requires.open
    ∙ ap (λ k. searched n c.args.self.now.to 0 whole (take k n ++ (run ++ rest))) c.requires.none
    ∙ passes_front n c.args.self.now.to whole piece c.min-room.result len (slice_index c.as_slice.result.now 0) rest some within fits (ap (λ xs. get_or xs 0 0) value) c.free_front-len.ensures.free
    ∙ ap (λ xs. behind xs m) (sym front)
    ∙ ap (behind (take len (c.copy_from_slice.new.self ++ drop len c.args.out.now))) (sym (going c.args.self.now whole rest c.requires.going c.requires.empty c.requires.open
    ∙ ap (λ k. searched n c.args.self.now.to 0 whole (take k n ++ rest)) c.requires.none))
