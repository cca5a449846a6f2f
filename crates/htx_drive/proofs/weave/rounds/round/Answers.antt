use Rattle.std.proofs.Common.{◌∙◌, ◌+◌, ◌-◌, [], refl, arith}
use Rattle.htx_drive.proofs.WeaveLemmas.Rounds.{round_on, round_lowers}
use Rattle.htx_drive.proofs.weave.rounds.round.Goals as goal

pub returns-in-Err-clause-halted : goal.returns-in-Err-clause-halted
returns-in-Err-clause-halted g c = λ cfg prompt turns firsts budget all.
    c.in-Err.ensures.halted [] refl cfg prompt turns firsts budget (c.loop-place.invariant.at cfg prompt turns firsts budget all)

pub loop-place-preserved : goal.loop-place-preserved
loop-place-preserved g c =
    record {
      may = c.in-Ok.ensures.may;
      len = c.in-Ok.ensures.length ∙ c.loop-place.invariant.len;
      sets = c.in-Ok.ensures.sets ∙ c.loop-place.invariant.sets;
      at = λ cfg prompt turns firsts budget all. c.in-Ok.ensures.at [] refl cfg prompt turns firsts budget (c.loop-place.invariant.at cfg prompt turns firsts budget all);
      lowers = round_on c.loop-place.place c.args.pool.now c.loop-place.pool c.move_at.new.pool c.args.conns.now c.loop-place.conns c.move_at.new.conns c.args.resources.now.left c.loop-place.resources.left c.move_at.new.resources.left (c.loop-place.place + 1 - 1) (omega arith)
          c.loop-place.invariant.lowers (c.in-Ok.ensures.lowers refl);
    }

pub returns-clause-lowers : goal.returns-clause-lowers
returns-clause-lowers g c = λ h.
    let end = c.loop-place.auto.place-end in
    let test = c.loop-place-test.false in
    round_lowers c.args.pool.now c.args.conns.now c.loop-place.pool c.loop-place.conns c.loop-place.place c.args.resources.now.left c.loop-place.resources.left (omega (arith, end, test)) c.requires.may.some c.requires.may.seated h c.loop-place.invariant.lowers
