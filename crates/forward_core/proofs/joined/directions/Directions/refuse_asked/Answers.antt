use Rattle.std.proofs.Common.{refl}
use Rattle.forward_core.proofs.JoinedLemmas.Refusing.{refuses_so}
use Rattle.forward_core.proofs.joined.directions.Directions.refuse_asked.Goals as goal

pub returns-clause-refuses : goal.returns-clause-refuses
returns-clause-refuses c =
    let e = c.in_ok-refuse.ensures in (
      refl,
      refuses_so c.args.self.now c.refuse.new.answer c.refuse.new.rules c.args.code c.bytes.result.now c.args.no_body c.requires.sound
          (record { place = e.place; starts = e.starts; heard = e.heard; window = e.window; sound = e.sound; size = e.size; window_size = e.window_size; ready = e.ready; config = e.config })
          c.bytes.ensures.bytes e.says,
    )
