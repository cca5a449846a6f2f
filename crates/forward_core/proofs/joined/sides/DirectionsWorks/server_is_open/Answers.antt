use Rattle.forward_core.proofs.joined.sides.DirectionsWorks.server_is_open.Goals as goal

pub is_open-requires : goal.is_open-requires
is_open-requires c = c.requires.placed.1.is_at.sound.answer
