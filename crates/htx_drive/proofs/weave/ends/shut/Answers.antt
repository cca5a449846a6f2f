use Rattle.htx_drive.proofs.weave.ends.shut.Goals as goal

pub returns : goal.returns
returns g c = record { shut = record { shut = c.close.new.self; is_seen = c.close.ensures.seen; written = c.close.ensures.wrote; keeps = c.keep.ensures.keeps } }
