-- A session over links and a net that are told, with the turns that led to it.
use Rattle.std.proofs.Common.{List, ℕ, [], true, map}
use Rattle.session_model.specs.Meaning.{Meaning}
use Rattle.session_core.specs.History.{Past}
use Rattle.px_link.specs.Link.{Seen}
use Rattle.px_link.specs.Net.{Place, NetSeen}
use Rattle.px_link.specs.declared.turns.Turn.{Turn}
use Rattle.rec_format.specs.Recorded.{Visit}
use Rattle.htx_drive.specs.Machine.{CoreSeen}
use Rattle.htx_drive.specs.Ran.{RanSo}
use Rattle.htx_drive.specs.Turned.{InTurns}
use Rattle.htx_drive.specs.declared.Ran.{Ran}
use Rattle.htx_drive.specs.Replay.Memory.{answer_of}
use Rattle.htx_drive.specs.Replay.Seen.{IsUntouched, IsUntouchedNet, RanByTurns}
use Rattle.htx_drive.proofs.Headlines.{session_of_past}
use Rattle.htx_drive.proofs.ReplayLemmas.Fresh.{told_bytes, told_ending}

pub by_turns : {C L : Type 0} (M : Meaning) (stands : C → Past → Type 0) (sees : C → CoreSeen) (core : C) (visit : Visit) (seen : L → Seen) (wrote : L → List ℕ → Type 0) (first client : L) (to : Place) (first_net net : NetSeen) (turns left : List Turn) (ran : Ran)
    → IsUntouched seen wrote visit.client first → IsUntouchedNet visit.servers first_net → (so : RanSo M (stands core) seen wrote first client to first_net net ran) → InTurns stands sees turns true left so.past
    → RanByTurns M stands sees turns left visit seen wrote first client to first_net net ran
by_turns M stands sees core visit seen wrote first client to first_net net turns left ran f g so turned =
    let s =
    session_of_past M (stands core) seen wrote first client to first_net net ran visit.client.bytes visit.client.ending (map answer_of visit.servers) [] (told_bytes seen wrote visit.client first f) (told_ending seen wrote visit.client first f) g.answers g.kept so in
    record { session = s.session; past = so.past; turned = turned; client_stream = s.client_stream; server_streams = s.server_streams; came_to = s.came_to }
