-- What comes over a plain link is its own stream, and how it takes what it is sent.
use Rattle.std.specs.Prelude.{option_map}
use Rattle.std.proofs.Common.{◌≡◌, ℕ, ◌-◌, List, [], ◌++◌, Bool, true, false, Option, Some, None, length, sym, ap, subst, ◌∙◌, refl}
use Rattle.std.proofs.lemmas.List.{append-nil}
use Rattle.http_model.specs.declared.Ending.{Ending}
use Rattle.http_model.specs.declared.Ending.TheVariants.{Closed, Broke}
use Rattle.px_link.specs.Link.{Seen, Manner, AsItIs, Behind, Asks, Takes, takes_in, takes_behind, WithinTakes, MayRefuse}
use Rattle.px_link.specs.Net.{Kept, Coming, new_link}
use Rattle.px_link.specs.MemLink.{limit_of}
use Rattle.session_model.specs.Stream.{Stream}
use Rattle.session_core.specs.History.{Connect}
use Rattle.session_core.specs.History as history
use Rattle.htx_drive.specs.Came.{Came, EndsSo}
use Rattle.htx_drive.specs.Dialled.{KeptSo}
use Rattle.htx_drive.specs.Headline.{stream_by, stream_of}
use Rattle.rec_format.specs.Entries.{ServerEntry}
use Rattle.htx_drive.specs.Replay.Memory.{coming_of}
use Rattle.htx_drive.specs.Replay.Headed.{takes_for, TellsTakes, ServesIn}
use Rattle.htx_drive.specs.Replay.Replayed.{Serving, GivesOwn, TakesSo}
use Rattle.htx_drive.proofs.ReplayLemmas.Stops.{stops_so}

abbrev stream_with : List ℕ → Ending → Stream
stream_with bytes ending = record { bytes = bytes; ending = ending }

same_stream : (a b : List ℕ) (d e : Ending) → a ≡ b → d ≡ e → stream_with a d ≡ stream_with b e
same_stream a b d e p q = ap (λ (l : List ℕ). stream_with l d) p ∙ ap (λ (f : Ending). stream_with b f) q

all_came : (came own rest : List ℕ) → own ≡ came ++ rest → rest ≡ [] → came ≡ own
all_came came own rest e none = sym (e ∙ ap (λ (l : List ℕ). came ++ l) none ∙ append-nil came)

-- over a plain link only a stream that broke off of itself ends by a read that failed
plain_by : (manner : Manner) (coming : Coming) (now : Seen) (how : Option Ending) (came rest : List ℕ) → coming.plain ≡ true → coming.bytes ≡ came ++ rest → (how ≡ Some Broke → rest ≡ []) → EndsSo (new_link manner coming) now how
    → stream_by how came coming.bytes coming.ending ≡ stream_with coming.bytes coming.ending
plain_by manner coming now None came rest plain e over ended = refl
plain_by manner coming now (Some Closed) came rest plain e over ended = refl
plain_by manner coming now (Some Broke) came rest plain e over ended =
    same_stream came coming.bytes Broke coming.ending (all_came came coming.bytes rest e (over refl)) (sym (ended.1 plain))

own_stream : (manner : Manner) (coming : Coming) (now : Seen) (came : history.Coming) → coming.plain ≡ true → Came (new_link manner coming) now came → stream_of came coming.bytes coming.ending ≡ stream_with coming.bytes coming.ending
own_stream manner coming now came plain h =
    let of = h.bytes coming.bytes refl in plain_by manner coming now came.ending came.bytes of.rest plain of.bytes (of.broke plain) h.ended

takes_so : (takes : Option ℕ) (stopped : Bool) (taken : List ℕ) → WithinTakes (limit_of takes) (length taken) → (stopped ≡ true → MayRefuse (limit_of takes) (length taken)) → TakesSo takes stopped taken
takes_so None true taken within full = absurd (full refl)
takes_so None false taken within full = refl
takes_so (Some n) true taken within full = full refl
takes_so (Some n) false taken within full = within

behind_none : (n : ℕ) (takes : Option ℕ) → takes_behind n (limit_of takes) ≡ limit_of (option_map (λ m. m - n) takes)
behind_none n None = refl
behind_none n (Some m) = refl

limit_for : (manner : Manner) (takes : Option ℕ) → TellsTakes manner → takes_in manner (limit_of takes) ≡ limit_of (takes_for manner takes)
limit_for AsItIs takes told = refl
limit_for (Behind header manner) takes told = ap (takes_behind (length header)) (limit_for manner takes told) ∙ behind_none (length header) (takes_for manner takes)
limit_for (Asks application) takes told = absurd told

-- what a kept link tells of a server of a record that was connected
abbrev pub Tells : Manner → Serving → Type 0
Tells manner serves = (entry : ServerEntry) (c : Connect) (k : Kept) (stream : Stream) → KeptSo (new_link manner (coming_of entry)) c k → stream ≡ stream_of c.stream entry.stream.bytes entry.stream.ending → serves entry stream c.stopped c.taken

-- it gave its own stream
pub own_so : (manner : Manner) → Tells manner GivesOwn
own_so manner entry c k stream h is = is ∙ own_stream manner (coming_of entry) h.last c.stream refl h.came

-- and took what it takes of a text
pub served_so : (manner : Manner) → TellsTakes manner → Tells manner (ServesIn manner)
served_so manner told entry c k stream h is =
    let limit = limit_for manner entry.takes told in
    let W : Takes → Type 0 = λ t. WithinTakes t (length c.taken) in
    let F : Takes → Type 0 = λ t. c.stopped ≡ true → MayRefuse t (length c.taken) in
    let takes = takes_so (takes_for manner entry.takes) c.stopped c.taken (subst W limit h.limit) (subst F limit h.full) in
    record { own = own_so manner entry c k stream h is; takes = takes; stops = stops_so (takes_for manner entry.takes) c.stopped c.taken takes }
