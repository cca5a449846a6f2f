-- Whether a byte has come since the exchange before.
use Rattle.std.proofs.Common.{◌≡◌, ℕ, List, [], ◌∷◌, Bool, true, false, length, refl, arith}
use Rattle.std.specs.Prelude.{Option, Some, None, is_none}
use Rattle.http_model.specs.declared.Ending.{Ending}
use Rattle.session_core.specs.History.{Coming, no_stream}
use Rattle.forward_core.specs.declared.request.place.Place.TheVariants as place
use Rattle.forward_core.specs.Request.Stands.{IsUntouchedAt}

-- behind a head nothing is said of it
pub behind_head : (came : Coming) (untouched : Bool) → IsUntouchedAt place.Sending untouched came
behind_head came untouched at is = absurd (let e : place.Sending ≡ place.Reading = at in cc)

pub behind_none : (came : Coming) (untouched : Bool) → IsUntouchedAt place.Idle untouched came
behind_none came untouched at is = absurd (let e : place.Idle ≡ place.Reading = at in cc)

pub behind_reply : (came : Coming) (untouched : Bool) → IsUntouchedAt place.Replied untouched came
behind_reply came untouched at is = absurd (let e : place.Replied ≡ place.Reading = at in cc)

-- where some came it isn't said
pub once_touched : (came : Coming) → IsUntouchedAt place.Reading false came
once_touched came at is = absurd (let e : false ≡ true = is in cc)

pub none_there : (bytes : List ℕ) → length bytes ≡ 0 → bytes ≡ []
none_there [] e = refl
none_there (byte ∷ bytes) e = absurd (omega arith)

-- so nothing has come where the stream is open
pub nothing_came : (came : Coming) (ended : Option Ending) → came.bytes ≡ [] → came.ending ≡ ended → is_none ended ≡ true → came ≡ no_stream
nothing_came came None bytes ending open_ = λ i. record { bytes = bytes i; ending = ending i }
nothing_came came (Some how) bytes ending open_ = absurd (let e : false ≡ true = open_ in cc e)
