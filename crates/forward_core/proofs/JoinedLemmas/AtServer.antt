-- Where a server is open the request goes out.
use Rattle.std.proofs.Common.{◌≢◌, inl, inr}
use Rattle.session_core.specs.Place.{IsAtServer}
use Rattle.forward_core.specs.Request.Seen as requests
use Rattle.forward_core.specs.Request.Stands.{IsSound}
use Rattle.forward_core.specs.declared.request.place.Place.TheVariants as asked
use Rattle.forward_core.specs.Joined.Joined.{Placed}
use Rattle.forward_core.specs.declared.joined.directions.Directions.{Directions}
use Rattle.forward_core.proofs.JoinedLemmas.Serving.{begun_sending}

pub not_reading : (d : Directions) → IsAtServer (Placed d) → requests.place_of d.request ≢ asked.Reading
not_reading d (inl x) = begun_sending (requests.place_of d.request) x.is_at.stand.0
not_reading d (inr x) = x.is_at.stand.0

pub sound_there : (d : Directions) → IsAtServer (Placed d) → IsSound d.request
sound_there d (inl x) = x.is_at.sound.request
sound_there d (inr x) = x.is_at.sound.request
