-- What a client's stream reads as, in the words of requests.
use Rattle.std.specs.Prelude.{ℕ, List}
use Rattle.http_model.specs.declared.Limits.{Limits}
use Rattle.http_model.specs.Reading.{HeadReading}
use Rattle.h1_head.specs.Kind.{request_heads}
use Rattle.h1_head.specs.Stream as stream

abbrev pub RequestOf : Limits → List ℕ → HeadReading → Type 0
RequestOf limits bytes reading = stream.HeadOf request_heads limits bytes reading
