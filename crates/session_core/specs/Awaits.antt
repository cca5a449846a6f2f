-- A client that waits for a response head before it sends its body (RFC 9110 section 10.1.1).
use Rattle.std.specs.Prelude.{Bool, not, ◌&&◌, codes}
use Rattle.std.specs.List.{list_any}
use Rattle.http_model.specs.Fields.{is_named, same_name}
use Rattle.http_model.specs.Reading.{Received}
use Rattle.session_model.specs.Meaning.{is_http_11, is_bodiless}

-- The request as it was received is HTTP/1.1, has a body, and has an `expect` field of `100-continue` without regard to case.
abbrev pub awaits_continue : Received → Bool
awaits_continue received =
    is_http_11 received.head && not (is_bodiless received.framing)
    && list_any (λ field. is_named (codes "expect") field && same_name field.1 (codes "100-continue")) received.head.fields
