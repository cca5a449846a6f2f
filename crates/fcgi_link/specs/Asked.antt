-- A net whose connected links ask an application, in words of the net that it was before.
use Rattle.std.specs.Prelude.{ℕ, List, map, Option, Some, None, option_map}
use Rattle.fcgi_model.specs.Application.{Application}
use Rattle.fcgi_lane.specs.Answer.Cgi.{cgi_of}
use Rattle.px_link.specs.Link.{Manner, AsItIs, Behind, Asks}
use Rattle.px_link.specs.Net.{Coming, NetSeen}

-- What comes over a link, as the HTTP stream of an application whose head has at most so many bytes. How its own stream ends says nothing.
abbrev pub through : (limit : ℕ) → Coming → Coming
through limit coming = record coming { bytes = (cgi_of limit coming.bytes).bytes; ending = (cgi_of limit coming.bytes).ending }

-- each of these answers that is a link, so
abbrev pub answers_through : (limit : ℕ) → Option (List (Option Coming)) → Option (List (Option Coming))
answers_through limit answers = option_map (map (option_map (through limit))) answers

-- what the coming connects find where links passed on in this manner what is written to them: a net that asks one application asks no other
abbrev pub asked_answers : (limit : ℕ) → Manner → Option (List (Option Coming)) → Option (List (Option Coming))
asked_answers limit AsItIs answers = answers_through limit answers
asked_answers limit (Behind header manner) answers = answers_through limit answers
asked_answers limit (Asks other) answers = answers

-- how links then pass on what is written to them
abbrev pub asked_manner : Application → Manner → Manner
asked_manner application AsItIs = Asks application
asked_manner application (Behind header manner) = Asks application
asked_manner application (Asks other) = Asks other

-- A net whose next connected links ask this application: nothing else of it changes.
abbrev pub asking : (limit : ℕ) → Application → NetSeen → NetSeen
asking limit application seen = record seen { answers = asked_answers limit seen.manner seen.answers; manner = asked_manner application seen.manner }

-- an application, and how many bytes its heads may have
abbrev pub Responder : Type 0
Responder = Application × ℕ

-- a net that was told of the application, where there is one; else as it is
abbrev pub asked_for : Option Responder → NetSeen → NetSeen
asked_for None seen = seen
asked_for (Some responder) seen = asking responder.1 responder.0 seen
