-- What shows no cut stands in mid-body, or in a trailer section that is still to be whole.
use Rattle.std.proofs.Common.{◌≡◌, ◌≢◌, inl, inr, ℕ, List, ◌∙◌, sym, refl, subst}
use Rattle.std.specs.Prelude.{None}
use Rattle.httparse.specs.Grammar.{HasNoSection}
use Rattle.http_model.specs.Head.{Field}
use Rattle.http_model.specs.Reading.{Whole, Bad}
use Rattle.h1_body.specs.Body.{BodyAt, InSection, Hopeless, data_in}
use Rattle.h1_body.specs.BodyOf.{Reads, More, Tells, SectionTells, place_of}
use Rattle.h1_body.specs.Section.{section_limit}
use Rattle.h1_body.specs.Stands.{start_of}
use Rattle.px_sample.specs.Variables.{Variables}
use Rattle.http_rules.specs.declared.config.Config.{Config}
use Rattle.session_core.specs.History.{Coming}
use Rattle.session_core.specs.Sided.{Asking}
use Rattle.forward_core.specs.Request.Shown.{ReadsSoFar, ShowsNoCut}

-- no byte in front of a section is malformed
pub not_malformed : (cfg : Config) (came : Coming) (asking : Asking Variables) (shows : ShowsNoCut cfg came asking) → place_of asking.received.framing shows.left.bytes ≢ Hopeless
not_malformed cfg came asking shows e =
    let found : List ℕ = data_in (start_of asking.received.framing) shows.left.bytes in
    let reads : ReadsSoFar cfg asking shows.left (Reads (Bad found)) = record { at = Hopeless; found = found; goes = record { place = e; piece = refl }; tells = refl } in
    elim (shows.still (Reads (Bad found)) reads) [
      | inl more ↦ (let clash : Reads (Bad found) ≡ More found = more in cc clash)
      | inr section ↦ (let clash : Hopeless ≡ InSection section.section = sym e ∙ section.place in cc clash)
    ]

-- in the place of a section that isn't there, no body is whole
none_whole : (most : ℕ) (section : List ℕ) (at : BodyAt) (found body : List ℕ) (trailers : List Field) (rest : List ℕ) → at ≡ InSection section → HasNoSection section
    → Tells most at found None (Reads (Whole body trailers rest)) → ⊥
none_whole most section at found body trailers rest e none tells =
    let t : SectionTells most section found None (Reads (Whole body trailers rest)) = subst (λ (p : BodyAt). Tells most p found None (Reads (Whole body trailers rest))) e tells in
    none t.1.0 t.1.1.begins.last rest t.1.1.begins.reads

-- the bytes don't reach the end of a body
pub not_whole : (cfg : Config) (came : Coming) (asking : Asking Variables) (shows : ShowsNoCut cfg came asking) (body : List ℕ) (trailers : List Field) (rest : List ℕ)
    → ¬ (ReadsSoFar cfg asking shows.left (Reads (Whole body trailers rest)))
not_whole cfg came asking shows body trailers rest reads =
    elim (shows.still (Reads (Whole body trailers rest)) reads) [
      | inl more ↦ (let clash : Reads (Whole body trailers rest) ≡ More body = more in cc clash)
      | inr section ↦ none_whole (section_limit cfg.limits) section.section reads.at reads.found body trailers rest (sym reads.goes.place ∙ section.place) section.none reads.tells
    ]
