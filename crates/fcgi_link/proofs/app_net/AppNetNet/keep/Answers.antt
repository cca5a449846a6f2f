use Rattle.std.proofs.Common.{◌≡◌, Bool, List, ap, sym, subst, ◌∙◌}
use Rattle.std.specs.Prelude.{Option, option_map, is_some}
use Rattle.px_link.specs.Net.{Keeps, Kept}
use Rattle.fcgi_link.specs.declared.note.Note.{Note}
use Rattle.fcgi_link.specs.Exchange.{LinkWrote, link_over, note_of}
use Rattle.fcgi_link.specs.Nets.{asking_some, with_notes, kept_noted, notes_with}
use Rattle.fcgi_link.proofs.Nets.{keeps_over, as_noted}
use Rattle.fcgi_link.proofs.app_net.AppNetNet.keep.Goals as goal

pub returns : goal.returns
returns g c =
    let seen = g.N.Link.Link.seen in
    let wrote = g.N.Link.Link.wrote in
    let inside = c.self.inside in
    let link = c.args.link in
    let old = g.N.Net.seen inside.inner in
    let new = g.N.Net.seen c.keep.new.self in
    let kept : Keeps (wrote link.inner) old new (seen link.inner) = subst (λ inner. Keeps (wrote inner) old new (seen inner)) c.into_inner.ensures.is c.keep.ensures.keeps in
    let notes : c.note_kept.new.notes.items ≡ notes_with (is_some new.kept) inside.notes.items (note_of link.exchange) =
    c.note_kept.ensures.items
    ∙ ap (λ (tells : Bool). notes_with tells inside.notes.items c.note-note.result) c.tells_kept.ensures.tells
    ∙ ap (λ (note : Option Note). notes_with (is_some new.kept) inside.notes.items note) c.note-note.ensures in
    rw (← c.self.view_is) (record {
      keeps = subst (λ (kept : Option (List Kept)). Keeps (LinkWrote wrote link) (asking_some inside.responder (with_notes inside.notes.items old)) (asking_some inside.responder (record new { kept = kept })) (link_over seen link))
          (as_noted inside.notes.items (note_of link.exchange) new.kept ∙ ap (λ (l : List (Option Note)). option_map (kept_noted l) new.kept) (sym notes))
          (keeps_over seen wrote inside.responder inside.notes.items old new link c.into_inner.ensures.over c.self.invariant.3 kept);
      notes = notes;
    })
