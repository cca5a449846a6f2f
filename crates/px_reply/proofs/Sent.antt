-- A finished list of blocks is that of a finished head.
use Rattle.std.proofs.Common.{◌≡◌, ℕ, List, [], ◌∷◌, ◌++◌, Bool, ap, sym, ◌∙◌, append_assoc}
use Rattle.std.proofs.lemmas.List.{append-nil}
use Rattle.http_model.specs.Block.{Header}
use Rattle.http_model.specs.Head.{Field, Head, head_blocks}
use Rattle.http_model.specs.Fields.{add_field, without_each}
use Rattle.http_model.specs.Finish.{framing_names, close_fields}
use Rattle.http_model.specs.Reply.{with_fields}
use Rattle.header_ops.specs.Headers.{with_header, without_framing}
use Rattle.px_reply.specs.Finished.{with_headers, finished}

-- what the edits of a head are, as `header_ops` says
abbrev pub Adds : Type 0
Adds = (name value : List ℕ) (head : Head) → with_header (Header name value) (head_blocks head) ≡ head_blocks (add_field name value head)

abbrev pub Strips : Type 0
Strips = (head : Head) → without_framing (head_blocks head) ≡ head_blocks (record head { fields = without_each framing_names head.fields })

with_headers-heads : Adds → (fs : List Field) (head : Head) → with_headers fs (head_blocks head) ≡ head_blocks (with_fields fs head)
with_headers-heads add [] head = ap (λ (l : List Field). head_blocks (record { line = head.line; fields = l })) (sym (append-nil head.fields))
with_headers-heads add (f ∷ fs) head =
    ap (with_headers fs) (add f.0 f.1 head)
    ∙ with_headers-heads add fs (add_field f.0 f.1 head)
    ∙ ap (λ (l : List Field). head_blocks (record { line = head.line; fields = l })) (append_assoc head.fields (f ∷ []) fs)

pub finished-heads : Adds → Strips → (fs : List Field) (close : Bool) (head : Head)
    → finished fs close (head_blocks head) ≡ head_blocks (with_fields (fs ++ close_fields close) (record head { fields = without_each framing_names head.fields }))
finished-heads add strip fs close head =
    ap (with_headers (fs ++ close_fields close)) (strip head)
    ∙ with_headers-heads add (fs ++ close_fields close) (record head { fields = without_each framing_names head.fields })
