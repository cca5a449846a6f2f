use Rattle.std.proofs.Common.{◌≡◌, ℕ, ◌-◌, List, ◌++◌, length, take, drop, ap, sym, ◌∙◌, codes}
use Rattle.std.proofs.lemmas.List.{drop_at, take_rest}
use Rattle.uri_parts.specs.Target.{TargetParts, target_parts}
use Rattle.fcgi_model.specs.Application.{Application}
use Rattle.fcgi_model.specs.Pairs.{script_name, script_of, query_of}
use Rattle.fcgi_model.specs.Records.{Packing, put}
use Rattle.fcgi_lane.proofs.request.pairs.put_script.Goals as goal

-- what stands behind a front
behind : (root to text front : List ℕ) → text ≡ root ++ to → front ≡ root → take (length text - length front) (drop (length front) text) ≡ to
behind root to text front is same = take_rest text (length front) ∙ ap (drop (length front)) is ∙ drop_at root to (length front) (ap length (sym same))

pub returns : goal.returns
returns c =
    let asked : Application = c.args.application.now in
    let root : List ℕ = asked.root in
    let path : List ℕ = script_name (target_parts c.args.target.now).path in
    let to : List ℕ = script_of asked path in
    let named : c.script_name.result.now ≡ path = c.script_name.ensures ∙ ap (λ (p : TargetParts). script_name p.path) c.cut_target-parts.ensures in
    let query : c.query_of.result.now ≡ query_of (target_parts c.args.target.now).query = c.query_of.ensures ∙ ap (λ (p : TargetParts). query_of p.query) c.cut_target-parts.ensures in
    let file : c.in_ok-file.file.items ≡ root ++ to = c.in_ok-file.ensures ∙ ap (λ (p : List ℕ). root ++ script_of asked p) named in
    let lent : c.as_slice-root.result.now ≡ root = c.as_slice-root.ensures ∙ ap (λ (a : Application). a.root) c.application.view_is in
    let first : c.put.new.self ≡ put c.args.writer.now (codes "SCRIPT_NAME", to) =
    c.in_ok-put.ensures ∙ ap (λ (t : List ℕ). put c.args.writer.now (codes "SCRIPT_NAME", t)) (behind root to c.deref.result.now c.as_slice-root.result.now (c.deref.ensures.value ∙ file) lent) in
    let second : c.put-2.new.self ≡ put c.put.new.self (codes "SCRIPT_FILENAME", root ++ to) =
    c.in_ok-put-2.ensures ∙ ap (λ (t : List ℕ). put c.put.new.self (codes "SCRIPT_FILENAME", t)) (c.deref-2.ensures.value ∙ file) in
    let third : c.put-3.new.self ≡ put c.put-2.new.self (codes "DOCUMENT_ROOT", root) = c.in_ok-put-3.ensures ∙ ap (λ (t : List ℕ). put c.put-2.new.self (codes "DOCUMENT_ROOT", t)) lent in
    c.in_ok-put-4.ensures
    ∙ ap (λ (t : List ℕ). put c.put-3.new.self (codes "QUERY_STRING", t)) query
    ∙ ap (λ (w : Packing). put w (codes "QUERY_STRING", query_of (target_parts c.args.target.now).query))
    (third ∙ ap (λ (w : Packing). put w (codes "DOCUMENT_ROOT", root)) (second ∙ ap (λ (w : Packing). put w (codes "SCRIPT_FILENAME", root ++ to)) first))
