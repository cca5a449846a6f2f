-- The interim heads of a lane's exchange, as a session reads them.
use Rattle.std.proofs.Common.{◌≡◌, ℕ, List, [], ◌∷◌, ◌++◌, Bool, true, false, refl, sym, ap, ◌∙◌, subst, append_assoc, if◌then◌else◌, ◌==◌, ◌&&◌}
use Rattle.std.specs.Prelude.{Option, Some, None, is_some}
use Rattle.std.proofs.lemmas.List.{append-nil}
use Rattle.httparse.specs.Grammar.{print_response}
use Rattle.http_model.specs.declared.Ending.{Ending}
use Rattle.http_model.specs.declared.Limits.{Limits}
use Rattle.http_model.specs.Head.{Head}
use Rattle.http_model.specs.Reading.{Received, Begins}
use Rattle.http_rules.specs.declared.config.Config.{Config}
use Rattle.h1_head.specs.Response.{ResponseOf}
use Rattle.h1_head.specs.Stream.{behind}
use Rattle.forward_core.specs.Meaning.Product.{meaning_of}
use Rattle.session_model.specs.Stream.{Stream}
use Rattle.session_model.specs.Asking.{Asker}
use Rattle.session_model.specs.Answering.{BeginsWithInterim as BeginsInterim}
use Rattle.session_core.specs.History.{Coming, Continues, ContinuesBy}
use Rattle.session_core.specs.Lanes.{HeadsPassed}
use Rattle.lane.specs.Answering.{HeadsCame, BeginsWithInterim}

-- ---- how a stream goes on

-- what follows the bytes so far; nothing where they have ended
pub record More (ending : Option Ending) (left : List ℕ) (rest : Stream) : Type 0 where
  pub more : List ℕ
  pub bytes : rest.bytes ≡ left ++ more
  pub over : is_some ending ≡ true → more ≡ []
  pub ends : (how : Ending) → ending ≡ Some how → rest.ending ≡ how

more_by : (ending : Option Ending) (left : List ℕ) (rest : Stream) → ContinuesBy ending left rest → More ending left rest
more_by None left rest c = record { more = c.0; bytes = c.1; over = λ e. absurd (let both : false ≡ true = e in cc both); ends = λ how e. absurd (let both : None ≡ Some how = e in cc both) }
more_by (Some was) left rest c = record { more = []; bytes = c.0 ∙ sym (append-nil left); over = λ e. refl; ends = λ how e. c.1 ∙ (let P : Option Ending → Ending = λ o. or_this was o in ap P e) }
  where
    or_this : Ending → Option Ending → Ending
    or_this was None = was
    or_this was (Some how) = how

pub more_of : (ending : Option Ending) (left : List ℕ) (rest : Stream) → Continues (record { bytes = left; ending = ending }) rest → More ending left rest
more_of ending left rest c = more_by ending left rest c

-- ---- what follows a head ends the bytes

either : (b : Bool) (xs ys zs : List ℕ) → ((f : List ℕ) × (zs ≡ f ++ xs)) → ((f : List ℕ) × (zs ≡ f ++ ys)) → (f : List ℕ) × (zs ≡ f ++ (if b then xs else ys))
either true xs ys zs h k = h
either false xs ys zs h k = k

behind_end : (bytes : List ℕ) → (front : List ℕ) × (bytes ≡ front ++ behind bytes)
behind_end [] = ([], refl)
behind_end (a ∷ []) = either (a == 10) [] (a ∷ []) (a ∷ []) (a ∷ [], refl) ([], refl)
behind_end (a ∷ b ∷ bytes) =
    let one = behind_end (b ∷ bytes) in
    let two = behind_end bytes in
    either (a == 10) (behind (b ∷ bytes)) (if a == 13 && b == 10 then behind bytes else a ∷ b ∷ bytes) (a ∷ b ∷ bytes) (a ∷ one.0, ap (λ xs. a ∷ xs) one.1)
    (either (a == 13 && b == 10) (behind bytes) (a ∷ b ∷ bytes) (a ∷ b ∷ bytes) (a ∷ b ∷ two.0, ap (λ xs. a ∷ b ∷ xs) two.1) ([], refl))

pub response_end : (asked : Bool) (limits : Limits) (bytes : List ℕ) (got : Received) (rest : List ℕ) → ResponseOf asked limits bytes (Begins got rest) → (used : List ℕ) × (bytes ≡ used ++ rest)
response_end asked limits bytes got rest r =
    let b = behind_end bytes in
    let text = r.1.reads.0.1 in
    (b.0 ++ print_response r.0, b.1 ∙ ap (λ xs. b.0 ++ xs) text ∙ sym (append_assoc b.0 (print_response r.0) rest))

heads_end : (asked : Bool) (limits : Limits) (heads : List Head) (bytes left : List ℕ) → BeginsWithInterim asked limits heads bytes (λ rest. rest ≡ left) → (used : List ℕ) × (bytes ≡ used ++ left)
heads_end asked limits [] bytes left h = ([], h)
heads_end asked limits (head ∷ heads) bytes left h =
    let one = response_end asked limits bytes h.0 h.1 h.2 in
    let others = heads_end asked limits heads h.1 left h.5 in
    (one.0 ++ others.0, one.1 ∙ ap (λ xs. one.0 ++ xs) others.1 ∙ sym (append_assoc one.0 others.0 left))

-- ---- the words of the session

pub as_session : (cfg : Config) (asker : Asker) (heads : List Head) (bytes : List ℕ) (P Q : List ℕ → Type 0) → ((rest : List ℕ) → P rest → Q rest)
    → BeginsWithInterim asker.head_asked cfg.limits heads bytes P → BeginsInterim (meaning_of cfg) asker heads bytes Q
as_session cfg asker [] bytes P Q f h = f bytes h
as_session cfg asker (head ∷ heads) bytes P Q f h = (h.0, h.1, h.2, h.3, h.4, as_session cfg asker heads h.1 P Q f h.5)

-- the heads that came, with the bytes that they used
pub record Came (cfg : Config) (asker : Asker) (server : Coming) (heads : List Head) (left : List ℕ) : Type 0 where
  pub used : List ℕ
  pub passed : HeadsPassed (meaning_of cfg) asker server heads used (record { bytes = left; ending = server.ending })

pub came : (cfg : Config) (asker : Asker) (server : Coming) (heads : List Head) (left : List ℕ) → HeadsCame asker.head_asked cfg.limits server.ending heads server.bytes left
    → Came cfg asker server heads left
came cfg asker server heads left h =
    let P : List ℕ → List ℕ → Type 0 = λ bytes behind_. BeginsWithInterim asker.head_asked cfg.limits heads bytes (λ rest. rest ≡ behind_) in
    let now : P server.bytes left = subst (λ (xs : List ℕ). P server.bytes xs) (append-nil left) (subst (λ (xs : List ℕ). P xs (left ++ [])) (append-nil server.bytes) (h [] (λ e. refl))) in
    let used = heads_end asker.head_asked cfg.limits heads server.bytes left now in
    record {
      used = used.0;
      passed = record {
        server_is = (let C : List ℕ → Coming = λ xs. record { bytes = xs; ending = server.ending } in ap C used.1);
        begins = λ rest c.
            let m = more_of server.ending left rest c in
            let text : server.bytes ++ m.more ≡ used.0 ++ rest.bytes = ap (λ xs. xs ++ m.more) used.1 ∙ append_assoc used.0 left m.more ∙ ap (λ xs. used.0 ++ xs) (sym m.bytes) in
            as_session cfg asker heads (used.0 ++ rest.bytes) (λ b. b ≡ left ++ m.more) (λ b. b ≡ rest.bytes) (λ b e. e ∙ sym m.bytes)
            (subst (λ (xs : List ℕ). BeginsWithInterim asker.head_asked cfg.limits heads xs (λ b. b ≡ left ++ m.more)) text (h m.more m.over));
      };
    }
