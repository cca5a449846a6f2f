-- Exchanges that are done, and what follows them.
use Rattle.std.proofs.Common.{◌≡◌, ℕ, ◌+◌, List, [], ◌∷◌, ◌++◌, Bool, Option, Some, None, sym, ap, subst, ◌∙◌, refl, append_assoc}
use Rattle.std.specs.List.{AllZip}
use Rattle.std.proofs.lemmas.List.{append-nil}
use Rattle.session_model.specs.Stream.{Stream, Server, Sent}
use Rattle.session_model.specs.Meaning.{Meaning}
use Rattle.session_model.specs.Session.{Exchange, After, Next, Follow, GoesOn, first_bit}
use Rattle.session_core.specs.History.{Coming, Connect, Continues, ContinuesServer, prepend, prepended}
use Rattle.session_core.specs.Stands.{One, Done, none_done, Puts, Follows, IsBehind}
use Rattle.session_core.proofs.Streams.{continues_prepend, Falls, falls}
use Rattle.session_core.proofs.Puts.{puts_both, one_follows}

-- in front of the first exchange
pub behind_none : (M : Meaning) (came : Coming) → IsBehind M M.begins [] came [] none_done
behind_none M came rest servers left how more c s f = first servers s
  where
    first : (servers : List Server) → AllZip ContinuesServer [] servers → Follows M none_done (prepend [] rest) (servers ++ left) how more
    first [] s =
        record { exchanges = []; puts = record { count = refl; client = refl; connects = refl; bit = refl }; follow = f }
    first (server ∷ servers) s = absurd s

-- a whole exchange that goes on behind these bytes of the client, with these variables
pub record Passes (M : Meaning) (vars : M.Vars) (used : List ℕ) (rest : Stream) (servers : List Server) (next : M.Vars) (text : List ℕ) (sent : List (Option Sent)) : Type 0 where
  pub exchange : Exchange M.Vars
  pub one : One M vars (prepend used rest) servers exchange
  pub goes_on : exchange.after ≡ Next rest next
  pub text_is : exchange.client ≡ text
  pub sent_is : exchange.connects ≡ sent
  pub uncut : exchange.bit ≡ None

pub puts_one : {Vars : Type 0} (e : Exchange Vars) (bit : Option Bool) → e.bit ≡ bit → Puts (e ∷ []) (record { count = 1; client = e.client; connects = e.connects }) bit
puts_one e bit is =
    record { count = refl; client = append-nil e.client; connects = append-nil e.connects; bit = first bit is }
  where
    first : (bit : Option Bool) → e.bit ≡ bit → first_bit (e ∷ []) ≡ bit
    first None is = rw is refl
    first (Some b) is = rw is refl

pub behind_next : (M : Meaning) (vars next : M.Vars) (used more_used : List ℕ) (came left_over : Coming) (before now : List Connect) (done : Done) (text : List ℕ) (sent : List (Option Sent))
    → IsBehind M vars used came before done
    → came ≡ prepended more_used left_over
    → ((rest : Stream) (servers : List Server) → Continues left_over rest → AllZip ContinuesServer now servers → Passes M vars more_used rest servers next text sent)
    → IsBehind M next (used ++ more_used) left_over (before ++ now) (record { count = done.count + 1; client = done.client ++ text; connects = done.connects ++ sent })
behind_next M vars next used more_used came left_over before now done text sent behind is passes rest servers left how more c s f =
    let parts : Falls ContinuesServer before now servers = falls ContinuesServer before now servers s in
    let e : Passes M vars more_used rest parts.behind next text sent = passes rest parts.behind c parts.behinds in
    let on : GoesOn e.exchange.after more left how (λ rest next. Follow M more next rest left how) =
    let P : After M.Vars → Type 0 = λ a. GoesOn a more left how (λ rest next. Follow M more next rest left how) in subst P (sym e.goes_on) f in
    let came_on : Continues came (prepend more_used rest) =
    let P : Coming → Type 0 = λ c. Continues c (prepend more_used rest) in subst P (sym is) (continues_prepend more_used left_over rest c) in
    let all : Follows M done (prepend used (prepend more_used rest)) (parts.front ++ (parts.behind ++ left)) how (e.exchange ∷ more) =
    behind (prepend more_used rest) parts.front (parts.behind ++ left) how (e.exchange ∷ more) came_on parts.fronts
    (one_follows M vars (prepend more_used rest) parts.behind left how e.exchange more e.one on) in
    let one_put : Puts (e.exchange ∷ []) (record { count = 1; client = text; connects = sent }) None =
    let P : List ℕ → Type 0 = λ xs. Puts (e.exchange ∷ []) (record { count = 1; client = xs; connects = sent }) None in
    subst P e.text_is (let Q : List (Option Sent) → Type 0 = λ ss. Puts (e.exchange ∷ []) (record { count = 1; client = e.exchange.client; connects = ss }) None in
    subst Q e.sent_is (puts_one e.exchange None e.uncut)) in
    let servers_are : parts.front ++ (parts.behind ++ left) ≡ servers ++ left = sym (append_assoc parts.front parts.behind left) ∙ ap (λ ss. ss ++ left) (sym parts.joins) in
    record {
      exchanges = all.exchanges ++ e.exchange ∷ [];
      puts = puts_both all.exchanges (e.exchange ∷ []) done (record { count = 1; client = text; connects = sent }) None all.puts one_put;
      follow =
          let P : List (Exchange M.Vars) → Type 0 = λ es. Follow M es M.begins (prepend (used ++ more_used) rest) (servers ++ left) how in
          subst P (sym (append_assoc all.exchanges (e.exchange ∷ []) more))
          (let Q : List ℕ → Type 0 = λ bytes. Follow M (all.exchanges ++ (e.exchange ∷ more)) M.begins (record { bytes = bytes; ending = rest.ending }) (servers ++ left) how in
          subst Q (sym (append_assoc used more_used rest.bytes))
          (let R : List Server → Type 0 = λ ss. Follow M (all.exchanges ++ (e.exchange ∷ more)) M.begins (prepend used (prepend more_used rest)) ss how in
          subst R servers_are all.follow));
    }
