-- What is told of a connection is one trace, since each stream has one reading.
use Rattle.std.proofs.Common.{◌≡◌, List, [], ◌∷◌, ℕ, sym, ap, subst, ◌∙◌}
use Rattle.std.specs.Prelude.{Option, Some, None}
use Rattle.http_model.specs.Head.{Head}
use Rattle.http_model.specs.Reading.{HeadReading}
use Rattle.http_model.specs.Reading as reading
use Rattle.h1_head.specs.declared.answer.Side.TheVariants as readers
use Rattle.session_model.specs.Asking.{Asker, Forwarded, Asked, Nothing, Refused, Replied, Sends, asker_of, asked_of}
use Rattle.session_model.specs.Answering.{BeginsWithInterim}
use Rattle.px_sample.specs.Variables.{Variables, no_variables}
use Rattle.http_rules.specs.declared.config.Config.{Config}
use Rattle.http_rules.specs.Lives.{answering}
use Rattle.forward_core.specs.Meaning.Product.{meaning_of}
use Rattle.rec_format.specs.Entries.{ServerEntry}
use Rattle.rec_format.specs.Recorded.{Visit}
use Rattle.px_explain.specs.Traced as told
use Rattle.px_explain.specs.Traced.{Traced, TraceOf, Reads, answered, behind_lines, asking_lines}
use Rattle.px_explain.proofs.Sessions.{OneReading, never}

-- what follows a head
abbrev rest_of : HeadReading → List ℕ
rest_of reading.Nothing = []
rest_of (reading.Refused code) = []
rest_of (reading.Begins received rest) = rest

module _ (cfg : Config) (one : OneReading) where
  -- behind the same interim heads, since none is a final one
  begins_once : (asker : Asker) (before : Variables) (a b : Traced) (heads others : List Head) (stream : List ℕ) → BeginsWithInterim (meaning_of cfg) asker heads stream (Reads cfg asker before a)
      → BeginsWithInterim (meaning_of cfg) asker others stream (Reads cfg asker before b) → a ≡ b
  begins_once asker before a b [] [] stream x y =
      x.is ∙ (ap (λ (h : HeadReading). answered cfg asker before h) (one (readers.Response asker.head_asked) cfg.limits stream x.head y.head x.reads y.reads) ∙ sym y.is)
  begins_once asker before a b [] (other ∷ others) stream x y = absurd (never cfg asker one stream y.0 y.1 x.head y.2 y.3 x.reads x.final)
  begins_once asker before a b (head ∷ heads) [] stream x y = absurd (never cfg asker one stream x.0 x.1 y.head x.2 x.3 y.reads y.final)
  begins_once asker before a b (head ∷ heads) (other ∷ others) stream x y =
      let same : reading.Begins x.0 x.1 ≡ reading.Begins y.0 y.1 = one (readers.Response asker.head_asked) cfg.limits stream (reading.Begins x.0 x.1) (reading.Begins y.0 y.1) x.2 y.2 in
      let rest : x.1 ≡ y.1 = ap rest_of same in
      begins_once asker before a b heads others x.1 x.5 (subst (λ (r : List ℕ). BeginsWithInterim (meaning_of cfg) asker others r (Reads cfg asker before b)) (sym rest) y.5)

  serves_once : (f : Forwarded Variables) (servers : List (Option ServerEntry)) (a b : Traced) → told.Serves cfg f servers a → told.Serves cfg f servers b → a ≡ b
  serves_once f [] a b x y = x ∙ sym y
  serves_once f (None ∷ servers) a b x y = x ∙ sym y
  serves_once f (Some entry ∷ servers) a b x y = begins_once (asker_of f.received f.head) (answering f.vars) a b x.heads y.heads entry.stream.bytes x.begins y.begins

  answers_once : (asked : Asked Variables) (servers : List (Option ServerEntry)) (a b : Traced) → told.Answers cfg asked servers a → told.Answers cfg asked servers b → a ≡ b
  answers_once Nothing servers a b x y = x ∙ sym y
  answers_once (Refused code no_body method vars) servers a b x y = x ∙ sym y
  answers_once (Replied m no_body keep rest method vars) servers a b x y = x ∙ sym y
  answers_once (Sends f) servers a b x y = serves_once f servers a b x y

  pub told_once : (visit : Visit) (a b : Traced) → TraceOf cfg visit a → TraceOf cfg visit b → a ≡ b
  told_once visit a b x y =
      let same : x.head ≡ y.head = one readers.Request cfg.limits visit.client.bytes x.head y.head x.reads y.reads in
      let behind : x.behind ≡ y.behind = answers_once (asked_of (meaning_of cfg) no_variables visit.client.ending x.head) visit.servers x.behind y.behind x.answers
      (subst (λ (h : HeadReading). told.Answers cfg (asked_of (meaning_of cfg) no_variables visit.client.ending h) visit.servers y.behind) (sym same) y.answers) in
      x.is ∙ (ap (λ (h : HeadReading). behind_lines (asking_lines cfg h) x.behind) same ∙ (ap (λ (t : Traced). behind_lines (asking_lines cfg y.head) t) behind ∙ sym y.is))
