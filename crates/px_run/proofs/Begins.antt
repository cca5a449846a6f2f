-- A session begins on a core to which nothing has happened.
use Rattle.std.proofs.Common.{◌≡◌, ℕ, List, [], false, Some, None, refl, sym, ap, subst, ◌∙◌, inl, arith}
use Rattle.std.proofs.lemmas.List.{append-nil}
use Rattle.session_core.specs.History.{Past, nothing_yet, no_stream}
use Rattle.px_link.specs.Link.{Seen, Takes, Untold, UpTo, All, WithinTakes, counted}
use Rattle.px_link.specs.Net.{Place, NetSeen}
use Rattle.htx_drive.specs.Machine.{CoreSeen}
use Rattle.htx_drive.specs.Came.{Came, Put}
use Rattle.htx_drive.specs.Dialled.{Dials, CountsRefused}
use Rattle.htx_drive.specs.Turned.{starts}
use Rattle.px_run.specs.Course.{GoesOn}

came_fresh : (s : Seen) → Came s s no_stream
came_fresh s =
    record {
      kind = record { ending = refl; plain = refl; takes = refl; manner = refl };
      bytes = λ xs e. record { rest = xs; bytes = refl; to_come = e; closed = λ f. cc; broke = λ p f. cc };
      taken = λ k e. let z : k ≡ counted k 0 = omega arith in e ∙ ap (λ n. Some n) z;
      ended = refl;
    }

none_within : (t : Takes) → WithinTakes t 0
none_within Untold = tt
none_within (UpTo n) = omega arith
none_within All = tt

put_fresh : (W : List ℕ → Type 0) (s : Seen) → Put W W s s [] false
put_fresh W s = record { wrote = λ bs x. subst W (sym (append-nil bs)) x; limit = λ x. none_within s.takes; full = λ x e. cc; fails = refl }

none_refused : (n : ℕ) → CountsRefused [] n n
none_refused n = record { never_falls = omega arith; found = λ e. refl; refused = λ e. cc }

dials_fresh : (to : Place) (net : NetSeen) → Dials to net net []
dials_fresh to net =
    record {
      lent = refl;
      manner = refl;
      plain = refl;
      coming = record { accepts = refl; bound = refl; binds = refl };
      dialled = inl refl;
      refused = none_refused net.connect_faults;
      told = λ coming ks ea ek. record { dials = []; left = coming; connects = refl; chain = refl; answers = ea; kept = ek ∙ ap (λ l. Some l) (sym (append-nil ks)); each = tt };
    }

pub begins : {C L : Type 0} (stands : C → Past → Type 0) (sees : C → CoreSeen) (core : C) (seen : L → Seen) (wrote : L → List ℕ → Type 0) (client : L) (to : Place) (net : NetSeen) → stands core nothing_yet
    → GoesOn stands sees core seen wrote client client None to net net
begins stands sees core seen wrote client to net s = (
  [],
  λ ahead. (
    0,
    record {
      past = nothing_yet;
      under = record {
        idle = record { stand = record { stand = record { stand = s; worked = false; turned = starts; paid = omega arith }; over = tt }; came = came_fresh (seen client); put = put_fresh (wrote client) (seen client); closed = refl };
        dials = dials_fresh to net;
      };
      more = omega arith;
    },
  ),
)
