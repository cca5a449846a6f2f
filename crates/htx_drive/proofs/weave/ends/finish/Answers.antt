use Rattle.std.proofs.Common.{◌≡◌, ℕ, None, refl, sym, ap, subst, ◌∙◌}
use Rattle.px_link.specs.Link.{with_close}
use Rattle.session_core.specs.Consequences.{IsFinal, out_of_past}
use Rattle.htx_drive.proofs.WeaveLemmas.Moving.{at_server, none_open, not_both, over_so}
use Rattle.htx_drive.proofs.weave.ends.finish.Goals as goal

pub returns-clause-ended : goal.returns-clause-ended
returns-clause-ended g c = λ cfg all ahead count first to first_net r.
    let core = c.args.core.now in
    let none : c.args.conn.now.server ≡ None = none_open c.args.conn.now.server (λ e. not_both _ _ c.requires.over ((g.met.C.Machine.wants_mean core).serving (c.requires.serving ∙ e)).1) in (
      record { end = c.args.end; exchanges = c.exchanges.result; begun_cut = c.cut.result },
      refl,
      over_so (g.C.Machine.meaning cfg) (g.C.Machine.stands cfg) g.C.Machine.seen all ahead core g.L.Link.seen g.L.Link.wrote first c.args.conn.now.client c.close.new.self to _ _ _ count
          (at_server _ g.L.Link.seen g.L.Link.wrote first _ c.args.conn.now.server None to _ _ count none r)
          (λ p s.
          let P : ℕ → Type 0 = λ n. IsFinal (g.C.Machine.meaning cfg) p (out_of_past p p.taken n c.args.end) in
          subst P (sym c.exchanges.ensures) (g.met.C.Machine.over_is_the_session cfg core p c.args.end s c.requires.over))
          (λ p s. c.cut.ensures ∙ g.met.C.Machine.cut_is_noted cfg core p s)
          (c.close.ensures.seen ∙ ap (λ h. with_close (g.L.Link.seen c.args.conn.now.client) h) c.close_of.ensures)
          c.close.ensures.wrote,
    )
