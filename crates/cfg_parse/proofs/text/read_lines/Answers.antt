use Rattle.std.proofs.Common.{◌≡◌, ℕ, List, ◌∙◌, arith, rules, subst, sym, ap, length}
use Rattle.std.specs.Str.Lines.{lines}
use Rattle.cfg_parse.specs.Asking.{cause_of}
use Rattle.cfg_parse.specs.Draft.{start}
use Rattle.cfg_parse.specs.Whole.{lines_from}
use Rattle.cfg_parse.proofs.WholeLemmas.{start-sound}
use Rattle.cfg_parse.proofs.TextLemmas.{leads_begin, leads_on, leads_end, leads_out}
use Rattle.cfg_parse.proofs.text.read_lines.Goals as goal

pub loop-rest-init : goal.loop-rest-init
loop-rest-init g c = rw c.start-draft.ensures (record {
  leads = leads_begin (lines_from 1 start (lines c.args.text.now));
  count = omega arith;
  same = search rules;
  sound = start-sound;
})

pub returns-in-Err-clause-loads : goal.returns-in-Err-clause-loads
returns-in-Err-clause-loads g c =
    rw c.at_line.ensures (leads_out c.args.text.now c.loop-rest.number c.loop-rest.draft (lines c.loop-rest.rest.now) (lines c.first_line.result.1.now) c.first_line.result.0.now
    _ _ _ _ c.in-Err.refusal c.requires c.first_line.ensures.lines c.loop-rest.invariant.leads c.loop-rest.invariant.same c.in-Err.ensures.reads)

pub loop-rest-preserved : goal.loop-rest-preserved
loop-rest-preserved g c = record {
  leads = leads_on (lines_from 1 start (lines c.args.text.now)) c.loop-rest.number c.loop-rest.draft c.read_line.new.draft (lines c.loop-rest.rest.now) (lines c.first_line.result.1.now) c.first_line.result.0.now
      c.first_line.ensures.lines c.in_default.ensures.reads.0 c.loop-rest.invariant.leads;
  count = omega (arith, c.first_line.ensures.shorter);
  same = c.in_default.ensures.reads.1 ∙ c.loop-rest.invariant.same;
  sound = c.in_default.ensures.sound c.loop-rest.invariant.sound;
}

pub returns-clause-loads : goal.returns-clause-loads
returns-clause-loads g c =
    leads_end c.args.text.now c.loop-rest.rest.now c.loop-rest.number c.loop-rest.draft _ _ _ c.whole_at_end.result c.requires (search rules) c.loop-rest.invariant.leads c.loop-rest.invariant.same c.whole_at_end.ensures.configures
