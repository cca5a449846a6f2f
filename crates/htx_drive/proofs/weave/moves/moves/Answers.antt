use Rattle.std.proofs.Common.{◌+◌, ◌∙◌, arith}
use Rattle.htx_drive.specs.Driven.{paid_more}
use Rattle.htx_drive.specs.declared.step.Did.TheVariants as did
use Rattle.htx_drive.proofs.WeaveLemmas.Moving.{as_did, turned_pays}
use Rattle.htx_drive.proofs.weave.moves.moves.Goals as goal

pub steps-preserved-in-Ok-Opened : goal.steps-preserved-in-Ok-Opened
steps-preserved-in-Ok-Opened g c =
    record {
      goes = λ cfg all ahead total first first_net e h.
          let k = c.steps.invariant.goes cfg all ahead total first first_net e h in
          let i = k.is in
          record {
            count = 1 + k.count;
            is = omega (arith, i);
            so = as_did (g.C.Machine.stands cfg) g.C.Machine.seen all ahead c.step.new.core g.L.Link.seen g.L.Link.wrote first _ _ _ _ _ k.count c.in-Ok-Opened.field-0 did.Opened c.in-Ok-Opened.field-0-is (c.in-Ok-Opened.ensures.goes cfg all ahead k.count first first_net e k.so);
          };
      sound = c.in-Ok-Opened.ensures.sound;
      serving = c.in-Ok-Opened.ensures.serving;
      lent = c.in-Ok-Opened.ensures.lent;
      ran = c.in-Ok-Opened.ensures.ran ∙ c.steps.invariant.ran;
      no_more = omega (arith, c.steps.invariant.no_more);
    }

pub returns-in-Ok-Turned-clause-goes : goal.returns-in-Ok-Turned-clause-goes
returns-in-Ok-Turned-clause-goes g c = λ cfg all ahead total first first_net e h.
    let k = c.steps.invariant.goes cfg all ahead total first first_net e h in
    record {
      count = paid_more c.in-Ok-Turned.moved k.count;
      is = turned_pays c.in-Ok-Turned.moved k.count c.pay.new.left c.steps.resources.left total c.pay.ensures k.is;
      so = as_did (g.C.Machine.stands cfg) g.C.Machine.seen all ahead c.step.new.core g.L.Link.seen g.L.Link.wrote first _ _ _ _ _ k.count c.in-Ok-Turned.field-0 (did.Turned c.in-Ok-Turned.moved) c.in-Ok-Turned.field-0-is (c.in-Ok-Turned.ensures.goes cfg all ahead k.count first first_net e k.so);
    }

pub returns-in-Err-clause-goes : goal.returns-in-Err-clause-goes
returns-in-Err-clause-goes g c = λ cfg all ahead total first first_net e h.
    let k = c.steps.invariant.goes cfg all ahead total first first_net e h in
    record { count = k.count; is = k.is; so = c.in-Err.ensures.goes cfg all ahead k.count first first_net e k.so }
