use Rattle.px_proxyproto.proofs.Lines.{no_word_begins}
use Rattle.px_proxyproto.proofs.state.may_begin.Goals as goal

pub returns : goal.returns
returns c = λ e. no_word_begins c.args.bytes.now (c.agrees.ensures.no c.if-agrees.false) (c.agrees-2.ensures.no c.if-agrees-2.false) (c.agrees-3.ensures.no e)
