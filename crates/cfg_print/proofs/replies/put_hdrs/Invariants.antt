use Rattle.std.proofs.Common.{◌≡◌, ◌++◌, drop}
use Rattle.std.specs.List.{flat_map}
use Rattle.cfg_print.specs.Words.{words_text}
use Rattle.cfg_print.specs.Actions.{hdr_words}
use Rattle.cfg_print.proofs.replies.put_hdrs.Given as goal

-- what is left of the fields is still to come
abbrev pub invariant-loop-hdr : goal.invariant-loop-hdr
invariant-loop-hdr l = l.page.text.items ++ words_text (flat_map hdr_words (drop l.hdr-index l.hdrs)) ≡ l.initial.page.text.items ++ words_text (flat_map hdr_words l.hdrs)
