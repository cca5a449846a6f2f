use Rattle.std.proofs.Common.{◌≡◌, true, [], map, take}
use Rattle.std.specs.Bool.{OnTrue}
use Rattle.std.specs.List.{list_all}
use Rattle.http_model.specs.Head.{Head}
use Rattle.http_rules.specs.Action.Given.{Env}
use Rattle.http_rules.specs.Action.Outcome.{IsScratch, IsPlaceOf}
use Rattle.http_rules.specs.Action.Replies.{is_good_hdr, hdr_field}
use Rattle.http_rules.specs.Action.Written.{IsHead, IsPut}
use Rattle.http_rules.proofs.action.reply_fields.put_fields.Given as goal

-- the texts so far are good, and their fields stand in the array, or do not fit
abbrev pub invariant-loop-at : goal.invariant-loop-at
invariant-loop-at l = record {
  text : l.scratch.text ≡ l.initial.scratch.text;
  scratch : IsScratch l.place.msg.now.size l.scratch;
  size : l.reply.size ≡ l.initial.reply.size;
  head : OnTrue l.fits (IsHead l.reply.blocks);
  good : (env : Env) → IsPlaceOf env l.place → list_all (is_good_hdr l.place.msg.now.size env) (take l.at l.hdrs) ≡ true;
  put : (env : Env) (head : Head) → IsPlaceOf env l.place → IsPut l.initial.reply.size head [] l.begun l.initial.reply.blocks
      → IsPut l.initial.reply.size head (map (hdr_field l.place.msg.now.size env) (take l.at l.hdrs)) l.fits l.reply.blocks;
}
