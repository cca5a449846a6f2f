use Rattle.std.proofs.Common.{◌≡◌, ℕ, List, [], ◌∙◌, ap, length, take, arith}
use Rattle.std.proofs.lemmas.List.{length-take-le, take_all}
use Rattle.htx_model.specs.Block.{Block}
use Rattle.htx_model.specs.Blocks.{append_data, taken}
use Rattle.lane.proofs.SieveLemmas.Taking.{takes_all}
use Rattle.lane.proofs.sieve.sieve.feed_into.Goals as goal

pub returns-clause-feeds : goal.returns-clause-feeds
returns-clause-feeds c =
    let fed = c.feed-fed.result in
    let room = c.feed-fed.new.out in
    let e = c.feed-fed.ensures in
    let piece : List ℕ = take fed.given room in
    let size = c.args.to.now.size in
    let count : length piece ≡ fed.given = length-take-le fed.given room e.given in
    let same : length room ≡ length c.args.room.now = c.feed-fed.auto.out in
    let wide = c.requires.wide in
    let within = e.given in
    let all : taken [] size piece ≡ length piece = takes_all piece size (omega arith) in
    let n : c.add_data.result ≡ length piece = c.add_data.ensures.taken ∙ ap (λ (bs : List Block). taken bs size piece) c.requires.empty ∙ all in (
      piece,
      record {
        count = count;
        used = e.used;
        goes_on = e.goes_on;
        ends = e.ends;
        flushes = e.flushes;
        decided = e.decided;
        early = e.early;
        over = e.over;
        idle = e.idle;
        all = e.all;
      },
      c.add_data.ensures.blocks ∙ ap (λ (bs : List Block). append_data bs (take c.add_data.result piece)) c.requires.empty
          ∙ ap (append_data []) (take_all c.add_data.result piece (omega arith)),
    )
