use Rattle.std.proofs.Common.{sym, subst}
use Rattle.h1_body.specs.declared.stages.Stage.{Stage}
use Rattle.h1_body.specs.Stands.{Feeds}
use Rattle.h1_body.proofs.stages.feed_at.Goals as goal

pub returns-in-Left-clause-feeds : goal.returns-in-Left-clause-feeds
returns-in-Left-clause-feeds c = subst (λ (s : Stage). Feeds c.args.limit s c.args.window.now c.args.room c.feed_left.result) (sym c.in-Left.is) (c.feed_left.ensures.feeds c.args.limit)

pub returns-in-UntilClose-clause-feeds : goal.returns-in-UntilClose-clause-feeds
returns-in-UntilClose-clause-feeds c = subst (λ (s : Stage). Feeds c.args.limit s c.args.window.now c.args.room c.feed_until_close.result) (sym c.in-UntilClose.is) (c.feed_until_close.ensures.feeds c.args.limit)

pub returns-in-Line-clause-feeds : goal.returns-in-Line-clause-feeds
returns-in-Line-clause-feeds c = subst (λ (s : Stage). Feeds c.args.limit s c.args.window.now c.args.room c.feed_line.result) (sym c.in-Line.is) (c.feed_line.ensures c.args.limit)

pub returns-in-Data-clause-feeds : goal.returns-in-Data-clause-feeds
returns-in-Data-clause-feeds c = subst (λ (s : Stage). Feeds c.args.limit s c.args.window.now c.args.room c.feed_data.result) (sym c.in-Data.is) (c.feed_data.ensures c.args.limit)

pub returns-in-LineEnd-clause-feeds : goal.returns-in-LineEnd-clause-feeds
returns-in-LineEnd-clause-feeds c = subst (λ (s : Stage). Feeds c.args.limit s c.args.window.now c.args.room c.feed_line_end.result) (sym c.in-LineEnd.is) (c.feed_line_end.ensures c.args.limit)

pub returns-in-Over-clause-feeds : goal.returns-in-Over-clause-feeds
returns-in-Over-clause-feeds c = subst (λ (s : Stage). Feeds c.args.limit s c.args.window.now c.args.room c.stay.result) (sym c.in-Over.is) (c.stay.ensures c.args.limit)

pub returns-in-Dead-clause-feeds : goal.returns-in-Dead-clause-feeds
returns-in-Dead-clause-feeds c = subst (λ (s : Stage). Feeds c.args.limit s c.args.window.now c.args.room c.stay-in-Dead.result) (sym c.in-Dead.is) (c.stay-in-Dead.ensures c.args.limit)
