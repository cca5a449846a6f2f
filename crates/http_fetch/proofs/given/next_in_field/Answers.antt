use Rattle.http_fetch.specs.Walk.{read_left}
use Rattle.http_fetch.proofs.FieldSamples.{first_is, others_are, none_is, none_are}
use Rattle.http_fetch.proofs.given.next_in_field.Goals as goal

pub returns-in-Some-clause-given : goal.returns-in-Some-clause-given
returns-in-Some-clause-given c =
    first_is (read_left c.args.reading c.args.name.now c.args.msg.now.blocks c.args.place.now) (read_left c.args.reading c.args.name.now c.args.msg.now.blocks c.in-Some.behind) c.in-Some.value.now c.in-Some.ensures

pub returns-in-Some-clause-left : goal.returns-in-Some-clause-left
returns-in-Some-clause-left c =
    others_are (read_left c.args.reading c.args.name.now c.args.msg.now.blocks c.args.place.now) (read_left c.args.reading c.args.name.now c.args.msg.now.blocks c.in-Some.behind) c.in-Some.value.now c.in-Some.ensures

pub returns-in-None-clause-given : goal.returns-in-None-clause-given
returns-in-None-clause-given c = none_is (read_left c.args.reading c.args.name.now c.args.msg.now.blocks c.args.place.now) c.in-None.ensures

pub returns-in-None-clause-left : goal.returns-in-None-clause-left
returns-in-None-clause-left c = none_are (read_left c.args.reading c.args.name.now c.args.msg.now.blocks c.args.place.now) c.in-None.ensures
