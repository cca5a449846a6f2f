use Rattle.cfg_print.specs.Actions.{action_words}
use Rattle.cfg_print.proofs.actions.put_action.Goals as goal

pub returns-in-AddHeader : goal.returns-in-AddHeader
unfolding action_words
returns-in-AddHeader c = rw c.in-AddHeader.is c.put_field.ensures

pub returns-in-SetHeader : goal.returns-in-SetHeader
unfolding action_words
returns-in-SetHeader c = rw c.in-SetHeader.is c.put_field-in-SetHeader.ensures

pub returns-in-SetMethod : goal.returns-in-SetMethod
unfolding action_words
returns-in-SetMethod c = rw c.in-SetMethod.is c.put_by_format.ensures
