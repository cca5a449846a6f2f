use Rattle.cfg_parse.proofs.action.returns.+return_options.Given as goal

abbrev pub decreases-return_options : goal.decreases-return_options
decreases-return_options g l = l.most
