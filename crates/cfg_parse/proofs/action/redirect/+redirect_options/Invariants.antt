use Rattle.cfg_parse.proofs.action.redirect.+redirect_options.Given as goal

abbrev pub decreases-redirect_options : goal.decreases-redirect_options
decreases-redirect_options g l = l.most
