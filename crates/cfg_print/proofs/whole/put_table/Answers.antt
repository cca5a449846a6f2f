use Rattle.cfg_print.specs.Printed.{all_terms}
use Rattle.cfg_print.proofs.TableLemmas.{text_of_terms, keys_of_terms, lines_of_terms}
use Rattle.cfg_print.proofs.whole.put_table.Goals as goal

pub returns-clause-text : goal.returns-clause-text
returns-clause-text c = text_of_terms (all_terms c.args.config.now) c.args.page.now.text.items c.add_all.new.page.text.items c.new.result c.add_all.new.table.keys c.add_all.new.table.lines c.new.ensures c.in_ok-add_all.ensures

pub returns-clause-keys : goal.returns-clause-keys
returns-clause-keys c = keys_of_terms (all_terms c.args.config.now) c.args.page.now.text.items c.add_all.new.page.text.items c.new.result c.add_all.new.table.keys c.add_all.new.table.lines c.new.ensures c.in_ok-add_all.ensures

pub returns-clause-lines : goal.returns-clause-lines
returns-clause-lines c = lines_of_terms (all_terms c.args.config.now) c.args.page.now.text.items c.add_all.new.page.text.items c.new.result c.add_all.new.table.keys c.add_all.new.table.lines c.new.ensures c.in_ok-add_all.ensures
