use Rattle.std.proofs.Common.{◌≡◌, Ok, true, leb, length, sym, rules}
use Rattle.std.specs.Prelude.{◌&&◌}
use Rattle.std.specs.Str.{str_to_ascii_lowercase}
use Rattle.px_bytes.specs.Tokens.{is_token}
use Rattle.cfg_parse.proofs.ActionLemmas.NameLemmas.{lower_name, read_is}
use Rattle.cfg_parse.proofs.action.arguments.name_of.Goals as goal

pub returns-clause-good : goal.returns-clause-good
returns-clause-good c =
    let is : (is_token c.args.word.now && leb (length c.args.word.now) 255) ≡ true = search rules in
    lower_name c.args.word.now c.in_ok-name.name is (sym (read_is (str_to_ascii_lowercase c.args.word.now) c.in_ok-name.name c.in_ok-name.ensures))
