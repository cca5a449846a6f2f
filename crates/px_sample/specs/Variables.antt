-- The variables of the four scopes (Configuration Manual, section 2.8).
use Rattle.std.specs.Prelude.{ℕ, List, [], Option, Some, None}
use Rattle.px_sample.specs.Sample.{Value}
use Rattle.px_sample.specs.Entry.{Entry, lookup, without, assigned}
use Rattle.px_sample.specs.declared.scope.Scope.{Scope}
use Rattle.px_sample.specs.declared.scope.Scope.TheVariants.{Sess, Txn, Req, Res}

-- the variables of each scope, those set last behind
pub record Variables : Type 0 where
  pub sess : List Entry
  pub txn : List Entry
  pub req : List Entry
  pub res : List Entry

-- no variable in any scope
abbrev pub no_variables : Variables
no_variables = record { sess = []; txn = []; req = []; res = [] }

-- the variables of a scope
abbrev pub entries_in : Variables → Scope → List Entry
entries_in vars Sess = vars.sess
entries_in vars Txn = vars.txn
entries_in vars Req = vars.req
entries_in vars Res = vars.res

-- the same with others in this scope
abbrev pub with_entries : Variables → Scope → List Entry → Variables
with_entries vars Sess entries = record vars { sess = entries }
with_entries vars Txn entries = record vars { txn = entries }
with_entries vars Req entries = record vars { req = entries }
with_entries vars Res entries = record vars { res = entries }

-- the value of a variable
abbrev pub variable : Variables → Scope → List ℕ → Option Value
variable vars scope name = lookup name (entries_in vars scope)

-- after a set: an absent value changes nothing, nor does one with which the scope would hold too much
abbrev pub set_variable : Variables → Scope → List ℕ → Option Value → Variables
set_variable vars scope name None = vars
set_variable vars scope name (Some v) = with_entries vars scope (assigned name v (entries_in vars scope))

-- after an unset
abbrev pub unset_variable : Variables → Scope → List ℕ → Variables
unset_variable vars scope name = with_entries vars scope (without name (entries_in vars scope))

-- after the life of a scope has ended
abbrev pub clear_scope : Variables → Scope → Variables
clear_scope vars scope = with_entries vars scope []
