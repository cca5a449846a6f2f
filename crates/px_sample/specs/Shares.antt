-- How the variables of four scopes lie behind one another.
use Rattle.std.specs.Prelude.{ℕ, ◌+◌, List, take, drop}
use Rattle.px_sample.specs.declared.scope.Scope.{Scope}
use Rattle.px_sample.specs.declared.scope.Scope.TheVariants.{Sess, Txn, Req, Res}
use Rattle.px_sample.specs.declared.share.Share.{Share}
use Rattle.px_sample.specs.declared.share.Shares.{Shares}
use Rattle.px_sample.specs.Entry.{Entry}
use Rattle.px_sample.specs.Variables.{Variables}

-- no variable in any scope
abbrev pub no_shares : Shares
no_shares = record {
  sess = record { slots = 0; bytes = 0 };
  txn = record { slots = 0; bytes = 0 };
  req = record { slots = 0; bytes = 0 };
  res = record { slots = 0; bytes = 0 };
}

-- the share of a scope
abbrev pub share_of : Shares → Scope → Share
share_of s Sess = s.sess
share_of s Txn = s.txn
share_of s Req = s.req
share_of s Res = s.res

-- the same with another for this scope
abbrev pub with_share : Shares → Scope → Share → Shares
with_share s Sess share = record s { sess = share }
with_share s Txn share = record s { txn = share }
with_share s Req share = record s { req = share }
with_share s Res share = record s { res = share }

-- how many variables lie before those of a scope
abbrev pub slots_before : Shares → Scope → ℕ
slots_before s Sess = 0
slots_before s Txn = s.sess.slots
slots_before s Req = s.sess.slots + s.txn.slots
slots_before s Res = s.sess.slots + s.txn.slots + s.req.slots

-- and how many bytes those have
abbrev pub bytes_before : Shares → Scope → ℕ
bytes_before s Sess = 0
bytes_before s Txn = s.sess.bytes
bytes_before s Req = s.sess.bytes + s.txn.bytes
bytes_before s Res = s.sess.bytes + s.txn.bytes + s.req.bytes

-- the part of a scope of all that lie behind one another
abbrev pub part : {X : Type 0} → Shares → Scope → List X → List X
part s scope xs = take (share_of s scope).slots (drop (slots_before s scope) xs)

-- all of them as the variables of four scopes
abbrev pub parted : Shares → List Entry → Variables
parted s entries = record { sess = part s Sess entries; txn = part s Txn entries; req = part s Req entries; res = part s Res entries }
