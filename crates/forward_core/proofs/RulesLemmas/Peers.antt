-- The peer of a session says nothing of its rules.
use Rattle.std.proofs.Common.{◌≡◌, ◌≤◌, ℕ, Option, Some, None, true, false, refl, arith}
use Rattle.px_peer.specs.declared.Peer.{Peer}
use Rattle.http_rules.specs.declared.config.Config.{Config}
use Rattle.http_rules.specs.Valid.{IsValid}
use Rattle.forward_core.specs.Meaning.Beginning.{beginning}
use Rattle.forward_core.specs.Rules.Steady.{IsSteady, IsClear}
use Rattle.forward_core.specs.Rules.Ruling.{IsReady, config_of}
use Rattle.forward_core.specs.declared.rules.rules.SessionRules.{SessionRules}

steady_for : (cfg : Config) (peer : Option Peer) → IsSteady cfg → IsSteady (record cfg { peer = peer })
steady_for cfg peer s = record { request = s.request; response = s.response; after = s.after }

valid_for : (cfg : Config) (peer : Option Peer) → IsValid cfg → IsValid (record cfg { peer = peer })
valid_for cfg peer v =
    record {
      limits = v.limits;
      bind_port = v.bind_port;
      server_port = v.server_port;
      server_host = v.server_host;
      send_proxy = v.send_proxy;
      application = v.application;
      request = v.request;
      response = v.response;
      after = v.after;
      req_filters = v.req_filters;
      res_filters = v.res_filters;
    }

pub ready_for : (rules : SessionRules) (peer : Option Peer) → IsReady rules → IsReady (record rules { peer = peer; begun = false })
ready_for rules peer ready =
    record {
      valid = valid_for (config_of rules) peer ready.valid;
      scratch = ready.scratch;
      said = ready.said;
      steady = λ is. steady_for (config_of rules) peer (ready.steady is);
      begun = λ is. absurd (let e : false ≡ true = is in cc e);
      clear = ready.clear;
    }

-- it begins with no variables but those of the session
pub clear_at_first : (peer : Option Peer) → IsClear (beginning peer)
clear_at_first None = record { txn = refl; req = refl; res = refl }
clear_at_first (Some peer) = record { txn = refl; req = refl; res = refl }

-- a buffer of a valid size has room for an address
pub room_in : (cap size : ℕ) → cap ≡ size → 1024 ≤ size → 40 ≤ cap
room_in cap size is least = omega (arith, is, least)

pub ruleset peers = (ready_for, room_in, clear_at_first)
