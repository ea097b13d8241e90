-- The lines of a state meet the clauses on servers, pools and versions.
use Rattle.std.specs.Prelude.{◌≡◌, true}
use Rattle.sr_inv_facts.specs.InCauses.{setup_of}
use Rattle.sr_inv_order.specs.Meeting.{EachLine}
use Rattle.sr_law.specs.Newer.{meets_newer}
use Rattle.sr_law.specs.Number.{meets_number}
use Rattle.sr_law.specs.Same.{meets_same}
use Rattle.sr_law.specs.Server.{meets_server}
use Rattle.sr_machine.specs.Core.{Core, printed}

-- each server is the one that its key's hash picks from the pool that its version was last given
abbrev pub ServersRight : Core → Type 0
ServersRight s = EachLine (λ before l. meets_server (setup_of s.config).pools before l ≡ true) (printed s)

-- each packet that entered after its connection's opening has that opening's pool
abbrev pub PoolsSame : Core → Type 0
PoolsSame s = EachLine (λ before l. meets_same before l ≡ true) (printed s)

-- each opening uses the pool of the last switch before it, or a later one
abbrev pub PoolsNewer : Core → Type 0
PoolsNewer s = EachLine (λ before l. meets_newer before l ≡ true) (printed s)

-- each version that is given is held by nothing
abbrev pub NumbersFree : Core → Type 0
NumbersFree s = EachLine (λ before l. meets_number (setup_of s.config) before l ≡ true) (printed s)
