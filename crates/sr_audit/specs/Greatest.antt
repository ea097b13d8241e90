-- The greatest number so far, of pools that were given or of changes that were refused.
use Rattle.std.specs.Prelude.{◌≡◌, ℕ, Bool, false, nat_le, List, Option, Some, None}
use Rattle.std.specs.BTreeMap.{get}
use Rattle.std.specs.List.{list_any}
use Rattle.std.specs.Ordering.{nat_cmp}
use Rattle.sr_law.specs.declared.line.Line.{Line}
use Rattle.sr_law.specs.Groups.{was_given_past}
use Rattle.sr_law.specs.Order.{refused_past}
use Rattle.sr_audit.specs.declared.greatest_given.GreatestGiven.{GreatestGiven}
use Rattle.sr_audit.specs.declared.greatest_refused.GreatestRefused.{GreatestRefused}

-- the greatest number, if there is one, is this one or a greater one
abbrev pub reaches : ℕ → Option ℕ → Bool
reaches n None = false
reaches n (Some greatest) = nat_le n greatest

-- the index of given pools is that of these lines
abbrev pub TellsGreatest : GreatestGiven → List Line → Type 0
TellsGreatest index before = (vip pool : ℕ) → reaches pool (get nat_cmp index.map vip) ≡ list_any (was_given_past vip pool) before

-- the index of refused changes is that of these lines
abbrev pub TellsRefused : GreatestRefused → List Line → Type 0
TellsRefused index before = (change : ℕ) → reaches change index.change ≡ list_any (refused_past change) before
