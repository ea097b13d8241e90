use Rattle.std.proofs.Common.{◌≡◌, drop}
use Rattle.std.specs.List.{list_any}
use Rattle.sr_script.specs.Spelled.{takes_down}
use Rattle.sr_script.proofs.change_list.is_down.Given as goal

-- what is left has the change where all have it
abbrev pub invariant-loop-change : goal.invariant-loop-change
invariant-loop-change l =
    list_any (λ c. takes_down l.server c.what) (drop l.change-index l.changes) ≡ list_any (λ c. takes_down l.server c.what) l.changes
