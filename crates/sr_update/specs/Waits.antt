-- For which keys of the controller's book an update waits.
use Rattle.std.specs.Prelude.{ℕ, Bool, ◌&&◌, ◌==◌, nat_lt, List, find, Option}
use Rattle.sr_shadow.specs.Entry.{is_pending, has_version}
use Rattle.sr_shadow.specs.declared.entry.Entry.{Entry}

-- in Recording: a pending key of the virtual address that was taken before the mark
abbrev pub recording_waits_for : ℕ → ℕ → Entry → Bool
recording_waits_for vip mark e = is_pending e && ((e.key.vip == vip) && nat_lt e.taken mark)

-- in Transit: a pending key of the virtual address with the number that is replaced
abbrev pub transit_waits_for : ℕ → ℕ → Entry → Bool
transit_waits_for vip replaced e = is_pending e && has_version vip replaced e

-- the first key for which the update waits before it leaves Recording
abbrev pub first_before_hold : ℕ → ℕ → List Entry → Option Entry
first_before_hold vip mark entries = find (recording_waits_for vip mark) entries

-- the first key for which the update waits before it leaves Transit
abbrev pub first_before_finish : ℕ → ℕ → List Entry → Option Entry
first_before_finish vip replaced entries = find (transit_waits_for vip replaced) entries
