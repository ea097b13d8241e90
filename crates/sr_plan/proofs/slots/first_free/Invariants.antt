use Rattle.std.proofs.Common.{◌≡◌, drop, find}
use Rattle.sr_shadow.specs.Plan.{is_free}
use Rattle.sr_plan.proofs.slots.first_free.Given as goal

-- the first is among the places that are left
abbrev pub invariant-loop-place : goal.invariant-loop-place
invariant-loop-place l = find (is_free l.indexed.book.entries) (drop l.place-index l.places) ≡ find (is_free l.indexed.book.entries) l.places
