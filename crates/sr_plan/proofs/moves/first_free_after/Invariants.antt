use Rattle.std.proofs.Common.{◌≡◌, drop, find}
use Rattle.sr_shadow.specs.Plan.{is_free, with_moved}
use Rattle.sr_plan.proofs.moves.first_free_after.Given as goal

-- the first is among the places that are left
abbrev pub invariant-loop-place : goal.invariant-loop-place
invariant-loop-place l =
    find (is_free (with_moved l.entry.key l.to l.indexed.book.entries)) (drop l.place-index l.places) ≡ find (is_free (with_moved l.entry.key l.to l.indexed.book.entries)) l.places
