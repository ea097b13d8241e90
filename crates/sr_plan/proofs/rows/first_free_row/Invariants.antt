use Rattle.std.proofs.Common.{◌≡◌, drop, find}
use Rattle.sr_base.specs.declared.place.Place.TheVariants.{Row}
use Rattle.sr_shadow.specs.Plan.{is_free}
use Rattle.sr_plan.proofs.rows.first_free_row.Given as goal

-- the first is among the rows that are left
abbrev pub invariant-loop-row : goal.invariant-loop-row
invariant-loop-row l = find (λ row. is_free l.indexed.book.entries (Row row)) (drop l.row-index l.rows) ≡ find (λ row. is_free l.indexed.book.entries (Row row)) l.rows
