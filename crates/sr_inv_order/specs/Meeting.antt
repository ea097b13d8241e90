-- The lines of a state meet a clause: each by the lines before it.
use Rattle.std.specs.Prelude.{◌≡◌, true, List, [], ◌∷◌}
use Rattle.sr_inv_facts.specs.InCauses.{setup_of}
use Rattle.sr_law.specs.Order.{meets_order}
use Rattle.sr_law.specs.declared.line.Line.{Line}
use Rattle.sr_machine.specs.Core.{Core, printed}

-- each line has the fact by the lines before it; the newest stands first
abbrev pub EachLine : (List Line → Line → Type 0) → List Line → Type 0
EachLine P [] = Unit {0}
EachLine P (l ∷ before) = P before l × EachLine P before

-- the lines of a state stand in order: ticks rise, updates go in whole groups, places are taken and freed, and each number is in
-- its range
abbrev pub OrderKept : Core → Type 0
OrderKept s = EachLine (λ before l. meets_order (setup_of s.config) before l ≡ true) (printed s)
