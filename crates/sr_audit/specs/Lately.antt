-- The lines that can stand in a line's way: those that were out at its start or later. In a list in order they are the newest ones.
use Rattle.std.specs.Prelude.{Bool, false, ◌||◌, ◌≤◌, ◌<◌, ℕ, nat_le, nat_lt, List, [], ◌∷◌, Option, Some, None}
use Rattle.std.specs.List.{list_any, take_while}
use Rattle.sr_law.specs.declared.line.Line.{Line}
use Rattle.sr_law.specs.declared.line.Line.TheVariants.{Packet, Swept}
use Rattle.sr_law.specs.Rising.{share_tick, was_in_pipe, was_controlling}
use Rattle.sr_law.specs.Ticks.{out_of, start_of}

-- the earlier line is of the same actor, and was out at this line's start or later
abbrev pub is_in_way : Line → Line → Bool
is_in_way (Packet number entered out pipe key kind verdict) earlier = was_in_pipe pipe entered earlier
is_in_way (Swept number from to at_ms) earlier = was_controlling from earlier
is_in_way line earlier = false

-- it is, or has a tick in common with this line
abbrev pub crosses : Line → Line → Bool
crosses line earlier = share_tick line earlier || is_in_way line earlier

-- it was out at this line's start or later
abbrev pub is_late : Line → Line → Bool
is_late line earlier = nat_le (start_of line) (out_of earlier)

-- some line of the newest, those that were out at this line's start or later, crosses it
unfoldable pub crosses_lately : List Line → Line → Bool
crosses_lately before line = list_any (crosses line) (take_while (is_late line) before)

-- each of these lines was out before this tick
abbrev pub AreOut : ℕ → List Line → Type 0
AreOut tick [] = Unit {0}
AreOut tick (line ∷ before) = (out_of line < tick) × AreOut tick before

-- each line was out after those before it, and none began after it was out
abbrev pub Falls : List Line → Type 0
Falls [] = Unit {0}
Falls (line ∷ before) = (start_of line ≤ out_of line) × AreOut (out_of line) before × Falls before

-- there is a tick, and it is before this one
abbrev pub was_before : Option ℕ → ℕ → Bool
was_before None tick = false
was_before (Some earlier) tick = nat_lt earlier tick
