-- Order, in part: how ticks rise.
use Rattle.std.specs.Prelude.{ℕ, Bool, true, false, not, ◌&&◌, ◌||◌, ◌==◌, nat_lt, nat_le, if◌then◌else◌, List, [], ◌∷◌}
use Rattle.std.specs.List.{list_any}
use Rattle.sr_law.specs.declared.line.Line.{Line}
use Rattle.sr_law.specs.declared.line.Line.TheVariants.{Packet, Swept}
use Rattle.sr_law.specs.Ticks.{out_of, start_of, is_controller}

-- a line comes after the one before it
abbrev pub after_last : List Line → Line → Bool
after_last [] line = true
after_last (last ∷ before) line = nat_lt (out_of last) (out_of line)

-- a packet's line and a sweep's have two ticks, all others have one
abbrev pub has_two_ticks : Line → Bool
has_two_ticks (Packet number entered out pipe key kind verdict) = true
has_two_ticks (Swept number from to at_ms) = true
has_two_ticks line = false

-- ticks begin at 1, and a line that has two ticks started before it was out
abbrev pub is_in_time : Line → Bool
is_in_time line = nat_le 1 (start_of line) && (if has_two_ticks line then nat_lt (start_of line) (out_of line) else nat_le (start_of line) (out_of line))

-- two lines have a tick in common
abbrev pub share_tick : Line → Line → Bool
share_tick a b = ((out_of a == out_of b) || (out_of a == start_of b)) || ((start_of a == out_of b) || (start_of a == start_of b))

-- no tick of a line was drawn before
abbrev pub has_new_ticks : List Line → Line → Bool
has_new_ticks before line = not (list_any (share_tick line) before)

-- a packet's line that was out at this tick of its pipe or later
abbrev pub was_in_pipe : ℕ → ℕ → Line → Bool
was_in_pipe pipe tick (Packet number entered out at key kind verdict) = (at == pipe) && nat_le tick out
was_in_pipe pipe tick line = false

-- a controller's line that was out at this tick or later
abbrev pub was_controlling : ℕ → Line → Bool
was_controlling tick line = is_controller line && nat_le tick (out_of line)

-- each actor does one thing after another: a packet enters when the one before it on its pipe is out, and a sweep begins when the
-- controller's line before it is out
abbrev pub one_by_one : List Line → Line → Bool
one_by_one before (Packet number entered out pipe key kind verdict) = not (list_any (was_in_pipe pipe entered) before)
one_by_one before (Swept number from to at_ms) = not (list_any (was_controlling from) before)
one_by_one before line = true

-- the ticks of a line rise, in the list, on its pipe and in the line itself
unfoldable pub rises : List Line → Line → Bool
rises before line = after_last before line && is_in_time line && has_new_ticks before line && one_by_one before line
