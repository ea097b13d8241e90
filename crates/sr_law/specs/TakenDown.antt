-- Cause, in part: when a server that was taken down may still be sent to.
use Rattle.std.specs.Prelude.{ℕ, Bool, false, ◌&&◌, ◌||◌, ◌==◌, nat_lt, List, [], ◌∷◌}
use Rattle.std.specs.List.{list_any}
use Rattle.sr_law.specs.declared.line.Line.{Line}
use Rattle.sr_law.specs.declared.line.Line.TheVariants.{TakenDown}
use Rattle.sr_law.specs.Ticks.{out_of, is_controller}

-- the line takes this server down
abbrev pub takes_down : ℕ → Line → Bool
takes_down server (TakenDown out down) = down == server
takes_down server line = false

-- the server was taken down
abbrev pub is_down : List Line → ℕ → Bool
is_down before server = list_any (takes_down server) before

-- the line takes this server down before this tick
abbrev pub takes_down_before : ℕ → ℕ → Line → Bool
takes_down_before server tick line = takes_down server line && nat_lt (out_of line) tick

-- the controller did something else after it had taken this server down, both before this tick: then all saw it
abbrev pub is_known_down : List Line → ℕ → ℕ → Bool
is_known_down [] server tick = false
is_known_down (line ∷ before) server tick =
    (is_controller line && nat_lt (out_of line) tick && list_any (takes_down_before server tick) before) || is_known_down before server tick
