-- The servers that were taken down, and since when that is known.
use Rattle.std.specs.Prelude.{◌≡◌, ℕ, Bool, true, false, ◌&&◌, if◌then◌else◌, List, [], ◌∷◌, Option, Some, None}
use Rattle.std.specs.BTreeMap.{get}
use Rattle.std.specs.Option.{option_or}
use Rattle.std.specs.Ordering.{nat_cmp}
use Rattle.sr_law.specs.Server.{is_number}
use Rattle.sr_law.specs.declared.line.Line.{Line}
use Rattle.sr_law.specs.TakenDown.{is_down}
use Rattle.sr_law.specs.Ticks.{out_of, is_controller}
use Rattle.sr_audit.specs.declared.downs.Downs.{Downs}

-- the tick of the first line of the controller after one that took this server down
abbrev pub known_from : List Line → ℕ → Option ℕ
known_from [] server = None
known_from (line ∷ before) server =
    option_or (known_from before server) (if is_controller line && is_down before server then Some (out_of line) else None)

-- that tick, if there is one yet, where this server was taken down
abbrev pub down_of : List Line → ℕ → Option (Option ℕ)
down_of before server = if is_down before server then Some (known_from before server) else None

-- the server was taken down, and there is no such tick yet
abbrev pub is_unknown : Option (Option ℕ) → Bool
is_unknown None = false
is_unknown (Some None) = true
is_unknown (Some (Some tick)) = false

-- the index is that of these lines: one server at most was taken down and isn't known to be
pub record TellsDowns (index : Downs) (before : List Line) : Type 0 where
  pub each : (server : ℕ) → get nat_cmp index.since server ≡ down_of before server
  pub pending : (server : ℕ) → is_unknown (down_of before server) ≡ is_number index.pending server
