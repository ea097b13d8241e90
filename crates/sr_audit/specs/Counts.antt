-- How many connections a list of lines opens, and how many switches it tells of.
use Rattle.std.specs.Prelude.{ℕ, ◌+◌, Bool, true, false, not, ◌&&◌, if◌then◌else◌, List, [], ◌∷◌, Option, Some, None, is_some}
use Rattle.sr_base.specs.Key.{KeyView}
use Rattle.sr_law.specs.Opening.{is_open, opened_by}
use Rattle.sr_law.specs.Ticks.{key_of}
use Rattle.sr_law.specs.declared.line.Line.{Line}
use Rattle.sr_law.specs.declared.line.Line.TheVariants.{Switched}

-- the line is the opening of a connection of this key: it isn't open by the lines before, and the line sends an opener of it to
-- a server
abbrev pub opens_key : List Line → Line → Option KeyView → Bool
opens_key before line None = false
opens_key before line (Some key) = not (is_open before key) && is_some (opened_by line key)

-- the line is an opening
abbrev pub opens : List Line → Line → Bool
opens before line = opens_key before line (key_of line)

-- how many of these lines are, the newest first; a connection that was retired may be opened anew
abbrev pub openings_in : List Line → ℕ
openings_in [] = 0
openings_in (line ∷ before) = (if opens before line then 1 else 0) + openings_in before

-- the line tells of a switch of a virtual address to a pool
abbrev pub is_switch : Line → Bool
is_switch (Switched out vip pool) = true
is_switch line = false
