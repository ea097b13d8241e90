-- How much of a round is left at most: a number that every pick lowers, so that a round ends.
use Rattle.std.specs.Prelude.{◌≡◌, ℕ, ◌+◌, ◌-◌, ◌*◌, ◌<◌, false, length}
use Rattle.std.specs.List.{sum_by}
use Rattle.sr_machine.specs.Bounds.{stage_left}
use Rattle.sr_picks.specs.Play.{Play, act_of, has_ended, most_turns}

-- the controller's turns, the steps of the packets in hand, and 26 picks for each packet that hasn't entered
abbrev pub left_of : Play → ℕ
left_of p = (most_turns - p.turns) + sum_by (λ v. stage_left v.stage) p.state.pipes + 26 * sum_by length p.shares

-- An actor that hasn't ended its round lowers it.
abbrev pub PicksLower : Type 0
PicksLower = (p : Play) (i : ℕ) → has_ended p i ≡ false → left_of (act_of p i) < left_of p
