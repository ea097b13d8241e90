-- A turn that ends an act is the machine's turn.
use Rattle.std.proofs.Common.{◌≡◌, ℕ, zero, suc, Option, None, Some, refl, sym, ◌∙◌, ap, option_and_then, option_map}
use Rattle.sr_machine.specs.Controller.{controller_op}
use Rattle.sr_machine.specs.Core.{Core}
use Rattle.sr_machine.specs.Turning.{controlled, over_or, turn_of_op, turned_in}
use Rattle.sr_machine.specs.declared.op.Op.{Op}
use Rattle.sr_machine.specs.declared.turn.Turn.{Turn}
use Rattle.sr_picks.specs.Turn.{Turned, ended_or, turn_in, turn_on}

-- a turn as the machine has it, of what the steps came to
abbrev pub as_turn : Turned → Option (Turn × Core)
as_turn t = option_map (λ a. (a, t.state)) t.answer

ends_as : (s : Core) (end : Option Turn) (rest : Turned) → as_turn (ended_or s end rest) ≡ over_or s end (as_turn rest)
ends_as s (Some t) rest = refl
ends_as s None rest = refl

goes_as : (s : Core) (n : ℕ) (o : Option Op) → ((t : Core) → as_turn (turn_in n t) ≡ turned_in n t)
    → as_turn (turn_on s (turn_in n) o)
    ≡ option_and_then (λ p. over_or (controlled s p) (turn_of_op s p) (turned_in n (controlled s p))) o
goes_as s n None same = refl
goes_as s n (Some o) same =
    ends_as (controlled s o) (turn_of_op s o) (turn_in n (controlled s o))
    ∙ ap (over_or (controlled s o) (turn_of_op s o)) (same (controlled s o))

-- the steps of a turn come to what the machine's turn is
pub turns_as : (n : ℕ) (s : Core) → as_turn (turn_in n s) ≡ turned_in n s
turns_as zero s = refl
turns_as (suc n) s = goes_as s n (controller_op s.config s.controller) (turns_as n)

pub is_turn : (n : ℕ) (s : Core) (t : Turn) → (turn_in n s).answer ≡ Some t → turned_in n s ≡ Some (t, (turn_in n s).state)
is_turn n s t e = sym (turns_as n s) ∙ ap (option_map (λ a. (a, (turn_in n s).state))) e
