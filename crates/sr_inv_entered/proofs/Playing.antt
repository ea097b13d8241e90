-- In a round each act keeps the sum of what came and what is left of the shares.
use Rattle.std.proofs.Common.{◌≡◌, ℕ, zero, suc, ◌+◌, ◌<◌, ◌≤◌, ◌^◌, ◌==◌, ◌&&◌, Bool, true, false, List, [], ◌∷◌, length, slice_get, slice_set, sum_by, if◌then◌else◌, Option, Some, None, sym, refl, ap, ◌∙◌, subst, arith}
use Rattle.std.proofs.lemmas.Bool.{and_parts}
use Rattle.std.proofs.lemmas.Bool.Decides.{nat_tests}
use Rattle.std.proofs.lemmas.List.Sums.{sum_by-append, sum_by-cons}
use Rattle.std.proofs.lemmas.Option.{slice_get_within}
use Rattle.std.specs.List.{AllByRecursion}
use Rattle.sr_base.specs.declared.packet.Packet.{Packet}
use Rattle.sr_inv_entered.proofs.Standing.{IsStill, Stands, after_stands, came_on, entry_stands, still_stands}
use Rattle.sr_inv_entered.specs.Entered.{MayEnter}
use Rattle.sr_inv_facts.proofs.Lists.{all_got, all_set, length_set}
use Rattle.sr_inv_facts.proofs.Pipes.{pipe_there}
use Rattle.sr_inv_facts.proofs.Sums.{sum_at, sum_least}
use Rattle.sr_inv_final.proofs.Entering.{times}
use Rattle.sr_inv_runs.proofs.Carried.{turn_keeps}
use Rattle.sr_inv_runs.proofs.Idle.{all_at}
use Rattle.sr_law.specs.Final.{same_packet}
use Rattle.sr_machine.specs.Config.{Config}
use Rattle.sr_machine.specs.Pipe.{is_idle}
use Rattle.sr_machine.specs.Turning.{most_steps}
use Rattle.sr_machine.specs.declared.actor.Actor.TheVariants as actor
use Rattle.sr_machine.specs.declared.event.Event.TheVariants.{Enter, Step}
use Rattle.sr_machine.specs.declared.pipe_view.PipeView.{PipeView}
use Rattle.sr_picks.specs.Play.{ActsTo, Play, act_of, acted, controller_picked, has_ended, is_handled, is_over, pipe_idle, pipe_picked, pipes_of, share_of, stepped_by, turns_ended}
use Rattle.sr_picks.specs.Turn.{after}

-- In this play so many packets came or are left in a share, and this packet so often.
pub record Holds (k : Config) (packet : Packet) (all own : ℕ) (p : Play) : Type 0 where
  pub came : ℕ
  pub often : ℕ
  pub stands : Stands k packet came often p.state
  pub shares : length p.shares ≡ k.layout.shape.pipes
  pub may : AllByRecursion (AllByRecursion (MayEnter k)) p.shares
  pub sum : came + sum_by length p.shares ≡ all
  pub sum_own : often + sum_by (times packet) p.shares ≡ own

module _ (k : Config) (packet : Packet) (all own : ℕ) (few : all < 2 ^ 32) where
  -- ---- a pipe

  -- its next step
  step_holds : (p : Play) (i : ℕ) → Holds k packet all own p
      → Holds k packet all own (record p { state = after (Step (actor.Pipe i)) p.state })
  step_holds p i h = record {
    came = h.came;
    often = h.often;
    stands = after_stands k packet h.came h.often p.state (Step (actor.Pipe i)) h.stands tt;
    shares = h.shares;
    may = h.may;
    sum = h.sum;
    sum_own = h.sum_own;
  }

  -- an idle one takes the next packet of its share
  enter_holds : (p : Play) (i : ℕ) (v : PipeView) (y : Packet) (rest : List Packet) → Holds k packet all own p
      → slice_get p.state.pipes i ≡ Some v
      → is_idle v.stage ≡ true → slice_get p.shares i ≡ Some (y ∷ rest)
      → Holds k packet all own (record p { state = after (Enter i y) p.state; shares = slice_set p.shares i rest })
  enter_holds p i v y rest h there idle share =
      let may : AllByRecursion (MayEnter k) (y ∷ rest) = all_got (AllByRecursion (MayEnter k)) p.shares i (y ∷ rest) h.may share in
      let left = sum_at length p.shares i (y ∷ rest) rest share in
      let left_own = sum_at (times packet) p.shares i (y ∷ rest) rest share in
      let split : times packet (y ∷ rest) ≡ times packet (y ∷ []) + times packet rest =
      sum_by-append (λ z. if same_packet packet z then 1 else 0) (y ∷ []) rest in
      let lines : length v.lines ≤ h.came = omega (arith, sum_least came_on p.state.pipes i v there, h.stands.all) in
      let some : length (y ∷ rest) ≤ sum_by length p.shares = sum_least length p.shares i (y ∷ rest) share in
      let most = h.sum in
      let room : length v.lines + 1 < 2 ^ 32 = omega (arith, lines, some, most, few) in record {
        came = h.came + 1;
        often = h.often + times packet (y ∷ []);
        stands = entry_stands k packet h.came h.often p.state i v y h.stands there idle may.0 (grind (arith, nat_tests, room));
        shares = length_set p.shares i rest ∙ h.shares;
        may = all_set (AllByRecursion (MayEnter k)) p.shares i rest h.may may.1;
        sum = omega (arith, left, most);
        sum_own = let once = h.sum_own in omega (arith, left_own, split, once);
      }

  -- a pipe of a share is there, and idle where it is picked so
  takes_holds : (p : Play) (i : ℕ) (y : Packet) (rest : List Packet) → Holds k packet all own p
      → pipe_idle (slice_get p.state.pipes i) ≡ true → slice_get p.shares i ≡ Some (y ∷ rest)
      → Holds k packet all own (record p { state = after (Enter i y) p.state; shares = slice_set p.shares i rest })
  takes_holds p i y rest h idle share =
      let within : i < length p.state.pipes =
      subst (λ n. i < n) (h.shares ∙ sym h.stands.pipes) (slice_get_within p.shares i (y ∷ rest) share) in
      let there = pipe_there p.state.pipes i within in
      enter_holds p i there.0 y rest h there.1 (sym (ap pipe_idle there.1) ∙ idle) share

  stepped_holds : (p : Play) (i : ℕ) (idle : Bool) (share : Option (List Packet)) → Holds k packet all own p
      → pipe_idle (slice_get p.state.pipes i) ≡ idle → slice_get p.shares i ≡ share
      → Holds k packet all own (stepped_by p i idle (share_of share))
  stepped_holds p i true None h a b = step_holds p i h
  stepped_holds p i true (Some []) h a b = step_holds p i h
  stepped_holds p i true (Some (y ∷ rest)) h a b =
      step_holds (record p { state = after (Enter i y) p.state; shares = slice_set p.shares i rest }) i (takes_holds p i y rest h a b)
  stepped_holds p i false None h a b = step_holds p i h
  stepped_holds p i false (Some []) h a b = step_holds p i h
  stepped_holds p i false (Some (y ∷ rest)) h a b = step_holds p i h

  -- ---- an act

  turn_holds : (p : Play) → Holds k packet all own p → Holds k packet all own (controller_picked p)
  turn_holds p h = record {
    came = h.came;
    often = h.often;
    stands =
        turn_keeps (Stands k packet h.came h.often) IsStill (still_stands k packet h.came h.often) tt tt
        (most_steps p.state.config.layout) p.state h.stands;
    shares = h.shares;
    may = h.may;
    sum = h.sum;
    sum_own = h.sum_own;
  }

  act_holds : (p : Play) (i : ℕ) (b : Bool) → Holds k packet all own p
      → Holds k packet all own (if b then controller_picked p else pipe_picked p i)
  act_holds p i true h = turn_holds p h
  act_holds p i false h = stepped_holds p i (pipe_idle (slice_get p.state.pipes i)) (slice_get p.shares i) h refl refl

  acted_holds : (actors : List ℕ) (p : Play) → Holds k packet all own p → Holds k packet all own (acted actors p)
  acted_holds [] p h = h
  acted_holds (i ∷ rest) p h = acted_holds rest (act_of p i) (act_holds p i (i == pipes_of p) h)

  -- ---- the end of a round

  -- a share is used up
  over_handled : (p : Play) → length p.shares ≡ pipes_of p → is_over p ≡ true → (i : ℕ) (share : List Packet)
      → slice_get p.shares i ≡ Some share → is_handled share ≡ true
  over_handled p count over i share there =
      let within : i < pipes_of p = subst (λ n. i < n) count (slice_get_within p.shares i share there) in
      let ended : has_ended p i ≡ true = ap (has_ended p) (omega arith) ∙ all_at (has_ended p) 0 (pipes_of p + 1) i over (omega (arith, within)) in
      at (i == pipes_of p) (grind (arith, nat_tests)) ended
    where
      at : (b : Bool) → b ≡ false
          → (if b then turns_ended p else (pipe_idle (slice_get p.state.pipes i) && is_handled (share_of (slice_get p.shares i)))) ≡ true
          → is_handled share ≡ true
      at true e h = cc
      at false e h =
          ap (λ o. is_handled (share_of o)) (sym there)
          ∙ (and_parts (pipe_idle (slice_get p.state.pipes i)) (is_handled (share_of (slice_get p.shares i))) h).1

  -- of shares that are used up nothing is left
  none_left : (count : List Packet → ℕ) → count [] ≡ 0 → (shares : List (List Packet))
      → ((i : ℕ) (share : List Packet) → slice_get shares i ≡ Some share → is_handled share ≡ true) → sum_by count shares ≡ 0
  none_left count none [] h = refl
  none_left count none ([] ∷ rest) h =
      omega (arith, none, sum_by-cons count [] rest, none_left count none rest (λ i share e. h (suc i) share e))
  none_left count none ((y ∷ ys) ∷ rest) h = absurd (used (h 0 (y ∷ ys) refl))
    where
      used : is_handled (y ∷ ys) ≡ true → ⊥
      used e = cc

  -- so at its end all came
  pub acts_stand : (p q : Play) → Holds k packet all own p → ActsTo p q → Stands k packet all own q.state
  acts_stand p q h acts =
      let g : Holds k packet all own q = subst (Holds k packet all own) acts.1 (acted_holds acts.0 p h) in
      let count : length q.shares ≡ pipes_of q = g.shares ∙ sym (ap (λ c. c.layout.shape.pipes) g.stands.config) in
      let used = over_handled q count acts.2 in
      let came : g.came ≡ all = omega (arith, g.sum, none_left length refl q.shares used) in
      let often : g.often ≡ own = omega (arith, g.sum_own, none_left (times packet) refl q.shares used) in
      subst (λ n. Stands k packet n own q.state) came (subst (λ m. Stands k packet g.came m q.state) often g.stands)
