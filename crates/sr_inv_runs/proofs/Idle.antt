-- A run round by round leaves every pipe idle.
use Rattle.std.proofs.Common.{◌≡◌, ℕ, zero, suc, ◌+◌, ◌<◌, ◌==◌, ◌&&◌, Bool, true, false, List, [], ◌∷◌, length, slice_get, Some, None, Option, option_map, if◌then◌else◌, sym, refl, ap, ◌∙◌, subst, arith}
use Rattle.std.proofs.lemmas.Bool.Decides.{nat_tests}
use Rattle.std.proofs.lemmas.Option.{same_Some, slice_get_within}
use Rattle.std.specs.List.{list_all, range_with_len}
use Rattle.sr_inv_facts.proofs.Lists.{ranged_at}
use Rattle.sr_inv_facts.specs.Readings.{EachPipe}
use Rattle.sr_inv_runs.proofs.Carried.{settled_keeps}
use Rattle.sr_machine.specs.Config.{Config}
use Rattle.sr_machine.specs.Core.{Core, made, opening, step_event}
use Rattle.sr_machine.specs.Opening.{opening_pipes}
use Rattle.sr_machine.specs.Pipe.{fresh_pipe, is_idle}
use Rattle.sr_machine.specs.Settling.{settled_in}
use Rattle.sr_machine.specs.Telling.{told_to_refuse}
use Rattle.sr_machine.specs.Controller.{controller_op}
use Rattle.sr_machine.specs.declared.actor.Actor.TheVariants as actor
use Rattle.sr_machine.specs.declared.controller_view.ControllerView.{ControllerView}
use Rattle.sr_machine.specs.declared.event.Event.{Event}
use Rattle.sr_machine.specs.declared.event.Event.TheVariants.{Due, Enter, Refuse, Step}
use Rattle.sr_machine.specs.declared.op.Op.{Op}
use Rattle.sr_machine.specs.declared.pipe_view.PipeView.{PipeView}
use Rattle.sr_machine.specs.declared.settled.Settled.{Settled}
use Rattle.sr_machine.specs.declared.view.View.TheVariants.{OfController}
use Rattle.sr_picks.specs.Play.{ActsTo, Play, has_ended, is_handled, is_over, pipe_idle, pipes_of, share_of, turns_ended}
use Rattle.sr_picks.specs.Run.{RoundsByActs, round_begun}
use Rattle.sr_rounds.specs.declared.round.Round.{Round}
use Rattle.sr_rounds.specs.declared.timed.Timed.{Timed}

-- each pipe is idle
abbrev pub AreIdle : Core → Type 0
AreIdle s = EachPipe (λ p v. is_idle v.stage ≡ true) s.pipes

parts : (a b : Bool) → (a && b) ≡ true → (a ≡ true) × (b ≡ true)
parts true b e = (refl, e)
parts false b e = cc

-- ---- a round that is over

pub all_at : (test : ℕ → Bool) (low count n : ℕ) → list_all test (range_with_len low count) ≡ true → n < count → test (low + n) ≡ true
all_at test low zero n e h = absurd (omega arith)
all_at test low (suc count) zero e h = ap test (omega arith) ∙ (parts (test low) (list_all test (range_with_len (low + 1) count)) e).0
all_at test low (suc count) (suc n) e h =
    ap test (omega arith) ∙ all_at test (low + 1) count n (parts (test low) (list_all test (range_with_len (low + 1) count)) e).1 (omega arith)

over_idle : (p : Play) → length p.state.pipes ≡ p.state.config.layout.shape.pipes → is_over p ≡ true → AreIdle p.state
over_idle p count over = λ i v there.
    let within : i < p.state.config.layout.shape.pipes = subst (λ n. i < n) count (slice_get_within p.state.pipes i v there) in
    let ended : has_ended p i ≡ true = ap (has_ended p) (omega arith) ∙ all_at (has_ended p) 0 (pipes_of p + 1) i over (omega (arith, within)) in
    at i v there (i == pipes_of p) (grind (arith, nat_tests)) ended
  where
    at : (i : ℕ) (v : PipeView) → slice_get p.state.pipes i ≡ Some v → (b : Bool) → b ≡ false
        → (if b then turns_ended p else (pipe_idle (slice_get p.state.pipes i) && is_handled (share_of (slice_get p.shares i)))) ≡ true
        → is_idle v.stage ≡ true
    at i v there true e h = cc
    at i v there false e h =
        ap pipe_idle (sym there) ∙ (parts (pipe_idle (slice_get p.state.pipes i)) (is_handled (share_of (slice_get p.shares i))) h).0

module _ (P : Core → Type 0) (count : (s : Core) → P s → length s.pipes ≡ s.config.layout.shape.pipes) where
  pub rounds_idle : (packets : List Timed) (rounds : List Round) (s t : Core)
      → ((r : Round) (s : Core) (q : Play) → P s → ActsTo (round_begun packets r 0 s) q → P q.state) → P s
      → AreIdle s
      → RoundsByActs packets rounds s t
      → AreIdle t
  rounds_idle packets [] s t acts p idle e = subst AreIdle (sym e) idle
  rounds_idle packets (r ∷ rest) s t acts p idle (q, to, more) =
      let there = acts r s q p to in
      rounds_idle packets rest q.state t acts there (over_idle q (count q.state there) to.2) more

-- ---- the turns after the last round

abbrev IsControllers : Event → Type 0
IsControllers (Step actor.Controller) = Unit {0}
IsControllers Refuse = Unit {0}
IsControllers e = ⊥

-- what the controller does leaves the pipes as they are
controllers_leave : (s t : Core) (e : Event) → IsControllers e → step_event e s ≡ Some t → t.pipes ≡ s.pipes
controllers_leave s t (Step actor.Controller) own q = at (controller_op s.config s.controller) q
  where
    at : (o : Option Op) → option_map (made s actor.Controller (OfController s.controller)) o ≡ Some t → t.pipes ≡ s.pipes
    at None g = cc
    at (Some o) g = ap (λ (u : Core). u.pipes) (sym (same_Some _ t g))
controllers_leave s t Refuse own q = at (told_to_refuse s.controller) q
  where
    at : (o : Option ControllerView) → option_map (λ d. record s { controller = d }) o ≡ Some t → t.pipes ≡ s.pipes
    at None g = cc
    at (Some d) g = ap (λ (u : Core). u.pipes) (sym (same_Some (record s { controller = d }) t g))
controllers_leave s t (Step (actor.Pipe p)) own q = absurd own
controllers_leave s t (Enter p packet) own q = absurd own
controllers_leave s t (Due ms) own q = absurd own

pub settled_leaves : (n : ℕ) (s t : Core) (r : Settled) → settled_in n s ≡ Some (r, t) → t.pipes ≡ s.pipes
settled_leaves n s t r e =
    settled_keeps (λ u. u.pipes ≡ s.pipes) IsControllers (λ u v e h own q. controllers_leave u v e own q ∙ h) tt tt n s t r refl e

pub settled_idle : (n : ℕ) (s t : Core) (r : Settled) → AreIdle s → settled_in n s ≡ Some (r, t) → AreIdle t
settled_idle n s t r idle e = subst (EachPipe (λ p v. is_idle v.stage ≡ true)) (sym (settled_leaves n s t r e)) idle

-- ---- the opening

pub opening_idle : (k : Config) → AreIdle (opening k)
unfolding opening_pipes
opening_idle k = λ p v there.
    ap is_idle (ap (λ u. u.stage) (ranged_at fresh_pipe 0 k.layout.shape.pipes p v there))
