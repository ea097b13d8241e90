-- Each step of a turn but the last lowers the number of steps that the turn makes yet.
use Rattle.std.proofs.Common.{◌≡◌, ℕ, suc, ◌<◌, ◌≤◌, ◌==◌, Bool, true, false, List, [], ◌∷◌, length, take, Option, Some, None, ◌⊎◌, inl, inr, refl, sym, ap, ◌∙◌, arith, if◌then◌else◌}
use Rattle.std.proofs.lemmas.Bool.{true≢false}
use Rattle.sr_base.specs.Layout.{LayoutView}
use Rattle.sr_base.specs.declared.vip_word.Phase.{Phase}
use Rattle.sr_base.specs.declared.vip_word.Phase.TheVariants.{Steady, Recording, Holding, Transit}
use Rattle.sr_machine.specs.Begins.{Begins, refuses, takes_down, holds, finishes, changes, answers, places_held, has_no_place, places, retires, sweeps, releases, looks}
use Rattle.sr_machine.specs.Bounds.{TurnsAreShort, TurnsEnd, cleared_left, comes_left, draw_left, job_left, store_left, vip_left}
use Rattle.sr_machine.specs.Config.{Config}
use Rattle.sr_machine.specs.Controller.{begun_after}
use Rattle.sr_machine.specs.Goes.{Goes, stays_free, taken_down, given, comes, reserved, placed, cleared, retired, phase_stored, reserve_stored, judged_live, judged_withdrawn, emptied, look_next, look_last, look_took}
use Rattle.sr_machine.specs.Starting.{Start, begun, first_act, start_by}
use Rattle.sr_machine.specs.Turning.{ends_with, most_steps, turn_at, turn_from}
use Rattle.sr_machine.specs.Waiting.{has_next}
use Rattle.sr_machine.specs.declared.controller_view.ControllerView.{ControllerView}
use Rattle.sr_machine.specs.declared.draw.Draw.{Draw}
use Rattle.sr_machine.specs.declared.draw.Draw.TheVariants as draw
use Rattle.sr_machine.specs.declared.job.Job.{Job}
use Rattle.sr_machine.specs.declared.job.Job.TheVariants as job
use Rattle.sr_machine.specs.declared.store.Store.{Store}
use Rattle.sr_machine.specs.declared.store.Store.TheVariants as store
use Rattle.sr_machine.specs.declared.turn.Turn.{Turn}
use Rattle.sr_machine.specs.declared.why.Why.{Why}
use Rattle.sr_machine.specs.declared.why.Why.TheVariants as why
use Rattle.sr_machine.proofs.Following.{first_begins, goes}

-- ---- how many

cleared_some : (w : Why) → (1 ≤ cleared_left w) × (cleared_left w ≤ 2)
cleared_some (why.Withdrawn reply) = (omega arith, omega arith)
cleared_some why.Source = (omega arith, omega arith)
cleared_some (why.Retired version) = (omega arith, omega arith)

comes_some : (p : Phase) → (2 ≤ comes_left p) × (comes_left p ≤ 3) × (2 ≤ vip_left p) × (vip_left p ≤ 3)
comes_some Steady = (omega arith, omega arith, omega arith, omega arith)
comes_some Recording = (omega arith, omega arith, omega arith, omega arith)
comes_some Holding = (omega arith, omega arith, omega arith, omega arith)
comes_some Transit = (omega arith, omega arith, omega arith, omega arith)

draw_some : (d : Draw) → (1 ≤ draw_left d) × (draw_left d ≤ 4)
draw_some (draw.Grace w) = (omega arith, omega arith)
draw_some (draw.Refused change) = (omega arith, omega arith)
draw_some (draw.TakenDown server) = (omega arith, omega arith)
draw_some (draw.Given u) = (omega arith, omega arith)
draw_some (draw.Comes u p) = let h = comes_some p in (omega (arith, h.0), omega (arith, h.1))
draw_some (draw.Reserved p) = (omega arith, omega arith)
draw_some (draw.Placed p) = (omega arith, omega arith)
draw_some (draw.Cleared key place w) = let h = cleared_some w in (h.0, omega (arith, h.1))
draw_some (draw.Retired key place version) = (omega arith, omega arith)
draw_some (draw.Answer r) = (omega arith, omega arith)
draw_some (draw.From ms) = (omega arith, omega arith)
draw_some (draw.Swept from ms) = (omega arith, omega arith)

store_some : (s : Store) → (1 ≤ store_left s) × (store_left s ≤ 4)
store_some (store.Down server) = (omega arith, omega arith)
store_some (store.Member u index) = (omega arith, omega arith)
store_some (store.Head u) = (omega arith, omega arith)
store_some (store.Vip u p) = let h = comes_some p in (omega (arith, h.2), omega (arith, h.3))
store_some (store.Filter u index) = (omega arith, omega arith)
store_some (store.Reserved p) = (omega arith, omega arith)
store_some (store.Judge p) = (omega arith, omega arith)
store_some (store.Empty key place w) = let h = cleared_some w in (omega (arith, h.0), omega (arith, h.1))

-- no more than a turn makes
job_most : (l : LayoutView) (j : Job) → job_left l j ≤ most_steps l
job_most l job.Free = omega arith
job_most l (job.Draw d) = omega (arith, (draw_some d).1)
job_most l (job.Store s) = omega (arith, (store_some s).1)
job_most l (job.Pass grace pipe w) = omega arith
job_most l (job.Drain pipe count w) = omega arith
job_most l (job.Look pipe) = omega arith
job_most l (job.Hit from ms key place taken) = omega arith

-- ---- where a turn begins

first_some : (k : Config) (c : ControllerView) (s : Start) → Begins k c s → 1 ≤ job_left k.layout s.job
first_some k c s (refuses g rest a b) = omega arith
first_some k c s (takes_down o rest a b) = omega arith
first_some k c s (holds u a b d) = omega arith
first_some k c s (finishes u a b d) = omega arith
first_some k c s (changes g rest number a b d e) = omega arith
first_some k c s (answers h rest e a b) = omega arith
first_some k c s (places_held h rest p a b d) = omega arith
first_some k c s (has_no_place h rest a b d) = omega arith
first_some k c s (places e p a b d) = omega arith
first_some k c s (retires e place a b) = omega arith
first_some k c s (sweeps ms a b) = omega arith
first_some k c s (releases vip version a) = omega arith
first_some k c s (looks a) = omega arith

start_some : (k : Config) (c : ControllerView) (j : Job) → 1 ≤ job_left k.layout (start_by k c j).job
start_some k c job.Free = first_some k c (first_act k c) (first_begins k c)
start_some k c (job.Draw d) = (draw_some d).0
start_some k c (job.Store s) = (store_some s).0
start_some k c (job.Pass grace pipe w) = omega arith
start_some k c (job.Drain pipe count w) = omega arith
start_some k c (job.Look pipe) = omega arith
start_some k c (job.Hit from ms key place taken) = omega arith

-- ---- a step that doesn't end the turn

abbrev Falls : LayoutView → Job → Job → Type 0
Falls l j next = (1 ≤ job_left l next) × (job_left l next < job_left l j)

-- a look that doesn't end the turn found an empty cell, and a pipe is next
look_goes_on : (empty more : Bool) (rest took : Turn) → (if empty then (if more then None else Some rest) else Some took) ≡ None
    → (empty ≡ true) × (more ≡ true)
look_goes_on true true rest took e = (refl, refl)
look_goes_on true false rest took e = cc
look_goes_on false more rest took e = cc

module _ (k : Config) (c : ControllerView) (x : ℕ) where
  falls : (j next : Job) → Goes k c x j next → 1 ≤ job_left k.layout j → turn_at k c j x ≡ None → Falls k.layout j next
  falls j next stays_free h e = absurd (omega (arith, h))
  falls j next (taken_down server) h e = (omega arith, omega arith)
  falls j next (given u) h e = (omega arith, omega arith)
  falls j next (comes u Steady) h e = (omega arith, omega arith)
  falls j next (comes u Recording) h e = (omega arith, omega arith)
  falls j next (comes u Holding) h e = (omega arith, omega arith)
  falls j next (comes u Transit) h e = (omega arith, omega arith)
  falls j next (reserved p) h e = (omega arith, omega arith)
  falls j next (placed p) h e = (omega arith, omega arith)
  falls j next (cleared key place (why.Withdrawn reply)) h e = cc
  falls j next (cleared key place why.Source) h e = cc
  falls j next (cleared key place (why.Retired version)) h e = (omega arith, omega arith)
  falls j next (retired key place version) h e = (omega arith, omega arith)
  falls j next (phase_stored u Steady) h e = (omega arith, omega arith)
  falls j next (phase_stored u Recording) h e = (omega arith, omega arith)
  falls j next (phase_stored u Holding) h e = (omega arith, omega arith)
  falls j next (phase_stored u Transit) h e = (omega arith, omega arith)
  falls j next (reserve_stored p) h e = (omega arith, omega arith)
  falls j next (judged_live p a) h e = (omega arith, omega arith)
  falls j next (judged_withdrawn p a) h e = (omega arith, omega arith)
  falls j next (emptied key place w) h e = ((cleared_some w).0, omega arith)
  falls j next (look_next pipe a b) h e = grind (arith, b)
  falls j next (look_last pipe a b) h e = absurd (true≢false (sym (look_goes_on (x == 0) (has_next k.layout pipe) _ _ e).1 ∙ b))
  falls j next (look_took pipe a) h e = absurd (true≢false (sym (look_goes_on (x == 0) (has_next k.layout pipe) _ _ e).0 ∙ a))
  falls j next g h e = cc

-- ---- a turn

-- the answers of a turn: the first ends it and is the only one, or the others are those of a turn
abbrev Splits : Config → ControllerView → ℕ → List ℕ → Turn × ControllerView → Type 0
Splits k c x xs p = (xs ≡ []) ⊎ ((turn_at k c c.job x ≡ None) × (turn_from k (begun_after k c x) xs ≡ Some p))

splits : (k : Config) (c : ControllerView) (x : ℕ) (xs : List ℕ) (p : Turn × ControllerView) → turn_from k c (x ∷ xs) ≡ Some p
    → Splits k c x xs p
splits k c x xs p e = at (turn_at k c c.job x) xs refl e
  where
    at : (o : Option Turn) (ys : List ℕ) → turn_at k c c.job x ≡ o
        → ends_with (begun_after k c x) o ys (turn_from k (begun_after k c x) xs) ≡ Some p
        → (ys ≡ []) ⊎ ((turn_at k c c.job x ≡ None) × (turn_from k (begun_after k c x) xs ≡ Some p))
    at (Some t) [] q f = inl refl
    at (Some t) (y ∷ ys) q f = cc
    at None ys q f = inr (q, f)

turn_short : (k : Config) (answers : List ℕ) (c : ControllerView) (p : Turn × ControllerView) → 1 ≤ job_left k.layout c.job
    → turn_from k c answers ≡ Some p
    → length answers ≤ job_left k.layout c.job
turn_short k [] c p h e = omega arith
turn_short k (x ∷ xs) c p h e = by (splits k c x xs p e) (turn_short k xs (begun_after k c x) p)
  where
    by : Splits k c x xs p → (1 ≤ job_left k.layout (begun_after k c x).job → turn_from k (begun_after k c x) xs ≡ Some p → length xs ≤ job_left k.layout (begun_after k c x).job)
        → length (x ∷ xs) ≤ job_left k.layout c.job
    by (inl q) more = let n : length xs ≡ 0 = ap length q in omega (arith, h, n)
    by (inr r) more =
        let f = falls k c x c.job (begun_after k c x).job (goes k c x c.job) h r.0 in omega (arith, more f.0 r.1, f.1)

pub turns_are_short : TurnsAreShort
turns_are_short k c told p e =
    let short = turn_short k told (begun k c) p (start_some k c c.job) e in
    omega (arith, short, job_most k.layout (begun k c).job)

turn_ends : (k : Config) (answers : List ℕ) (c : ControllerView) → 1 ≤ job_left k.layout c.job
    → job_left k.layout c.job ≤ length answers
    → (n : ℕ) × (p : Turn × ControllerView) × (turn_from k c (take n answers) ≡ Some p)
turn_ends k [] c h m = absurd (omega (arith, h, m))
turn_ends k (x ∷ xs) c h m = by (turn_at k c c.job x) refl (turn_ends k xs (begun_after k c x))
  where
    by : (o : Option Turn) → turn_at k c c.job x ≡ o
        → (1 ≤ job_left k.layout (begun_after k c x).job → job_left k.layout (begun_after k c x).job ≤ length xs
        → (n : ℕ) × (p : Turn × ControllerView) × (turn_from k (begun_after k c x) (take n xs) ≡ Some p))
        → (n : ℕ) × (p : Turn × ControllerView) × (turn_from k c (take n (x ∷ xs)) ≡ Some p)
    by (Some t) q more = (1, (t, begun_after k c x), ap (λ o. ends_with (begun_after k c x) o [] None) q)
    by None q more =
        let f = falls k c x c.job (begun_after k c x).job (goes k c x c.job) h q in
        let r = more f.0 (omega (arith, f.1, m)) in
        (suc r.0, r.1, ap (λ o. ends_with (begun_after k c x) o (take r.0 xs) (turn_from k (begun_after k c x) (take r.0 xs))) q ∙ r.2)

pub turns_end : TurnsEnd
turns_end k c told m =
    turn_ends k told (begun k c) (start_some k c c.job) (omega (arith, m, job_most k.layout (begun k c).job))
