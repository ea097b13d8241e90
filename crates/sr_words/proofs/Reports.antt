-- What the controller has taken from the rings goes up by one with each report that a swap answers, and is never more than the pipes have
-- pushed.
use Rattle.std.proofs.Common.{◌≡◌, ◌∙◌, ℕ, zero, suc, ◌+◌, ◌≤◌, ◌<◌, ◌==◌, Bool, true, false, List, [], ◌∷◌, length, map, slice_get, slice_set, Option, Some, None, option_map, option_and_then, sum_by, refl, sym, ap, subst, arith, if◌then◌else◌}
use Rattle.std.proofs.lemmas.List.Sums.{sum_by-cons}
use Rattle.std.proofs.lemmas.Option.{same_Some}
use Rattle.sr_base.specs.Key.{KeyView}
use Rattle.sr_inv_facts.proofs.Sums.{sum_at}
use Rattle.sr_machine.specs.Config.{Config}
use Rattle.sr_machine.specs.Controller.{controller_after, controller_op}
use Rattle.sr_machine.specs.Deciding.{in_bounds, ring_count, words_taken}
use Rattle.sr_machine.specs.Jobs.{job_op, rings_next}
use Rattle.sr_machine.specs.Starting.{begun}
use Rattle.sr_machine.specs.Taking.{count_after, ended_by, holds_opener, taken_report, taking, untaken}
use Rattle.sr_machine.specs.Reads.{read_report}
use Rattle.sr_machine.specs.Telling.{is_no_earlier, may_refuse}
use Rattle.sr_machine.specs.Boards.{told_ms, told_refusal}
use Rattle.sr_machine.specs.declared.controller_view.ControllerView.{ControllerView}
use Rattle.sr_machine.specs.declared.job.Job.{Job}
use Rattle.sr_machine.specs.declared.job.Job.TheVariants as job
use Rattle.sr_machine.specs.declared.name.Name.TheVariants as name
use Rattle.sr_machine.specs.declared.op.Op.{Op}
use Rattle.sr_machine.specs.declared.op.Op.TheVariants.{Swaps}
use Rattle.sr_machine.specs.declared.pipe_view.PipeView.{PipeView}
use Rattle.sr_machine.specs.declared.ring_count.RingCount.{RingCount}
use Rattle.sr_machine.specs.declared.view.View.{View}
use Rattle.sr_machine.specs.declared.view.View.TheVariants.{OfPipe, OfController}
use Rattle.sr_words.proofs.Follows.{bound}
use Rattle.sr_words.specs.Boarding.{pushed_in}
use Rattle.sr_words.specs.Hearing.{told, told_ms_if}
use Rattle.sr_words.specs.declared.heard.Heard.{Heard}
use Rattle.sr_words.specs.declared.heard.Heard.TheVariants.{Nothing, Entered, Time, Refusal}

-- what is told changes nothing of the rings
abbrev pub HasRings : ControllerView → View → Type 0
HasRings c y = (d : ControllerView) × (y ≡ OfController d) × (d.rings ≡ c.rings)

time_rings : (b : Bool) (c : ControllerView) (ms : ℕ) (y : View)
    → option_map OfController (if b then Some (record c { clock = Some ms }) else None) ≡ Some y → HasRings c y
time_rings true c ms y e = (record c { clock = Some ms }, sym (same_Some (OfController (record c { clock = Some ms })) y e), refl)
time_rings false c ms y e = cc

refusal_rings : (b : Bool) (c : ControllerView) (y : View)
    → option_map OfController (if b then Some (record c { refusing = true }) else None) ≡ Some y → HasRings c y
refusal_rings true c y e = (record c { refusing = true }, sym (same_Some (OfController (record c { refusing = true })) y e), refl)
refusal_rings false c y e = cc

module _ (k : Config) where
  told_if_rings : (o : Option ℕ) (c : ControllerView) (x y : View) → HasRings c x → told_ms_if k o x ≡ Some y → HasRings c y
  told_if_rings None c x y h e = subst (HasRings c) (same_Some x y e) h
  told_if_rings (Some ms) c x y h e =
      let t : told_ms ms k (OfController h.0) ≡ Some y = ap (told_ms ms k) (sym h.1) ∙ e in
      let r = time_rings (is_no_earlier h.0.clock ms) h.0 ms y t in
      (r.0, r.1, r.2 ∙ h.2)

  pub told_rings : (h : Heard) (c : ControllerView) (y : View) → told h k (OfController c) ≡ Some y → HasRings c y
  told_rings Nothing c y e = (c, sym (same_Some (OfController c) y e), refl)
  told_rings (Entered packet) c y e = cc
  told_rings (Time ms) c y e = time_rings (is_no_earlier c.clock ms) c ms y e
  told_rings (Refusal before after) c y e =
      let a = bound (told_ms_if k after) (option_and_then (told_refusal k) (told_ms_if k before (OfController c))) y e in
      let b = bound (told_refusal k) (told_ms_if k before (OfController c)) a.0 a.1 in
      let x = told_if_rings before c (OfController c) b.0 (c, refl, refl) b.1 in
      let t : told_refusal k (OfController x.0) ≡ Some a.0 = ap (told_refusal k) (sym x.1) ∙ b.2 in
      let r = refusal_rings (may_refuse x.0) x.0 a.0 t in
      told_if_rings after c a.0 y (r.0, r.1, r.2 ∙ x.2) a.2

-- a report is taken with the step
abbrev pub takes : Op → ℕ → ℕ
takes (Swaps (name.Ring pipe cell) x) answer = if answer == 0 then 0 else 1
takes o answer = 0

count_there : (rings : List RingCount) (pipe : ℕ) → pipe < length rings
    → (slice_get rings pipe ≡ Some (ring_count rings pipe))
count_there [] pipe b = absurd (omega arith)
count_there (r ∷ rings) zero b = refl
count_there (r ∷ rings) (suc pipe) b = count_there rings pipe (omega arith)

-- the controller takes from a ring that is there
abbrev pub InRings : ControllerView → Op → Type 0
InRings c (Swaps (name.Ring pipe cell) x) = pipe < length c.rings
InRings c o = Unit {0}

module _ (k : Config) (c : ControllerView) where
  one_taken : (ended : Option KeyView) (pipe x : ℕ) → pipe < length c.rings
      → words_taken (taking k c ended pipe x).rings ≡ words_taken c.rings + (if x == 0 then 0 else 1)
  unfolding taking
  one_taken ended pipe x b = at (x == 0) refl
    where
      at : (t : Bool) → (x == 0) ≡ t
          → words_taken (if t then untaken c else taken_report c ended pipe (read_report k.layout x)).rings
          ≡ words_taken c.rings + (if t then 0 else 1)
      at true e = omega arith
      at false e =
          let r : RingCount = ring_count c.rings pipe in
          let more : RingCount = count_after (holds_opener (read_report k.layout x) r.punts) r in
          let s : sum_by (λ (q : RingCount). q.words) (slice_set c.rings pipe more) + r.words ≡ sum_by (λ (q : RingCount). q.words) c.rings + (r.words + 1) =
          sum_at (λ (q : RingCount). q.words) c.rings pipe r more (count_there c.rings pipe b) in
          omega arith

  -- of each job
  job_takes : (j : Job) (x : ℕ) (o : Op) → job_op k c j ≡ Some o → InRings c o
      → words_taken (rings_next k c j x) ≡ words_taken c.rings + takes o x
  job_takes job.Free x o e b = cc
  job_takes (job.Draw d) x o e b = subst (λ (p : Op). words_taken c.rings ≡ words_taken c.rings + takes p x) (same_Some _ o e) (omega arith)
  job_takes (job.Store s) x o e b = subst (λ (p : Op). words_taken c.rings ≡ words_taken c.rings + takes p x) (same_Some _ o e) (omega arith)
  job_takes (job.Pass grace pipe w) x o e b =
      subst (λ (p : Op). words_taken c.rings ≡ words_taken c.rings + takes p x) (same_Some _ o e) (omega arith)
  job_takes (job.Drain pipe count w) x o e b =
      let same = same_Some _ o e in
      subst (λ (p : Op). words_taken (rings_next k c (job.Drain pipe count w) x) ≡ words_taken c.rings + takes p x) same
      (one_taken (ended_by (job.Drain pipe count w)) pipe x (subst (InRings c) (sym same) b))
  job_takes (job.Look pipe) x o e b =
      let same = same_Some _ o e in
      subst (λ (p : Op). words_taken (rings_next k c (job.Look pipe) x) ≡ words_taken c.rings + takes p x) same
      (one_taken None pipe x (subst (InRings c) (sym same) b))
  job_takes (job.Hit from ms key place taken) x o e b =
      subst (λ (p : Op). words_taken c.rings ≡ words_taken c.rings + takes p x) (same_Some _ o e) (omega arith)

-- of the controller's step
in_bounds_op : (b : Bool) (q : Option Op) (o : Op) → (if b then q else None) ≡ Some o → q ≡ Some o
in_bounds_op true q o e = e
in_bounds_op false q o e = cc

pub step_takes : (k : Config) (c : ControllerView) (x : ℕ) (o : Op) → controller_op k c ≡ Some o → InRings c o
    → words_taken (controller_after k c x).rings ≡ words_taken c.rings + takes o x
step_takes k c x o e b =
    job_takes k (begun k c) (begun k c).job x o (in_bounds_op (in_bounds c) (job_op k (begun k c) (begun k c).job) o e) b

-- no more was taken than was pushed
pub taken_below : (rings : List RingCount) (vs : List PipeView) → length rings ≡ length vs
    → ((p : ℕ) (v : PipeView) → slice_get vs p ≡ Some v → (ring_count rings p).words ≤ v.pushed)
    → words_taken rings ≤ pushed_in (map OfPipe vs)
taken_below [] [] e h = omega arith
taken_below [] (v ∷ vs) e h = cc
taken_below (r ∷ rings) [] e h = cc
taken_below (r ∷ rings) (v ∷ vs) e h =
    let one : r.words ≤ v.pushed = h zero v refl in
    let others : words_taken rings ≤ pushed_in (map OfPipe vs) = taken_below rings vs (omega arith) (λ p u f. h (suc p) u f) in
    let sum : sum_by (λ (q : RingCount). q.words) (r ∷ rings) ≡ r.words + sum_by (λ (q : RingCount). q.words) rings =
    sum_by-cons (λ (q : RingCount). q.words) r rings in
    omega arith
