-- A turn that found nothing to do has looked at every ring in order, with nobody between, and found each empty; and no opener is held.
-- For a look that has begun goes on to the last ring or takes a report: an empty cell leaves the bounds as they are, and a turn has
-- steps for every ring.
use Rattle.std.proofs.Common.{◌≡◌, ℕ, zero, suc, ◌+◌, ◌<◌, ◌≤◌, ◌⊎◌, inl, inr, ◌^◌, ◌&&◌, ◌==◌, nat_lt, find, Bool, true, false, [], Option, Some, None, refl, sym, ap, ◌∙◌, subst, arith, if◌then◌else◌}
use Rattle.std.proofs.lemmas.Bool.{cases_lt}
use Rattle.std.proofs.lemmas.Bool.Decides.{nat_tests}
use Rattle.std.proofs.lemmas.Option.{same_Some}
use Rattle.sr_inv_facts.proofs.Takes.{take_none}
use Rattle.sr_inv_final.specs.Rest.{AreEmpty}
use Rattle.sr_inv_rest.specs.Laws.{NoLook, OnLook}
use Rattle.sr_inv_rest.proofs.Looks.{FromLook, IsSet, RestsAt, Stops, ends_looks, first_look, from_look, op_set, set_op, stays_set, stops}
use Rattle.sr_machine.proofs.Following.{first_begins, goes}
use Rattle.sr_machine.specs.Config.{Config}
use Rattle.sr_machine.specs.Controller.{controller_op}
use Rattle.sr_machine.specs.Core.{Core}
use Rattle.sr_machine.specs.Deciding.{in_bounds, ring_count, words_taken}
use Rattle.sr_machine.specs.Jobs.{job_after, job_next, job_op}
use Rattle.sr_machine.specs.Keeping.{begun_core, job_core}
use Rattle.sr_machine.specs.Names.{rewritten, same_name}
use Rattle.sr_machine.specs.Ops.{op_answer, op_name, op_words}
use Rattle.sr_machine.specs.Stages.{ring_cell}
use Rattle.sr_machine.specs.Starting.{begun, first_act, start_by, with_start}
use Rattle.sr_machine.specs.Taking.{taking, untaken}
use Rattle.sr_machine.specs.Turning.{controlled, most_steps, rest_by, rest_of, turn_of_op}
use Rattle.sr_machine.specs.Telling.{full_change}
use Rattle.sr_machine.specs.Waiting.{has_next}
use Rattle.sr_machine.specs.Begins.{NoAct}
use Rattle.sr_shadow.specs.Entry.{is_pending}
use Rattle.sr_machine.specs.declared.controller_view.ControllerView.{ControllerView}
use Rattle.sr_machine.specs.declared.job.Job.{Job}
use Rattle.sr_machine.specs.declared.job.Job.TheVariants as job
use Rattle.sr_machine.specs.declared.name.Name.{Name}
use Rattle.sr_machine.specs.declared.op.Op.{Op}
use Rattle.sr_machine.specs.declared.op.Op.TheVariants.{Swaps}
use Rattle.sr_machine.specs.declared.turn.Turn.{Turn}
use Rattle.sr_picks.specs.Turn.{ended_or, turn_in, turn_of, turn_on}

-- ---- what a look has found

-- the cell of a ring that the controller would load next
abbrev next_cell : Core → ℕ → Name
next_cell s pipe = ring_cell s.config.layout pipe (ring_count s.controller.rings pipe).words

-- the controller without its job
abbrev pub at_leisure : ControllerView → ControllerView
at_leisure c = record c { job = job.Free }

-- A look has come to this pipe: there are steps for the rings that are left, the bounds aren't reached, the rings before are empty, and
-- but for the look the controller has no act to begin.
record Looked (s : Core) (n pipe : ℕ) : Type 0 where
  left : s.config.layout.shape.pipes ≤ n + pipe
  bounds : in_bounds s.controller ≡ true
  empty : (p : ℕ) → p < pipe → s.words (next_cell s p) ≡ 0
  none : NoAct s.config (at_leisure s.controller)

-- in the midst of a turn with so many steps left, where this job is set
abbrev Midst : Core → ℕ → Job → Type 0
Midst s n job.Free = s.config.layout.shape.pipes ≤ n
Midst s n (job.Look pipe) = (pipe < s.config.layout.shape.pipes) × Looked s n pipe
Midst s n j = Unit {0}

-- a turn with this answer found nothing to do: all rings are empty, and the controller has no job and no act to begin
pub record IsDone (s : Core) (a : Turn) : Type 0 where
  pub empty : AreEmpty s
  pub free : s.controller.job ≡ job.Free
  pub none : NoAct s.config s.controller
  pub rest : a ≡ rest_of s.controller

-- at the end of a turn with this answer
abbrev pub EndsSo : Core → Option Turn → Type 0
EndsSo s None = Unit {0}
EndsSo s (Some a) = Stops a → IsDone s a

abbrev End : Core → Option Turn → Type 0
End s a = NoLook s.controller.job × EndsSo s a

-- where a turn begins a look, it does so at the first ring
begun_looked : (s : Core) (n : ℕ) (j : Job) → s.controller.job ≡ j → in_bounds s.controller ≡ true → Midst s n j
    → OnLook (start_by s.config s.controller j).job
    (Looked (record s { controller = with_start s.controller (start_by s.config s.controller j) }) n)
begun_looked s n job.Free e bounds h =
    first_look s.config s.controller (λ t pipe. Looked (record s { controller = with_start s.controller t }) n pipe)
    (λ none. record {
      left = omega (arith, h);
      bounds = bounds;
      empty = λ p b. absurd (omega arith);
      none = subst (λ j. NoAct s.config (record s.controller { job = j })) e none;
    })
    (first_act s.config s.controller) (first_begins s.config s.controller)
begun_looked s n (job.Look pipe) e bounds h =
    record { left = h.1.left; bounds = bounds; empty = h.1.empty; none = h.1.none }
begun_looked s n j e bounds h = tt

-- ---- a look that finds a ring empty

module _ (u : Core) (n pipe : ℕ) (h : Looked u (suc n) pipe) (o : Op) (step : job_op u.config u.controller (job.Look pipe) ≡ Some o)
    (answered : op_answer o (u.words (op_name o)) ≡ 0) where
  abbrev x : ℕ
  x = op_answer o (u.words (op_name o))

  is : Swaps (next_cell u pipe) 0 ≡ o
  is = same_Some _ o step

  -- the cell was empty before, too
  was_empty : u.words (next_cell u pipe) ≡ 0
  was_empty = subst (λ z. op_answer z (u.words (op_name z)) ≡ 0) (sym is) answered

  still_empty : (a : Name) → u.words a ≡ 0 → op_words u.words o a ≡ 0
  still_empty = subst (λ z. (a : Name) → u.words a ≡ 0 → op_words u.words z a ≡ 0) is swapped
    where
      swapped : (a : Name) → u.words a ≡ 0 → rewritten u.words (next_cell u pipe) 0 a ≡ 0
      swapped a e = at (same_name (next_cell u pipe) a)
        where
          at : (b : Bool) → (if b then 0 else u.words a) ≡ 0
          at true = refl
          at false = e

  untaken_is : untaken u.controller ≡ taking u.config u.controller None pipe x
  untaken_is = sym (take_none u.config u.controller None pipe x answered)

  cell_empty : (p : ℕ) → (p < pipe) ⊎ (pipe ≤ p) → p < pipe + 1 → u.words (next_cell u p) ≡ 0
  cell_empty p (inl b) c = h.empty p b
  cell_empty p (inr b) c = let here : pipe ≡ p = omega arith in subst (λ m. u.words (next_cell u m) ≡ 0) here was_empty

  -- what is waited for is as before
  same_rest : rest_of (job_core u (job.Look pipe) o).controller ≡ rest_of u.controller
  same_rest =
      ap (λ t. rest_by (find is_pending t.book.entries) (full_change u.controller.clock u.controller.numbers u.controller.gives)) (sym untaken_is)

  look_on : Looked (job_core u (job.Look pipe) o) n (pipe + 1)
  look_on = record {
    left = omega (arith, h.left);
    bounds = subst (λ t. (nat_lt u.controller.drawn (2 ^ 56) && nat_lt (words_taken t.rings) (2 ^ 56)) ≡ true) untaken_is h.bounds;
    empty = λ p b.
        subst (λ t. op_words u.words o (ring_cell u.config.layout p (ring_count t.rings p).words) ≡ 0) untaken_is
        (still_empty (next_cell u p) (cell_empty p (cases_lt p pipe) b));
    none = subst (λ t. NoAct u.config (record u.controller { book = t.book; rings = t.rings; held = t.held; job = job.Free })) untaken_is h.none;
  }

-- ---- a step

-- a controller that has a step is in bounds, and has the step of the act that it has begun
has_op : (k : Config) (c : ControllerView) (o : Op) → controller_op k c ≡ Some o
    → (in_bounds c ≡ true) × (job_op k (begun k c) (begun k c).job ≡ Some o)
has_op k c o e = at (in_bounds c) refl (job_op k (begun k c) (begun k c).job) refl e
  where
    at : (b : Bool) → in_bounds c ≡ b → (p : Option Op) → job_op k (begun k c) (begun k c).job ≡ p → (if b then p else None) ≡ Some o
        → (in_bounds c ≡ true) × (job_op k (begun k c) (begun k c).job ≡ Some o)
    at true b p q f = (b, q ∙ f)
    at false b p q f = absurd (cc f)

module _ (s : Core) (n : ℕ) (h : Midst s (suc n) s.controller.job) (o : Op) (q : controller_op s.config s.controller ≡ Some o) where
  abbrev d : ControllerView
  d = begun s.config s.controller

  abbrev answer : ℕ
  answer = op_answer o (s.words (op_name o))

  own : (in_bounds s.controller ≡ true) × (job_op s.config d d.job ≡ Some o)
  own = has_op s.config s.controller o q

  looked : (pipe : ℕ) → d.job ≡ job.Look pipe → answer ≡ 0 → Looked (controlled s o) n (pipe + 1)
  looked pipe was none =
      let old = subst (λ j. OnLook j (Looked (begun_core s) (suc n))) was (begun_looked s (suc n) s.controller.job refl own.0 h) in
      subst (λ j. Looked (job_core (begun_core s) j o) n (pipe + 1)) (sym was)
      (look_on (begun_core s) n pipe old o (ap (job_op s.config d) (sym was) ∙ own.1) none)

  rested : (pipe : ℕ) → d.job ≡ job.Look pipe → answer ≡ 0 → rest_of (job_after s.config d (job.Look pipe) answer) ≡ rest_of d
  rested pipe was none =
      let old = subst (λ j. OnLook j (Looked (begun_core s) (suc n))) was (begun_looked s (suc n) s.controller.job refl own.0 h) in
      same_rest (begun_core s) n pipe old o (ap (job_op s.config d) (sym was) ∙ own.1) none

  -- the turn goes on
  goes_midst : turn_of_op s o ≡ None → Midst (controlled s o) n (controlled s o).controller.job
  goes_midst e =
      let next = goes s.config d answer d.job in
      at (job_next s.config d d.job answer) (stays_set s.config d answer d.job _ next (op_set s.config d d.job o own.1) e)
      (from_look s.config d answer d.job _ next)
    where
      at : (j : Job) → IsSet j → OnLook j (FromLook s.config answer d.job) → Midst (controlled s o) n j
      at job.Free set f = absurd set
      at (job.Look pipe) set f =
          (grind (arith, nat_tests, f.more, f.next), subst (Looked (controlled s o) n) (sym f.next) (looked f.before f.was f.none))
      at j set f = tt

  -- the turn ends
  ends_so : (a : Turn) → turn_of_op s o ≡ Some a → End (controlled s o) (Some a)
  ends_so a e = (
    ends_looks s.config d answer d.job _ a (goes s.config d answer d.job) e,
    λ stop. at d.job refl (stops s.config d answer d.job a e stop),
  )
    where
      -- the last look leaves no job
      look_over : (b m : Bool) (pipe : ℕ) → m ≡ false → (if b && m then job.Look (pipe + 1) else job.Free) ≡ job.Free
      look_over true false pipe q = refl
      look_over true true pipe q = cc
      look_over false m pipe q = refl

      at : (j : Job) → d.job ≡ j → RestsAt s.config d answer a j → IsDone (controlled s o) a
      at (job.Look pipe) was r =
          let all = looked pipe was r.0 in
          let free : (controlled s o).controller.job ≡ job.Free =
          ap (λ j. job_next s.config d j answer) was ∙ look_over (answer == 0) (has_next s.config.layout pipe) pipe r.1 in
          record {
            empty = λ p b. all.empty p (grind (arith, nat_tests, r.1, b));
            free = free;
            none = subst (λ j. NoAct s.config (record (controlled s o).controller { job = j })) (sym free) all.none;
            rest = r.2 ∙ sym (ap (λ j. rest_of (job_after s.config d j answer)) was ∙ rested pipe was r.0);
          }
      at j was r = absurd r

-- ---- a turn

-- a look doesn't come to an end of the steps, nor to the bounds
late : (s : Core) (j : Job) → Midst s 0 j → NoLook j
late s (job.Look pipe) h = omega (arith, h.0, h.1.left)
late s j h = tt

stuck : (s : Core) (n : ℕ) → controller_op s.config s.controller ≡ None → (j : Job) → s.controller.job ≡ j → Midst s n j → NoLook j
stuck s n q (job.Look pipe) e h =
    let set : IsSet (begun s.config s.controller).job = subst (λ i. IsSet (start_by s.config s.controller i).job) (sym e) tt in
    set_op s.config (begun s.config s.controller) (begun s.config s.controller).job set (within (in_bounds s.controller) _ h.1.bounds q)
  where
    within : (b : Bool) (o : Option Op) → b ≡ true → (if b then o else None) ≡ None → o ≡ None
    within true o b e = e
    within false o b e = cc
stuck s n q j e h = tt

ended : (s : Core) (n : ℕ) → Midst s (suc n) s.controller.job → (o : Op) → controller_op s.config s.controller ≡ Some o
    → ((t : Core) → Midst t n t.controller.job → End (turn_in n t).state (turn_in n t).answer) → (a : Option Turn) → turn_of_op s o ≡ a
    → End (ended_or (controlled s o) a (turn_in n (controlled s o))).state (ended_or (controlled s o) a (turn_in n (controlled s o))).answer
ended s n h o q next None e = next (controlled s o) (goes_midst s n h o q e)
ended s n h o q next (Some a) e = ends_so s n h o q a e

turn_on_ends : (s : Core) (n : ℕ) → Midst s (suc n) s.controller.job
    → ((t : Core) → Midst t n t.controller.job → End (turn_in n t).state (turn_in n t).answer) → (o : Option Op)
    → controller_op s.config s.controller ≡ o
    → End (turn_on s (turn_in n) o).state (turn_on s (turn_in n) o).answer
turn_on_ends s n h next None q = (stuck s (suc n) q s.controller.job refl h, tt)
turn_on_ends s n h next (Some o) q = ended s n h o q next (turn_of_op s o) refl

turn_ends : (n : ℕ) (s : Core) → Midst s n s.controller.job → End (turn_in n s).state (turn_in n s).answer
turn_ends zero s h = (late s s.controller.job h, tt)
turn_ends (suc n) s h = turn_on_ends s n h (turn_ends n) (controller_op s.config s.controller) refl

-- Where no look was in progress before a turn, none is after it; and if it found nothing to do, the rings are empty, and the controller
-- has nothing to begin.
pub turn_so : (s : Core) → NoLook s.controller.job → NoLook (turn_of s).state.controller.job × EndsSo (turn_of s).state (turn_of s).answer
turn_so s none = turn_ends (most_steps s.config.layout) s (at s.controller.job none)
  where
    at : (j : Job) → NoLook j → Midst s (most_steps s.config.layout) j
    at job.Free h = omega arith
    at (job.Look pipe) h = absurd h
    at j h = tt
