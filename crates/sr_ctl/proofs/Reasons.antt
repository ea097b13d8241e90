-- Why a turn answers what it does.
use Rattle.std.proofs.Common.{◌≡◌, ◌∙◌, ℕ, zero, suc, ◌+◌, ◌<◌, ◌≤◌, ◌==◌, ◌&&◌, ◌++◌, nat_lt, Bool, true, false, List, [], ◌∷◌, map, find, Contains, IsSome, Option, Some, None, option_map, refl, sym, ap, subst, arith, if◌then◌else◌}
use Rattle.std.proofs.lemmas.Bool.{true≢false, and_parts, eqb-true, ltb-false, ltb-true}
use Rattle.std.proofs.lemmas.List.FromFn.{map-range_with_len_more}
use Rattle.std.proofs.lemmas.Option.{same_Some}
use Rattle.std.specs.List.{range_with_len}
use Rattle.std.specs.Option.{option_or}
use Rattle.sr_acts.proofs.Begun.{begun_set}
use Rattle.sr_acts.specs.Starts.{is_free}
use Rattle.sr_base.specs.Key.{KeyView}
use Rattle.sr_base.specs.declared.shape.Shape.{Shape}
use Rattle.sr_core.specs.Making.{Made, made_before}
use Rattle.sr_ctl.proofs.Laws.{is_pass, step_goes_on, start_set}
use Rattle.sr_ctl.proofs.Turning.{begun_same, end_of, op_is, steps_more}
use Rattle.sr_ctl.specs.Causes.{FoundNothing, HasCause, HaveNoPlan, empty_swap}
use Rattle.sr_ctl.specs.Needs.{is_look}
use Rattle.sr_ctl.specs.Steps.{steps_made, view_after_all}
use Rattle.sr_machine.proofs.Following.{first_begins, goes}
use Rattle.sr_machine.specs.Begins.{Begins, NoAct, refuses, takes_down, holds, finishes, changes, answers, places_held, has_no_place, places, retires, sweeps, releases, looks}
use Rattle.sr_machine.specs.Config.{Config}
use Rattle.sr_machine.specs.Controller.{controller_after, controller_op}
use Rattle.sr_machine.specs.Deciding.{ring_count}
use Rattle.sr_machine.specs.Goes.{Goes, stays_free, comes, cleared, pass_last, drain_last, look_next}
use Rattle.sr_machine.specs.Jobs.{job_after, job_next, job_op}
use Rattle.sr_machine.specs.Stages.{ring_cell}
use Rattle.sr_machine.specs.Starting.{Start, begun, first_act, first_put, pending_put, planned_put, put_of, start_by, with_job, with_start}
use Rattle.sr_machine.specs.Reads.{read_report}
use Rattle.sr_machine.specs.Taking.{taken_report, taking, untaken}
use Rattle.sr_machine.specs.Telling.{full_change}
use Rattle.sr_machine.specs.Turning.{drain_act, draw_act, rest_by, rest_of, store_act, turn_at}
use Rattle.sr_machine.specs.Waiting.{has_next, is_under_way, is_wait_done, next_pass}
use Rattle.sr_machine.specs.declared.act.Act.{Act}
use Rattle.sr_machine.specs.declared.act.Act.TheVariants as act
use Rattle.sr_machine.specs.declared.controller_view.ControllerView.{ControllerView}
use Rattle.sr_machine.specs.declared.job.Job.{Job}
use Rattle.sr_machine.specs.declared.job.Job.TheVariants as job
use Rattle.sr_machine.specs.declared.name.Name.TheVariants as name
use Rattle.sr_machine.specs.declared.op.Op.TheVariants.{Loads, Swaps}
use Rattle.sr_machine.specs.declared.put.Aim.{Aim}
use Rattle.sr_machine.specs.declared.put.Aim.TheVariants as aim
use Rattle.sr_machine.specs.declared.turn.Turn.{Turn}
use Rattle.sr_machine.specs.declared.turn.Turn.TheVariants as turn
use Rattle.sr_machine.specs.declared.wait.Wait.{Wait}
use Rattle.sr_machine.specs.declared.why.Why.TheVariants as why
use Rattle.sr_base.specs.declared.vip_word.Phase.TheVariants.{Steady, Recording, Holding, Transit}
use Rattle.sr_shadow.specs.Entry.{is_pending}
use Rattle.sr_shadow.specs.Plan.{first_plan}
use Rattle.sr_shadow.specs.declared.entry.Entry.{Entry}
use Rattle.sr_shadow.specs.declared.plan.Plan.{Plan}
use Rattle.sr_shadow.specs.declared.plan.Plan.TheVariants as plan
use Rattle.sr_update.specs.declared.give_change.GiveChange.{GiveChange}

-- ---- no pending key has a plan

no_put : (key : KeyView) (what : Aim) (p : Plan) → put_of key what p ≡ None → p ≡ plan.NoRoom
no_put key what (plan.Slot place) e = cc
no_put key what (plan.Move other from to last) e = cc
no_put key what (plan.FullKey row) e = cc
no_put key what plan.NoRoom e = refl

none_parts : {X : Type 0} (a b : Option X) → option_or a b ≡ None → (a ≡ None) × (b ≡ None)
none_parts None b e = (refl, e)
none_parts (Some x) b e = cc

none_mapped : {X Y : Type 0} (f : X → Y) (o : Option X) → option_map f o ≡ None → o ≡ None
none_mapped f None e = refl
none_mapped f (Some x) e = cc

pending_none : (s : Shape) (all : List Entry) (e : Entry) → pending_put s all e ≡ None → is_pending e ≡ true
    → first_plan s all e.key ≡ plan.NoRoom
pending_none s all e h p =
    no_put e.key aim.Pending (first_plan s all e.key)
    (sym (ap (λ b. if b then planned_put s all e.key aim.Pending else None) p) ∙ h)

no_plans : (s : Shape) (all es : List Entry) → first_put s all es ≡ None → (e : Entry) → Contains es e → is_pending e ≡ true
    → first_plan s all e.key ≡ plan.NoRoom
no_plans s all [] h e within p = absurd (omega (arith, within.1))
no_plans s all (x ∷ es) h e (zero, i, same) p =
    subst (λ y. is_pending y ≡ true → first_plan s all y.key ≡ plan.NoRoom) same
    (pending_none s all x (none_parts (pending_put s all x) (first_put s all es) h).0) p
no_plans s all (x ∷ es) h e (suc n, i, same) p =
    no_plans s all es (none_parts (pending_put s all x) (first_put s all es) h).1 e (n, omega (arith, i), same) p

pub have_no_plan : (k : Config) (c : ControllerView) → NoAct k c → HaveNoPlan k c
have_no_plan k c acts = no_plans k.layout.shape c.book.entries c.book.entries (none_mapped _ _ acts.pending)

-- ---- a wait

-- a turn that begins with a wait for a pipe does nothing else
pub record Waits (k : Config) (c : ControllerView) (xs : List ℕ) (d : ControllerView) : Type 0 where
  pub here : (g pipe : ℕ) (w : Wait) → (begun k d).job ≡ job.Pass g pipe w
      → (xs ≡ []) × (c.job ≡ job.Pass g pipe w) × (d ≡ c) × (begun k d ≡ d)

first_no_pass : (k : Config) (c : ControllerView) (s : Start) → Begins k c s → is_pass s.job ≡ false
first_no_pass k c s (refuses g rest a b) = refl
first_no_pass k c s (takes_down o rest a b) = refl
first_no_pass k c s (holds u a b d) = refl
first_no_pass k c s (finishes u a b d) = refl
first_no_pass k c s (changes g rest number a b d e) = refl
first_no_pass k c s (answers h rest e a b) = refl
first_no_pass k c s (places_held h rest p a b d) = refl
first_no_pass k c s (has_no_place h rest a b d) = refl
first_no_pass k c s (places e p a b d) = refl
first_no_pass k c s (retires e place a b) = refl
first_no_pass k c s (sweeps ms a b) = refl
first_no_pass k c s (releases vip version a) = refl
first_no_pass k c s (looks a) = refl

start_waits : (k : Config) (c : ControllerView) (j : Job) → is_pass (start_by k c j).job ≡ true → (start_by k c j).job ≡ j
start_waits k c job.Free h = absurd (true≢false (sym h ∙ first_no_pass k c (first_act k c) (first_begins k c)))
start_waits k c (job.Draw d) h = refl
start_waits k c (job.Store s) h = refl
start_waits k c (job.Pass g pipe w) h = refl
start_waits k c (job.Drain pipe n w) h = refl
start_waits k c (job.Look pipe) h = refl
start_waits k c (job.Hit from ms key place n) h = refl

pub waits_first : (k : Config) (c : ControllerView) → Waits k c [] c
waits_first k c = record {
  here = λ g pipe w e.
      let j : c.job ≡ job.Pass g pipe w = sym (start_waits k c c.job (ap is_pass e)) ∙ e in
      (refl, j, refl, begun_set k c c.job refl (ap is_free j));
}

pub waits_more : (k : Config) (c d : ControllerView) (xs : List ℕ) (x : ℕ) → end_of k d x ≡ None → Waits k c xs (controller_after k d x)
waits_more k c d xs x e = record {
  here = λ g pipe w q.
      let on = step_goes_on k (begun k d) x (begun k d).job (start_set k d d.job).set e in
      absurd (true≢false (sym (ap is_pass (sym (ap (λ v. v.job) (begun_same k d x e)) ∙ q)) ∙ on.pass));
}

-- the note was up: nothing changes
stays : (k : Config) (c : ControllerView) (g pipe : ℕ) (w : Wait) (x : ℕ) → c.job ≡ job.Pass g pipe w → is_under_way g x ≡ true
    → job_after k c c.job x ≡ c
stays k c g pipe w x j up =
    ap (λ i. job_after k c i x) j
    ∙ ap (λ b. record c { job = if b then job.Pass g pipe w else next_pass k.layout g pipe w }) up
    ∙ ap (λ i. record c { job = i }) (sym j)

-- ---- a look at the rings

-- a turn that looks at the rings begins with it, and has found this many empty
pub record Looked (k : Config) (c : ControllerView) (xs : List ℕ) (d : ControllerView) (pipe : ℕ) : Type 0 where
  pub free : c.job ≡ job.Free
  pub acts : NoAct k c
  pub within : pipe < k.layout.shape.pipes
  pub rings : steps_made k c xs ≡ map (empty_swap k c) (range_with_len 0 pipe)
  pub same : begun k d ≡ record c { job = job.Look pipe }

pub record Looks (k : Config) (c : ControllerView) (xs : List ℕ) (d : ControllerView) : Type 0 where
  pub here : (pipe : ℕ) → (begun k d).job ≡ job.Look pipe → Looked k c xs d pipe

-- which pipe it looks at
abbrev pub looked_at : Job → ℕ
looked_at (job.Look pipe) = pipe
looked_at j = 0

-- what looks is the last of what may begin
first_look : (k : Config) (c : ControllerView) (s : Start) → Begins k c s → is_look s.job ≡ true → NoAct k c × (s ≡ with_job c (job.Look 0))
first_look k c s (refuses g rest a b) h = cc
first_look k c s (takes_down o rest a b) h = cc
first_look k c s (holds u a b d) h = cc
first_look k c s (finishes u a b d) h = cc
first_look k c s (changes g rest number a b d e) h = cc
first_look k c s (answers w rest e a b) h = cc
first_look k c s (places_held w rest p a b d) h = cc
first_look k c s (has_no_place w rest a b d) h = cc
first_look k c s (places e p a b d) h = cc
first_look k c s (retires e place a b) h = cc
first_look k c s (sweeps ms a b) h = cc
first_look k c s (releases vip version a) h = cc
first_look k c s (looks a) h = (a, refl)

start_looks : (k : Config) (c : ControllerView) (j : Job) → is_look j ≡ false → is_look (start_by k c j).job ≡ true
    → (j ≡ job.Free) × NoAct k c × (start_by k c j ≡ with_job c (job.Look 0))
start_looks k c job.Free h e = let f = first_look k c (first_act k c) (first_begins k c) e in (refl, f.0, f.1)
start_looks k c (job.Draw d) h e = cc
start_looks k c (job.Store s) h e = cc
start_looks k c (job.Pass g pipe w) h e = cc
start_looks k c (job.Drain pipe n w) h e = cc
start_looks k c (job.Look pipe) h e = cc
start_looks k c (job.Hit from ms key place n) h e = cc

pub looks_first : (k : Config) (c : ControllerView) → is_look c.job ≡ false → 1 ≤ k.layout.shape.pipes → Looks k c [] c
looks_first k c h some = record {
  here = λ pipe e.
      let s = start_looks k c c.job h (ap is_look e) in
      let zero_is : 0 ≡ pipe = ap looked_at (sym (ap (λ (t : Start). t.job) s.2) ∙ e) in
      subst (Looked k c [] c) zero_is
      (record { free = s.0; acts = s.1; within = some; rings = refl; same = ap (with_start c) s.2 });
}

pub some_none : {X : Type 0} {x : X} → Some x ≡ None → ⊥
some_none e = cc

-- a step that goes on to a look was one, and found its ring empty
look_before : (k : Config) (c : ControllerView) (x : ℕ) (j next : Job) → Goes k c x j next → turn_at k c j x ≡ None → is_look next ≡ true
    → is_free j ≡ false
    → (pipe : ℕ) × (j ≡ job.Look pipe) × (next ≡ job.Look (pipe + 1)) × ((x == 0) ≡ true) × (has_next k.layout pipe ≡ true)
look_before k c x j next (look_next pipe a b) e h f = (pipe, refl, refl, a, b)
look_before k c x j next stays_free e h f = absurd (true≢false f)
look_before k c x j next (comes u Steady) e h f = absurd (true≢false (sym h))
look_before k c x j next (comes u Recording) e h f = absurd (true≢false (sym h))
look_before k c x j next (comes u Holding) e h f = absurd (true≢false (sym h))
look_before k c x j next (comes u Transit) e h f = absurd (true≢false (sym h))
look_before k c x j next (cleared key place (why.Withdrawn None)) e h f = absurd (true≢false (sym h))
look_before k c x j next (cleared key place (why.Withdrawn (Some r))) e h f = absurd (true≢false (sym h))
look_before k c x j next (cleared key place why.Source) e h f = absurd (true≢false (sym h))
look_before k c x j next (cleared key place (why.Retired version)) e h f = absurd (true≢false (sym h))
look_before k c x j next (pass_last g pipe w a b) e h f = absurd (some_none e)
look_before k c x j next (drain_last pipe n w a b) e h f = absurd (some_none e)
look_before k c x j next g e h f = absurd (true≢false (sym h))

module _ (k : Config) (c d : ControllerView) (xs : List ℕ) (x pipe : ℕ) (view : view_after_all k c xs ≡ d)
    (there : IsSome (controller_op k d)) (j : (begun k d).job ≡ job.Look pipe) (was : Looked k c xs d pipe) where
  look_op : controller_op k d ≡ Some (Swaps (ring_cell k.layout pipe (ring_count c.rings pipe).words) 0)
  look_op =
      op_is k d there ∙ ap (job_op k (begun k d)) j
      ∙ ap (λ (v : ControllerView). Some (Swaps (ring_cell k.layout pipe (ring_count v.rings pipe).words) 0)) was.same

  -- with this one as many steps as pipes were looked at, and one more
  look_steps : (x == 0) ≡ true → steps_made k c (xs ++ x ∷ []) ≡ map (empty_swap k c) (range_with_len 0 (pipe + 1))
  look_steps empty =
      let zero_is : x ≡ 0 = eqb-true x 0 empty in
      let next : 0 + pipe ≡ pipe = omega arith in
      steps_more k c xs (x ∷ [])
      ∙ ap (λ v. steps_made k c xs ++ steps_made k v (x ∷ [])) view
      ∙ ap (λ o. steps_made k c xs ++ made_before o x []) look_op
      ∙ ap (λ y. steps_made k c xs ++ made_before (Some (Swaps (ring_cell k.layout pipe (ring_count c.rings pipe).words) 0)) y []) zero_is
      ∙ ap (λ (steps : List Made). steps ++ empty_swap k c pipe ∷ []) was.rings
      ∙ sym (map-range_with_len_more (empty_swap k c) 0 pipe pipe next)

  -- an empty cell changes the job alone
  look_view : (more : Bool) → (x == 0) ≡ true → has_next k.layout pipe ≡ more
      → controller_after k d x ≡ record c { job = if more then job.Look (pipe + 1) else job.Free }
  unfolding taking
  look_view more empty m =
      ap (λ i. job_after k (begun k d) i x) j
      ∙ ap (λ b. record (begun k d) {
        book = (if b then untaken (begun k d) else taken_report (begun k d) None pipe (read_report k.layout x)).book;
        rings = (if b then untaken (begun k d) else taken_report (begun k d) None pipe (read_report k.layout x)).rings;
        held = (if b then untaken (begun k d) else taken_report (begun k d) None pipe (read_report k.layout x)).held;
        job = if b && has_next k.layout pipe then job.Look (pipe + 1) else job.Free;
      }) empty
      ∙ ap (λ b. record (begun k d) { job = if b then job.Look (pipe + 1) else job.Free }) m
      ∙ ap (λ (v : ControllerView). record v { job = if more then job.Look (pipe + 1) else job.Free }) was.same

pub looks_more : (k : Config) (c d : ControllerView) (xs : List ℕ) (x : ℕ) → view_after_all k c xs ≡ d → IsSome (controller_op k d)
    → end_of k d x ≡ None → Looks k c xs d → Looks k c (xs ++ x ∷ []) (controller_after k d x)
looks_more k c d xs x view there e old = record {
  here = λ pipe q.
      let same = begun_same k d x e in
      let next : job_next k (begun k d) (begun k d).job x ≡ job.Look pipe = ap (λ (v : ControllerView). v.job) (sym same) ∙ q in
      let h = look_before k (begun k d) x (begun k d).job (job_next k (begun k d) (begun k d).job x)
      (goes k (begun k d) x (begun k d).job) e (ap is_look next) (start_set k d d.job).set in
      let was = old.here h.0 h.1 in
      let at : h.0 + 1 ≡ pipe = ap looked_at (sym h.2 ∙ next) in
      subst (Looked k c (xs ++ x ∷ []) (controller_after k d x)) at
      (record {
        free = was.free;
        acts = was.acts;
        within = ltb-true (h.0 + 1) k.layout.shape.pipes h.4;
        rings = look_steps k c d xs x h.0 view there h.1 was h.3;
        same = same ∙ look_view k c d xs x h.0 view there h.1 was true h.3 h.4;
      });
}

-- ---- the cause of an answer

none_some : {X : Type 0} {x : X} → None ≡ Some x → ⊥
none_some e = cc

did_cause : (k : Config) (c e : ControllerView) (steps : List Made) (o : Option Act) (t : Turn) → option_map turn.Did o ≡ Some t
    → HasCause k c steps t e
did_cause k c e steps None t h = cc
did_cause k c e steps (Some a) t h = subst (λ u. HasCause k c steps u e) (same_Some (turn.Did a) t h) tt

rest_cause : (k : Config) (c e : ControllerView) (steps : List Made) → FoundNothing k c steps e → (o : Option Entry) (f : Option GiveChange)
    → find is_pending c.book.entries ≡ o → full_change c.clock c.numbers c.gives ≡ f → HasCause k c steps (rest_by o f) e
rest_cause k c e steps nothing (Some w) f p q = (nothing, have_no_plan k c nothing.acts, (w, p, refl))
rest_cause k c e steps nothing None (Some g) p q = (nothing, p, (g, q, refl))
rest_cause k c e steps nothing None None p q = (nothing, p, q)

module _ (k : Config) (c d e : ControllerView) (xs : List ℕ) (x : ℕ) (t : Turn) (view : view_after_all k c xs ≡ d)
    (there : IsSome (controller_op k d)) (end : end_of k d x ≡ Some t) (after : controller_after k d x ≡ e)
    (waits : Waits k c xs d) (looks : Looks k c xs d) where
  pass_cause : (g pipe : ℕ) (w : Wait) → (begun k d).job ≡ job.Pass g pipe w → (up : Bool) → is_under_way g x ≡ up
      → (if up then turn.NotYet pipe x else turn.Did act.Passed) ≡ t → HasCause k c (steps_made k c (xs ++ x ∷ [])) t e
  pass_cause g pipe w q false u s = subst (λ v. HasCause k c (steps_made k c (xs ++ x ∷ [])) v e) s tt
  pass_cause g pipe w q true u s =
      let h = waits.here g pipe w q in
      let tests = and_parts (nat_lt 0 x) (nat_lt x g) u in
      let op : controller_op k c ≡ Some (Loads (name.Note pipe)) =
      ap (controller_op k) (sym h.2) ∙ op_is k d there ∙ ap (job_op k (begun k d)) q in
      subst (λ v. HasCause k c (steps_made k c (xs ++ x ∷ [])) v e) s
      (record {
        grace = g;
        waiting = w;
        job = h.1;
        loaded = ap (λ ys. steps_made k c (ys ++ x ∷ [])) h.0 ∙ ap (λ o. made_before o x []) op;
        up = ltb-true 0 x tests.0;
        before = ltb-true x g tests.1;
        same = sym after ∙ ap (λ (v : ControllerView). job_after k v v.job x) (h.3 ∙ h.2) ∙ stays k c g pipe w x h.1 u;
      })

  look_cause : (pipe : ℕ) → (begun k d).job ≡ job.Look pipe → (empty more : Bool) → (x == 0) ≡ empty → has_next k.layout pipe ≡ more
      → (if empty then (if more then None else Some (rest_of (begun k d))) else Some (turn.Did act.Took)) ≡ Some t
      → HasCause k c (steps_made k c (xs ++ x ∷ [])) t e
  look_cause pipe q false more a b s = subst (λ v. HasCause k c (steps_made k c (xs ++ x ∷ [])) v e) (same_Some _ t s) tt
  look_cause pipe q true true a b s = cc
  look_cause pipe q true false a b s =
      let was = looks.here pipe q in
      let all : pipe + 1 ≡ k.layout.shape.pipes = omega (arith, was.within, ltb-false (pipe + 1) k.layout.shape.pipes b) in
      let nothing : FoundNothing k c (steps_made k c (xs ++ x ∷ [])) e = record {
        free = was.free;
        acts = was.acts;
        rings = look_steps k c d xs x pipe view there q was a ∙ ap (λ n. map (empty_swap k c) (range_with_len 0 n)) all;
        same = sym after ∙ look_view k c d xs x pipe view there q was false a b ∙ ap (λ i. record c { job = i }) (sym was.free);
      } in
      subst (λ v. HasCause k c (steps_made k c (xs ++ x ∷ [])) v e) (ap rest_of (sym was.same) ∙ same_Some _ t s)
      (rest_cause k c e (steps_made k c (xs ++ x ∷ [])) nothing (find is_pending c.book.entries)
      (full_change c.clock c.numbers c.gives) refl refl)

  pub cause : HasCause k c (steps_made k c (xs ++ x ∷ [])) t e
  cause = at (begun k d).job refl
    where
      told : (i : Job) → (begun k d).job ≡ i → turn_at k (begun k d) i x ≡ Some t
      told i q = ap (λ j. turn_at k (begun k d) j x) (sym q) ∙ end

      at : (i : Job) → (begun k d).job ≡ i → HasCause k c (steps_made k c (xs ++ x ∷ [])) t e
      at job.Free q = absurd (none_some (told job.Free q))
      at (job.Draw a) q = did_cause k c e _ (draw_act a) t (told (job.Draw a) q)
      at (job.Store s) q = did_cause k c e _ (store_act s) t (told (job.Store s) q)
      at (job.Pass g pipe w) q = pass_cause g pipe w q (is_under_way g x) refl (same_Some _ t (told (job.Pass g pipe w) q))
      at (job.Drain pipe n w) q =
          did_cause k c e _ (Some (drain_act (is_wait_done k.layout pipe n x) w x)) t (told (job.Drain pipe n w) q)
      at (job.Look pipe) q = look_cause pipe q (x == 0) (has_next k.layout pipe) refl refl (told (job.Look pipe) q)
      at (job.Hit from ms key place n) q = did_cause k c e _ (Some act.Swept) t (told (job.Hit from ms key place n) q)
