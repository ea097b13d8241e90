-- How a look at the rings goes: which steps go on with one, and which end a turn that found nothing to do.
use Rattle.std.proofs.Common.{◌≡◌, ℕ, ◌+◌, Bool, true, false, ◌==◌, List, [], ◌∷◌, Option, Some, None, option_map, refl, sym, ◌∙◌, subst, arith, if◌then◌else◌}
use Rattle.std.proofs.lemmas.Bool.{true≢false}
use Rattle.std.proofs.lemmas.Bool.Decides.{nat_tests}
use Rattle.std.proofs.lemmas.Option.{same_Some}
use Rattle.sr_base.specs.Key.{KeyView}
use Rattle.sr_base.specs.declared.vip_word.Phase.{Phase}
use Rattle.sr_base.specs.declared.vip_word.Phase.TheVariants.{Steady, Recording, Holding, Transit}
use Rattle.sr_base.specs.declared.vip_word.VipWord.{VipWord}
use Rattle.sr_inv_rest.specs.Laws.{NoLook, OnLook}
use Rattle.sr_machine.specs.Begins.{Begins, NoAct, looks}
use Rattle.sr_machine.specs.Config.{Config}
use Rattle.sr_machine.specs.Draws.{cleared_job, phase_job}
use Rattle.sr_machine.specs.Goes.{Goes, stays_free, taken_down, given, comes, reserved, placed, cleared, retired, phase_stored, reserve_stored, judged_live, judged_withdrawn, emptied, pass_last, drain_last, look_next, look_last, look_took}
use Rattle.sr_machine.specs.Jobs.{job_op}
use Rattle.sr_machine.specs.Starting.{Start, opener_of, with_job}
use Rattle.sr_machine.specs.Turning.{draw_act, rest_of, store_act, turn_at}
use Rattle.sr_machine.specs.Waiting.{all_passed, has_next, is_under_way, live_job, passed_phase, waited_job, waited_phase}
use Rattle.sr_machine.specs.declared.act.Act.{Act}
use Rattle.sr_machine.specs.declared.act.Act.TheVariants as act
use Rattle.sr_machine.specs.declared.controller_view.ControllerView.{ControllerView}
use Rattle.sr_machine.specs.declared.held_opener.HeldOpener.{HeldOpener}
use Rattle.sr_machine.specs.declared.job.Job.{Job}
use Rattle.sr_machine.specs.declared.job.Job.TheVariants as job
use Rattle.sr_machine.specs.declared.pool_update.PoolUpdate.{PoolUpdate}
use Rattle.sr_machine.specs.declared.put.Aim.{Aim}
use Rattle.sr_machine.specs.declared.put.Aim.TheVariants as aim
use Rattle.sr_machine.specs.declared.op.Op.{Op}
use Rattle.sr_machine.specs.declared.put.Put.{Put}
use Rattle.sr_machine.specs.declared.turn.Turn.{Turn}
use Rattle.sr_machine.specs.declared.turn.Turn.TheVariants.{Did, NotYet}
use Rattle.sr_machine.specs.declared.wait.Wait.{Wait}
use Rattle.sr_machine.specs.declared.wait.Wait.TheVariants as wait
use Rattle.sr_machine.specs.declared.why.Why.{Why}
use Rattle.sr_machine.specs.declared.why.Why.TheVariants as why
use Rattle.sr_shadow.specs.declared.entry.Entry.{Entry}

abbrev pub IsSet : Job → Type 0
IsSet job.Free = ⊥
IsSet j = Unit {0}

-- a turn with this answer found nothing to do
abbrev pub Stops : Turn → Type 0
Stops (Did a) = ⊥
Stops (NotYet pipe entered) = ⊥
Stops t = Unit {0}

-- ---- a look that goes on

-- a look has come to the pipe from the one before it, whose ring's next cell was empty
pub record FromLook (k : Config) (x : ℕ) (j : Job) (pipe : ℕ) : Type 0 where
  pub before : ℕ
  pub was : j ≡ job.Look before
  pub next : pipe ≡ before + 1
  pub none : x ≡ 0
  pub more : has_next k.layout before ≡ true

module _ (P : ℕ → Type 0) where
  no_phase : (u : PoolUpdate) (p : Phase) → OnLook (phase_job u p) P
  no_phase u Steady = tt
  no_phase u Recording = tt
  no_phase u Holding = tt
  no_phase u Transit = tt

  no_cleared : (key : KeyView) (w : Why) → OnLook (cleared_job key w) P
  no_cleared key (why.Withdrawn None) = tt
  no_cleared key (why.Withdrawn (Some r)) = tt
  no_cleared key why.Source = tt
  no_cleared key (why.Retired version) = tt

  no_passed : (u : PoolUpdate) (p : Phase) → OnLook (passed_phase u p) P
  no_passed u Steady = tt
  no_passed u Recording = tt
  no_passed u Holding = tt
  no_passed u Transit = tt

  no_all : (w : Wait) → OnLook (all_passed w) P
  no_all (wait.Comes u p) = no_passed u p
  no_all w = tt

  no_live : (vips : List VipWord) (entries : List Entry) (p : Put) (a : Aim) → OnLook (live_job vips entries p a) P
  no_live vips entries p aim.Pending = tt
  no_live vips entries p (aim.Held h) = tt
  no_live vips entries p (aim.Move from planned) = tt

  no_waited_phase : (u : PoolUpdate) (p : Phase) → OnLook (waited_phase u p) P
  no_waited_phase u Steady = tt
  no_waited_phase u Recording = tt
  no_waited_phase u Holding = tt
  no_waited_phase u Transit = tt

  no_waited : (vips : List VipWord) (entries : List Entry) (w : Wait) → OnLook (waited_job vips entries w) P
  no_waited vips entries (wait.Live p) = no_live vips entries p p.aim
  no_waited vips entries (wait.Comes u p) = no_waited_phase u p
  no_waited vips entries w = tt

module _ (k : Config) (c : ControllerView) (x : ℕ) where
  pub from_look : (j next : Job) → Goes k c x j next → OnLook next (FromLook k x j)
  from_look j next (comes u p) = no_phase _ u p
  from_look j next (cleared key place w) = no_cleared _ key w
  from_look j next (pass_last g pipe w a b) = no_all _ w
  from_look j next (drain_last pipe count w a b) = no_waited _ c.vips _ w
  from_look j next (look_next pipe a b) =
      record { before = pipe; was = refl; next = refl; none = grind (arith, nat_tests); more = b }
  from_look j next g = tt

  -- ---- a step that doesn't end the turn

  goes_on : (empty more : Bool) (rest took : Turn) → (if empty then (if more then None else Some rest) else Some took) ≡ None
      → (empty ≡ true) × (more ≡ true)
  goes_on true true rest took e = (refl, refl)
  goes_on true false rest took e = cc
  goes_on false more rest took e = cc

  -- it leaves a job set
  pub stays_set : (j next : Job) → Goes k c x j next → IsSet j → turn_at k c j x ≡ None → IsSet next
  stays_set j next stays_free h e = h
  stays_set j next (taken_down server) h e = tt
  stays_set j next (given u) h e = tt
  stays_set j next (comes u Steady) h e = tt
  stays_set j next (comes u Recording) h e = tt
  stays_set j next (comes u Holding) h e = tt
  stays_set j next (comes u Transit) h e = tt
  stays_set j next (reserved p) h e = tt
  stays_set j next (placed p) h e = tt
  stays_set j next (cleared key place (why.Withdrawn reply)) h e = cc
  stays_set j next (cleared key place why.Source) h e = cc
  stays_set j next (cleared key place (why.Retired version)) h e = tt
  stays_set j next (retired key place version) h e = tt
  stays_set j next (phase_stored u p) h e = tt
  stays_set j next (reserve_stored p) h e = tt
  stays_set j next (judged_live p a) h e = tt
  stays_set j next (judged_withdrawn p a) h e = tt
  stays_set j next (emptied key place w) h e = tt
  stays_set j next (look_next pipe a b) h e = tt
  stays_set j next (look_last pipe a b) h e = absurd (true≢false (sym (goes_on (x == 0) (has_next k.layout pipe) _ _ e).1 ∙ b))
  stays_set j next (look_took pipe a) h e = absurd (true≢false (sym (goes_on (x == 0) (has_next k.layout pipe) _ _ e).0 ∙ a))
  stays_set j next g h e = cc

  -- ---- a step that ends it

  -- the last look found its cell empty
  abbrev pub RestsAt : Turn → Job → Type 0
  RestsAt a (job.Look pipe) = (x ≡ 0) × (has_next k.layout pipe ≡ false) × (a ≡ rest_of c)
  RestsAt a j = ⊥

  did_no_stop : (o : Option Act) (a : Turn) → option_map Did o ≡ Some a → Stops a → ⊥
  did_no_stop None a e h = absurd (cc e)
  did_no_stop (Some b) a e h = subst Stops (sym (same_Some (Did b) a e)) h

  pub stops : (j : Job) (a : Turn) → turn_at k c j x ≡ Some a → Stops a → RestsAt a j
  stops job.Free a e h = absurd (cc e)
  stops (job.Draw d) a e h = did_no_stop (draw_act d) a e h
  stops (job.Store s) a e h = did_no_stop (store_act s) a e h
  stops (job.Pass grace pipe w) a e h = at (is_under_way grace x) e
    where
      at : (b : Bool) → Some (if b then NotYet pipe x else Did act.Passed) ≡ Some a → ⊥
      at true q = subst Stops (sym (same_Some _ a q)) h
      at false q = subst Stops (sym (same_Some _ a q)) h
  stops (job.Drain pipe count w) a e h = subst Stops (sym (same_Some _ a e)) h
  stops (job.Look pipe) a e h = at (x == 0) (has_next k.layout pipe) refl refl e
    where
      at : (b m : Bool) → (x == 0) ≡ b → has_next k.layout pipe ≡ m
          → (if b then (if m then None else Some (rest_of c)) else Some (Did act.Took)) ≡ Some a
          → (x ≡ 0) × (has_next k.layout pipe ≡ false) × (a ≡ rest_of c)
      at true true p q r = absurd (cc r)
      at true false p q r = (grind (arith, nat_tests), q, sym (same_Some (rest_of c) a r))
      at false m p q r = absurd (subst Stops (sym (same_Some _ a r)) h)
  stops (job.Hit from ms key place taken) a e h = subst Stops (sym (same_Some _ a e)) h

  -- after it there is no look
  pub ends_looks : (j next : Job) (a : Turn) → Goes k c x j next → turn_at k c j x ≡ Some a → NoLook next
  ends_looks j next a g e = at next (from_look j next g)
    where
      goes : (b m : Bool) (rest took : Turn) → b ≡ true → m ≡ true
          → (if b then (if m then None else Some rest) else Some took) ≡ Some a → ⊥
      goes true true rest took p q r = cc
      goes true false rest took p q r = cc
      goes false m rest took p q r = cc

      at : (n : Job) → OnLook n (FromLook k x j) → NoLook n
      at (job.Look pipe) f =
          goes (x == 0) (has_next k.layout f.before) _ _ (grind (arith, nat_tests, f.none)) f.more (subst (λ i. turn_at k c i x ≡ Some a) f.was e)
      at n f = tt

-- ---- a turn that begins

module _ (k : Config) (c : ControllerView) where
  pub none_held : (held : List HeldOpener) → opener_of k c held ≡ None → held ≡ []
  none_held [] e = refl
  none_held (h ∷ rest) e = absurd (cc e)

  -- a look begins at the first ring, and where no act applies
  pub first_look : (P : Start → ℕ → Type 0) → (NoAct k c → P (with_job c (job.Look 0)) 0) → (s : Start) → Begins k c s → OnLook s.job (P s)
  first_look P h s (looks a) = h a
  first_look P h s b = tt

  -- what has a step is set
  pub op_set : (j : Job) (o : Op) → job_op k c j ≡ Some o → IsSet j
  op_set job.Free o e = absurd (cc e)
  op_set j o e = tt

  pub set_op : (j : Job) → IsSet j → job_op k c j ≡ None → ⊥
  set_op job.Free h e = h
  set_op j h e = cc
