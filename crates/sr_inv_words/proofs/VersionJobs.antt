-- The controller's steps keep the words of versions.
use Rattle.std.proofs.Common.{◌≡◌, ℕ, Bool, true, false, ◌&&◌, ◌⊎◌, List, [], is_some, if◌then◌else◌, ◌==◌, Some, None, Option, unwrap_or, sym, refl, ap, ◌∙◌, subst, inl, inr, true≢false, arith}
use Rattle.std.proofs.lemmas.Bool.Decides.{nat_tests}
use Rattle.std.proofs.lemmas.Option.{same_Some}
use Rattle.sr_inv_facts.proofs.Lists.{of_some}
use Rattle.sr_inv_facts.proofs.NamedPools.{IsElse, named_else, named_here, pair_cases}
use Rattle.sr_inv_facts.specs.InUpdate.{JobAt, JobWaited, OnUngiven, UpdateFits, is_ungiven, standing}
use Rattle.sr_inv_facts.specs.InWords.{HoldsPool, Written}
use Rattle.sr_inv_facts.specs.Invariant.{Invariant}
use Rattle.sr_inv_words.proofs.PoolWords.{pool_same}
use Rattle.sr_law.specs.Pools.{pool_of}
use Rattle.sr_machine.specs.Config.{Config}
use Rattle.sr_machine.specs.Core.{Core}
use Rattle.sr_machine.specs.Deciding.{named_at, ring_count, update_pool, vip_at, with_named}
use Rattle.sr_machine.specs.Jobs.{drained, job_op, released}
use Rattle.sr_machine.specs.Keeping.{AfterJob}
use Rattle.sr_machine.specs.Names.{rewritten}
use Rattle.sr_machine.specs.Ops.{op_words}
use Rattle.sr_machine.specs.Stages.{ring_cell}
use Rattle.sr_machine.specs.Stores.{is_last_filter}
use Rattle.sr_machine.specs.Waiting.{is_wait_done}
use Rattle.sr_machine.specs.declared.job.Job.{Job}
use Rattle.sr_machine.specs.declared.name.Name.{Name}
use Rattle.sr_machine.specs.declared.op.Op.TheVariants.{Adds}
use Rattle.sr_machine.specs.declared.pool_update.PoolUpdate.{PoolUpdate}
use Rattle.sr_update.proofs.States.{state_other, state_same}
use Rattle.sr_update.specs.Numbers.{NumberRows, state_of, with_state, is_free}
use Rattle.sr_update.specs.declared.number_state.NumberState.{NumberState}
use Rattle.sr_update.specs.declared.number_state.NumberState.TheVariants.{Free, Current, Draining}
use Rattle.sr_machine.specs.declared.draw.Draw.TheVariants as draw
use Rattle.sr_machine.specs.declared.store.Store.TheVariants as store
use Rattle.sr_machine.specs.declared.wait.Wait.TheVariants as wait
use Rattle.sr_machine.specs.declared.job.Job.TheVariants as job
use Rattle.sr_machine.specs.declared.name.Name.TheVariants as name

-- each version that isn't free has its pool's words
abbrev pub VersionsHeld : Config → (Name → ℕ) → NumberRows → List (List ℕ) → Type 0
VersionsHeld k words numbers named =
    (vip version : ℕ) (is : NumberState) → state_of vip version numbers ≡ Some is → is_free is ≡ false
    → HoldsPool k words vip version (named_at named vip version)

module _ (k : Config) (words : Name → ℕ) (numbers : NumberRows) (named : List (List ℕ)) (v m : ℕ) (old state : NumberState) (was : state_of v m numbers ≡ Some old) where
  -- one of them gets another state
  pub version_put : (is_free state ≡ false → HoldsPool k words v m (named_at named v m))
      → ((vip n : ℕ) → IsElse vip n v m → (is : NumberState) → state_of vip n numbers ≡ Some is → is_free is ≡ false
      → HoldsPool k words vip n (named_at named vip n))
      → VersionsHeld k words (with_state v m state numbers) named
  version_put own rest vip n is e f = at (pair_cases vip n v m)
    where
      at : ((v ≡ vip) × (m ≡ n)) ⊎ IsElse vip n v m → HoldsPool k words vip n (named_at named vip n)
      at (inl h) =
          let now : state_of v m (with_state v m state numbers) ≡ Some is =
          subst (λ a. state_of a m (with_state v m state numbers) ≡ Some is) (sym h.0)
          (subst (λ b. state_of vip b (with_state v m state numbers) ≡ Some is) (sym h.1) e) in
          let same : state ≡ is = same_Some state is (sym (state_same numbers v m old state was) ∙ now) in
          subst (λ a. HoldsPool k words a n (named_at named a n)) h.0
          (subst (λ b. HoldsPool k words v b (named_at named v b)) h.1 (own (ap is_free same ∙ f)))
      at (inr other) = rest vip n other is (sym (state_other numbers vip n v m state other) ∙ e) f

-- the pool of an update is there
pool_there : (k : Config) (u : PoolUpdate) → is_some (pool_of k.pools u.vip u.pool) ≡ true
    → pool_of k.pools u.vip u.pool ≡ Some (update_pool k u)
pool_there k u = at (pool_of k.pools u.vip u.pool)
  where
    at : (o : Option (List ℕ)) → is_some o ≡ true → o ≡ Some (unwrap_or o [])
    at None e = cc
    at (Some pool) e = refl

abbrev pub VersionsAre : Core → Type 0
VersionsAre t = VersionsHeld t.config t.words t.controller.numbers t.controller.named

module _ (s : Core) (i : Invariant s) where
  -- the job's update is under way
  updating : (u : PoolUpdate) → s.controller.update ≡ Some u → UpdateFits s.config u
  updating u e = of_some (UpdateFits s.config) s.controller.update u i.update.update.fits e

  at_phase : (j : Job) → s.controller.job ≡ j → JobAt s.config s.controller.update s.controller.vips j
  at_phase j e = subst (JobAt s.config s.controller.update s.controller.vips) e i.update.update.phase

  -- a version whose Given line is still to be drawn is free
  ungiven : (j : Job) (u : PoolUpdate) → s.controller.job ≡ j → s.controller.update ≡ Some u → is_ungiven j ≡ true
      → state_of u.vip u.given s.controller.numbers ≡ Some Free
  ungiven j u e q g =
      subst (λ o. OnUngiven o s.controller.job (λ w. state_of w.vip w.given s.controller.numbers ≡ Some Free)) q i.update.versions.ungiven
      (ap is_ungiven e ∙ g)

  -- so a version that isn't free is another one
  not_new : (j : Job) (u : PoolUpdate) → s.controller.job ≡ j → s.controller.update ≡ Some u → is_ungiven j ≡ true → (vip n : ℕ)
      (is : NumberState) → state_of vip n s.controller.numbers ≡ Some is → is_free is ≡ false → IsElse vip n u.vip u.given
  not_new j u e q g vip n is h f a b =
      let free : state_of vip n s.controller.numbers ≡ Some Free =
      subst (λ x. state_of x n s.controller.numbers ≡ Some Free) a
      (subst (λ y. state_of u.vip y s.controller.numbers ≡ Some Free) b (ungiven j u e q g)) in
      true≢false (ap is_free (same_Some Free is (sym free ∙ h)) ∙ f)

  old : (vip n : ℕ) (is : NumberState) → state_of vip n s.controller.numbers ≡ Some is → is_free is ≡ false
      → HoldsPool s.config s.words vip n (named_at s.controller.named vip n)
  old = i.words.others.version

  -- the words of a version that is being written are others than those of one that isn't free
  member_else : (u : PoolUpdate) (index x vip n m : ℕ) → IsElse vip n u.vip u.given
      → rewritten s.words (name.Member u.vip u.given index) x (name.Member vip n m) ≡ s.words (name.Member vip n m)
  member_else u index x vip n m other = at (pair_test vip n u.vip u.given other) (index == m)
    where
      pair_test : (vip n v g : ℕ) → IsElse vip n v g → ((v == vip) && (g == n)) ≡ false
      pair_test vip n v g h = by (v == vip) (g == n) refl refl
        where
          by : (a b : Bool) → (v == vip) ≡ a → (g == n) ≡ b → (a && b) ≡ false
          by true true p q = absurd (h (grind (arith, nat_tests)) (grind (arith, nat_tests)))
          by true false p q = refl
          by false b p q = refl

      at : ((u.vip == vip) && (u.given == n)) ≡ false → (b : Bool)
          → (if (u.vip == vip) && ((u.given == n) && b) then x else s.words (name.Member vip n m)) ≡ s.words (name.Member vip n m)
      at e b = by (u.vip == vip) (u.given == n) b e
        where
          by : (a c b : Bool) → (a && c) ≡ false → (if a && (c && b) then x else s.words (name.Member vip n m)) ≡ s.words (name.Member vip n m)
          by true true b e = cc
          by true false b e = refl
          by false c b e = refl

  head_else : (u : PoolUpdate) (x vip n : ℕ) → IsElse vip n u.vip u.given
      → rewritten s.words (name.Head u.vip u.given) x (name.Head vip n) ≡ s.words (name.Head vip n)
  head_else u x vip n h = by (u.vip == vip) (u.given == n) refl refl
    where
      by : (a b : Bool) → (u.vip == vip) ≡ a → (u.given == n) ≡ b
          → (if a && b then x else s.words (name.Head vip n)) ≡ s.words (name.Head vip n)
      by true true p q = absurd (h (grind (arith, nat_tests)) (grind (arith, nat_tests)))
      by true false p q = refl
      by false b p q = refl

  pub version_job : (j : Job) → s.controller.job ≡ j → AfterJob VersionsAre s j (job_op s.config s.controller j)
  version_job job.Free e = tt
  version_job (job.Draw (draw.Given u)) e =
      let at = at_phase (job.Draw (draw.Given u)) e in
      let fits = updating u at.0 in
      let free = ungiven (job.Draw (draw.Given u)) u e at.0 refl in
      let done = subst (Written s.config s.words) e i.words.others.written in
      let pool = named_here s.controller.named u.vip u.given u.pool s.config.layout.shape.versions (omega (arith, fits.vip, i.shape.controller.named.count)) i.shape.controller.named.each fits.given in
      version_put s.config (op_words s.words (Adds name.Tick 1)) s.controller.numbers (with_named u.vip u.given u.pool s.controller.named) u.vip u.given Free Current free
      (λ f. subst (HoldsPool s.config (op_words s.words (Adds name.Tick 1)) u.vip u.given) (sym pool) (record {
        pool = update_pool s.config u;
        there = pool_there s.config u fits.pool;
        head = done.1;
        members = done.0;
      }))
      (λ vip n other is h f.
      subst (HoldsPool s.config (op_words s.words (Adds name.Tick 1)) vip n) (sym (named_else s.controller.named vip n u.vip u.given u.pool other))
      (pool_same s.config s.words _ vip n _ refl (λ m. refl) (old vip n is h f)))
  version_job (job.Store (store.Member u index)) e = λ vip n is h f.
      let at = at_phase (job.Store (store.Member u index)) e in
      pool_same s.config s.words _ vip n _ refl
      (λ m. member_else u index _ vip n m (not_new (job.Store (store.Member u index)) u e at.0.0 refl vip n is h f)) (old vip n is h f)
  version_job (job.Store (store.Head u)) e = λ vip n is h f.
      let at = at_phase (job.Store (store.Head u)) e in
      pool_same s.config s.words _ vip n _ (head_else u _ vip n (not_new (job.Store (store.Head u)) u e at.0 refl vip n is h f)) (λ m. refl)
      (old vip n is h f)
  version_job (job.Store (store.Filter u index)) e = done (is_last_filter s.config.layout index)
    where
      same : (vip n : ℕ) (is : NumberState) → state_of vip n s.controller.numbers ≡ Some is → is_free is ≡ false
          → HoldsPool s.config (rewritten s.words (name.Filter index) 0) vip n (named_at s.controller.named vip n)
      same vip n is h f = pool_same s.config s.words _ vip n _ refl (λ m. refl) (old vip n is h f)

      current : state_of u.vip u.replaced s.controller.numbers ≡ Some Current
      current =
          let at = at_phase (job.Store (store.Filter u index)) e in
          let fits = updating u at.0.0 in
          (i.update.versions.current u.vip u.replaced fits.vip fits.replaced).1
          (inl (subst (λ o. u.replaced ≡ standing o s.controller.vips u.vip) (sym at.0.0) (by (u.vip == u.vip) (grind (arith, nat_tests)))))
        where
          by : (t : Bool) → t ≡ true → u.replaced ≡ (if t then u.replaced else (vip_at s.controller.vips u.vip).cur)
          by true q = refl
          by false q = cc

      done : (t : Bool) → VersionsHeld s.config (rewritten s.words (name.Filter index) 0) (drained t u s.controller.numbers) s.controller.named
      done false = same
      done true =
          version_put s.config (rewritten s.words (name.Filter index) 0) s.controller.numbers s.controller.named u.vip u.replaced Current Draining current
          (λ f. same u.vip u.replaced Current current refl) (λ vip n other is h f. same vip n is h f)
  version_job (job.Drain pipe count (wait.Release v m)) e = done (is_wait_done s.config.layout pipe count _)
    where
      words : Name → ℕ
      words = rewritten s.words (ring_cell s.config.layout pipe (ring_count s.controller.rings pipe).words) 0

      same : (vip n : ℕ) (is : NumberState) → state_of vip n s.controller.numbers ≡ Some is → is_free is ≡ false
          → HoldsPool s.config words vip n (named_at s.controller.named vip n)
      same vip n is h f = pool_same s.config s.words _ vip n _ refl (λ m. refl) (old vip n is h f)

      done : (t : Bool) → VersionsHeld s.config words (released t (wait.Release v m) s.controller.numbers) s.controller.named
      done false = same
      done true =
          version_put s.config words s.controller.numbers s.controller.named v m Draining Free
          (subst (JobWaited s.controller.book.entries s.controller.numbers s.controller.mark) e i.update.versions.waited).0
          (λ f. absurd (true≢false f)) (λ vip n other is h f. same vip n is h f)
  version_job j e = λ vip n is h f. pool_same s.config s.words _ vip n _ refl (λ m. refl) (old vip n is h f)
