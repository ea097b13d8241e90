-- Each event keeps which versions are in use; and at the opening each virtual address has its first one.
use Rattle.std.proofs.Common.{◌≡◌, ℕ, zero, suc, ◌-◌, ◌<◌, ◌≤◌, Bool, true, false, not, ◌⊎◌, ◌↔◌, List, [], ◌∷◌, ◌++◌, replicate, if◌then◌else◌, nat_lt, ◌==◌, slice_get, slice_index, slice_index_or, Some, None, Option, sym, refl, ap, ◌∙◌, subst, inl, ⊎_elim, true≢false, arith}
use Rattle.std.proofs.lemmas.Bool.Decides.{nat_tests}
use Rattle.std.proofs.lemmas.Option.{same_Some}
use Rattle.std.specs.List.{AllByRecursion}
use Rattle.std.specs.Option.{option_or}
use Rattle.sr_base.specs.declared.vip_word.VipWord.{VipWord}
use Rattle.sr_inv_facts.proofs.Beginning.{begun_by}
use Rattle.sr_inv_facts.proofs.OpeningLines.{opened_lines, opening_all, opening_printed}
use Rattle.sr_inv_facts.proofs.Printing.{job_tells, pipe_silent, prints, stage_prints, tells}
use Rattle.sr_inv_facts.specs.Fitted.{IsFitted, IsPacket}
use Rattle.sr_inv_facts.specs.InJobs.{JobHolds, seen}
use Rattle.sr_inv_facts.specs.InUpdate.{SwitchesUpTo, UpdateHolds, VersionsHold, VersionsKept, is_used, is_used_by, pool_given}
use Rattle.sr_inv_facts.specs.Invariant.{Invariant}
use Rattle.sr_inv_facts.specs.Laws.{OpensWith}
use Rattle.sr_inv_update.proofs.Changes.{change_fits}
use Rattle.sr_inv_update.proofs.VersionBegins.{start_versions, begins_as}
use Rattle.sr_inv_update.proofs.VersionsKept.{versions_go}
use Rattle.sr_law.specs.Given.{last_given, last_version, of_version}
use Rattle.sr_law.specs.declared.line.Line.{Line}
use Rattle.sr_machine.specs.Config.{Config}
use Rattle.sr_machine.specs.Core.{printed, Core, newest_first, pipe_lines}
use Rattle.sr_machine.specs.Deciding.{learned, named_at, vip_at}
use Rattle.sr_machine.specs.Jobs.{book_next, job_next, job_op, lines_next, mark_next, named_next, numbers_next, update_next, vips_next}
use Rattle.sr_machine.specs.Keeping.{AfterJob, AfterStage, Keeps, begun_core}
use Rattle.sr_machine.specs.Opening.{opening_controller, opening_named}
use Rattle.sr_machine.specs.Ops.{op_answer, op_name}
use Rattle.sr_machine.specs.Pipe.{pipe_op}
use Rattle.sr_machine.specs.Reads.{steady}
use Rattle.sr_machine.specs.declared.job.Job.{Job}
use Rattle.sr_machine.specs.declared.op.Op.{Op}
use Rattle.sr_machine.specs.declared.pipe_view.PipeView.{PipeView}
use Rattle.sr_machine.specs.declared.pool_update.PoolUpdate.{PoolUpdate}
use Rattle.sr_machine.specs.declared.stage.Stage.{Stage}
use Rattle.sr_shadow.specs.declared.entry.Entry.{Entry}
use Rattle.sr_update.specs.Numbers.{NumberRows, is_free, opening_row, state_of}
use Rattle.sr_update.specs.declared.number_state.NumberState.{NumberState}
use Rattle.sr_update.specs.declared.number_state.NumberState.TheVariants.{Free, Current}
use Rattle.sr_inv_facts.specs.Putting.{put_core}
use Rattle.sr_machine.specs.declared.put.Put.{Put}
use Rattle.sr_machine.specs.declared.stage.Stage.TheVariants as stage
use Rattle.sr_machine.specs.declared.draw.Draw.TheVariants as draw
use Rattle.sr_machine.specs.declared.job.Job.TheVariants as job
use Rattle.sr_machine.specs.declared.leg.Leg.TheVariants as leg
use Rattle.sr_machine.specs.declared.leg.Last.TheVariants as last
use Rattle.sr_machine.specs.declared.name.Name.TheVariants as name

-- ---- the controller's step

lift : (s : Core) (j : Job) (o : Option Op) → ((x : ℕ) → lines_next s.config s.controller j x ≡ s.controller.lines)
    → ((x : ℕ) → VersionsHold s.config (printed s) (update_next s.config s.controller j) (vips_next s.controller j) (numbers_next s.config s.controller j x) (named_next s.controller j) (book_next s.config s.controller j x).entries (mark_next s.config s.controller j x) (job_next s.config s.controller j x))
    → AfterJob VersionsKept s j o
lift s j None e h = tt
lift s j (Some o) e h =
    let x = op_answer o (s.words (op_name o)) in
    let k = s.config in
    let c = s.controller in
    subst (λ ls. VersionsHold k ls (update_next k c j) (vips_next c j) (numbers_next k c j x) (named_next c j) (book_next k c j x).entries (mark_next k c j x) (job_next k c j x)) (ap (λ ls. newest_first (pipe_lines s.pipes ++ ls)) (sym (e x))) (h x)

module _ (s : Core) (i : Invariant s) where
  old : (j : Job) → s.controller.job ≡ j
      → VersionsHold s.config (printed s) s.controller.update s.controller.vips s.controller.numbers s.controller.named s.controller.book.entries s.controller.mark j
  old j q =
      let c = s.controller in
      subst (VersionsHold s.config (printed s) c.update c.vips c.numbers c.named c.book.entries c.mark) q i.update.versions

  phases : (j : Job) → s.controller.job ≡ j → UpdateHolds s.config s.controller.update s.controller.vips j
  phases j q = subst (UpdateHolds s.config s.controller.update s.controller.vips) q i.update.update

  stands : (j : Job) → s.controller.job ≡ j → JobHolds s.config (seen s.controller) (printed s) j
  stands j q = subst (JobHolds s.config (seen s.controller) (printed s)) q i.jobs.holds.stands

  step : (x : ℕ) (j : Job) → s.controller.job ≡ j
      → VersionsHold s.config (tells s.config s.controller j x ++ printed s) (update_next s.config s.controller j) (vips_next s.controller j) (numbers_next s.config s.controller j x) (named_next s.controller j) (book_next s.config s.controller j x).entries (mark_next s.config s.controller j x) (job_next s.config s.controller j x)
  step x j q =
      versions_go s.config s.controller x (printed s) i.shape.config i.shape.book i.shape.controller j (phases j q) (stands j q) (old j q)

  job_kept : (j : Job) → s.controller.job ≡ j → AfterJob VersionsKept s j (job_op s.config s.controller j)
  job_kept (job.Draw d) q =
      let k = s.config in
      let c = s.controller in
      let x = s.words name.Tick in
      let j = job.Draw d in
      subst (λ ls. VersionsHold k ls (update_next k c j) (vips_next c j) (numbers_next k c j x) (named_next c j) (book_next k c j x).entries (mark_next k c j x) (job_next k c j x)) (sym (job_tells s j i.ticks)) (step x j q)
  job_kept j q = lift s j (job_op s.config s.controller j) (λ x. refl) (λ x. step x j q)

-- ---- a pipe's step

module _ (k : Config) (lines : List Line) (update : Option PoolUpdate) (vips : List VipWord) (numbers : NumberRows) (named : List (List ℕ)) (entries : List Entry) (mark : ℕ) (j : Job) (h : VersionsHold k lines update vips numbers named entries mark j) where
  line_kept : (n : ℕ) (at : Stage) (x : ℕ) → VersionsHold k (prints n at x ++ lines) update vips numbers named entries mark j
  line_kept n (stage.Fly f (leg.Judged w last.Out)) x = record {
    current = h.current;
    ungiven = h.ungiven;
    given = h.given;
    pool = h.pool;
    some = h.some;
    last = h.last;
    rises = h.rises;
    newer = (tt, h.newer);
    used = h.used;
    waited = h.waited;
  }
  line_kept n at x = h

stage_kept : (s : Core) (p : ℕ) (v : PipeView) (at : Stage) (now : List Line) (o : Option Op)
    → VersionsHold s.config now s.controller.update s.controller.vips s.controller.numbers s.controller.named s.controller.book.entries s.controller.mark s.controller.job
    → AfterStage (λ t. printed t ≡ now) s p v at o
    → AfterStage VersionsKept s p v at o
stage_kept s p v at now None h e = tt
stage_kept s p v at now (Some o) h e =
    let c = s.controller in
    subst (λ ls. VersionsHold s.config ls c.update c.vips c.numbers c.named c.book.entries c.mark c.job) (sym e) h

-- ---- all of them

begins_kept : (s : Core) → Invariant s → VersionsKept s → VersionsKept (begun_core s)
begins_kept s i h =
    begun_by s.config s.controller (λ c. VersionsHold s.config (printed s) c.update c.vips c.numbers c.named c.book.entries c.mark c.job) h (λ q t g. start_versions s.config s.controller (printed s) i.shape.config i.shape.controller q i.update.changes.to_come (old s i job.Free q) (λ g rest r. (change_fits s.config i.shape.config g rest s.controller.gives i.shape.controller.gives r).0) t g)

pub versions_put : (s : Core) (p : Put) → s.controller.job ≡ job.Free → Invariant s → VersionsKept (put_core s p)
versions_put s p free i =
    begins_as s.config s.controller (printed s) i.shape.config i.shape.controller free i.update.changes.to_come (old s i job.Free free)
    (job.Draw (draw.Reserved p)) refl tt

pub versions_keep : Keeps IsPacket Invariant VersionsKept
versions_keep = record {
  stages = λ s p v at q e i h.
      stage_kept s p v at (prints v.number at (s.words name.Tick) ++ printed s) (pipe_op s.config.layout v at) (line_kept s.config (printed s) s.controller.update s.controller.vips s.controller.numbers s.controller.named s.controller.book.entries s.controller.mark s.controller.job h v.number at (s.words name.Tick)) (stage_prints s p v at i.ticks q);
  begins = begins_kept;
  jobs = λ s j q b i h. job_kept s i j q;
  enters = λ s p v packet q r u n a i h.
      let c = s.controller in
      subst (λ ls. VersionsHold s.config ls c.update c.vips c.numbers c.named c.book.entries c.mark c.job) (sym (pipe_silent s p v (record v { stage = stage.Enter packet }) q refl s.words)) h;
  clocks = λ s ms q i h. h;
  refusals = λ s q i h. h;
}

-- ---- the opening

same_or : {X : Type 0} (n v : ℕ) (x d : X) → v < n → slice_index_or (replicate n x) v d ≡ x
same_or zero v x d h = absurd (omega arith)
same_or (suc n) zero x d h = refl
same_or (suc n) (suc v) x d h = same_or n v x d (omega arith)

past_or : {X : Type 0} (n v : ℕ) (x d : X) → n ≤ v → slice_index_or (replicate n x) v d ≡ d
past_or zero v x d h = refl
past_or (suc n) zero x d h = absurd (omega arith)
past_or (suc n) (suc v) x d h = past_or n v x d (omega arith)

steady_at : (n v : ℕ) → vip_at (replicate n (steady 0)) v ≡ steady 0
steady_at zero v = refl
steady_at (suc n) zero = refl
steady_at (suc n) (suc v) = steady_at n v

zero_at : (n m : ℕ) → slice_index (replicate n 0) m ≡ 0
zero_at zero m = refl
zero_at (suc n) zero = refl
zero_at (suc n) (suc m) = zero_at n m

free_at : (n m : ℕ) (is : NumberState) → slice_get (replicate n Free) m ≡ Some is → is ≡ Free
free_at zero m is e = cc
free_at (suc n) zero is e = sym (same_Some Free is e)
free_at (suc n) (suc m) is e = free_at n m is e

-- the first version is given its pool, and no other
given_first : (n v : ℕ) → v < n → last_given (opened_lines n) v ≡ Some (record { version = 0; pool = 1 })
given_first zero v h = absurd (omega arith)
given_first (suc n) v h = at (n == v) refl (given_first n v)
  where
    at : (b : Bool) → (n == v) ≡ b → (v < n → last_given (opened_lines n) v ≡ Some (record { version = 0; pool = 1 }))
        → option_or (if b then Some (record { version = 0; pool = 1 }) else None) (last_given (opened_lines n) v) ≡ Some (record { version = 0; pool = 1 })
    at true q more = refl
    at false q more = more (grind (arith, nat_tests))

version_first : (n v : ℕ) → v < n → pool_given (last_version (opened_lines n) v 0) ≡ 1
version_first zero v h = absurd (omega arith)
version_first (suc n) v h = at (n == v) refl (version_first n v)
  where
    at : (b : Bool) → (n == v) ≡ b → (v < n → pool_given (last_version (opened_lines n) v 0) ≡ 1)
        → pool_given (option_or (of_version 0 (if b then Some (record { version = 0; pool = 1 }) else None)) (last_version (opened_lines n) v 0)) ≡ 1
    at true q more = refl
    at false q more = more (grind (arith, nat_tests))

version_past : (n v m : ℕ) → n ≤ v → pool_given (last_version (opened_lines n) v m) ≡ 0
version_past zero v m h = refl
version_past (suc n) v m h = at (n == v) refl (version_past n v m (omega arith))
  where
    at : (b : Bool) → (n == v) ≡ b → pool_given (last_version (opened_lines n) v m) ≡ 0
        → pool_given (option_or (of_version m (if b then Some (record { version = 0; pool = 1 }) else None)) (last_version (opened_lines n) v m)) ≡ 0
    at true q more = let e : n ≡ v = grind (arith, nat_tests) in absurd (omega arith)
    at false q more = more

version_later : (n v m : ℕ) → pool_given (last_version (opened_lines n) v (suc m)) ≡ 0
version_later zero v m = refl
version_later (suc n) v m = at (n == v) (version_later n v m)
  where
    at : (b : Bool) → pool_given (last_version (opened_lines n) v (suc m)) ≡ 0
        → pool_given (option_or (of_version (suc m) (if b then Some (record { version = 0; pool = 1 }) else None)) (last_version (opened_lines n) v (suc m))) ≡ 0
    at true more =
        let z : (0 == suc m) ≡ false = grind (arith, nat_tests) in
        ap (λ b. pool_given (option_or (if b then Some (record { version = 0; pool = 1 }) else None) (last_version (opened_lines n) v (suc m)))) z ∙ more
    at false more = more

module _ (k : Config) (f : IsFitted k) where
  named_first : (v : ℕ) → v < k.layout.vips → named_at (opening_named k) v 0 ≡ 1
  named_first v h = ap (λ row. slice_index row 0) (same_or k.layout.vips v (1 ∷ replicate (k.layout.shape.versions - 1) 0) [] h)

  opened_pool : (v m : ℕ) → named_at (opening_named k) v m ≡ pool_given (last_version (opened_lines k.layout.vips) v m)
  opened_pool v m = at (nat_lt v k.layout.vips) refl m
    where
      at : (b : Bool) → nat_lt v k.layout.vips ≡ b → (m : ℕ)
          → named_at (opening_named k) v m ≡ pool_given (last_version (opened_lines k.layout.vips) v m)
      at true q zero =
          let h : v < k.layout.vips = grind (arith, nat_tests) in named_first v h ∙ sym (version_first k.layout.vips v h)
      at true q (suc m) =
          let h : v < k.layout.vips = grind (arith, nat_tests) in
          ap (λ row. slice_index row (suc m)) (same_or k.layout.vips v (1 ∷ replicate (k.layout.shape.versions - 1) 0) [] h) ∙ (zero_at (k.layout.shape.versions - 1) m ∙ sym (version_later k.layout.vips v m))
      at false q m =
          let h : k.layout.vips ≤ v = grind (arith, nat_tests) in
          ap (λ row. slice_index row m) (past_or k.layout.vips v (1 ∷ replicate (k.layout.shape.versions - 1) 0) [] h) ∙ sym (version_past k.layout.vips v m h)

  opened_current : (v n : ℕ) → v < k.layout.vips → n < k.layout.shape.versions
      → (state_of v n (replicate k.layout.vips (opening_row k.layout.shape.versions)) ≡ Some Current) ↔ ((n ≡ (vip_at (replicate k.layout.vips (steady 0)) v).cur) ⊎ ⊥)
  opened_current v n a b =
      (λ t. at n (sym (ap (λ row. slice_get row n) row) ∙ t), λ t. ⊎_elim (λ z. ap (λ row. slice_get row n) row ∙ ap (slice_get (opening_row k.layout.shape.versions)) (z ∙ cur)) absurd t)
    where
      row : slice_index_or (replicate k.layout.vips (opening_row k.layout.shape.versions)) v [] ≡ opening_row k.layout.shape.versions
      row = same_or k.layout.vips v (opening_row k.layout.shape.versions) [] a

      cur : (vip_at (replicate k.layout.vips (steady 0)) v).cur ≡ 0
      cur = ap (λ w. w.cur) (steady_at k.layout.vips v)

      at : (m : ℕ) → slice_get (opening_row k.layout.shape.versions) m ≡ Some Current → (m ≡ (vip_at (replicate k.layout.vips (steady 0)) v).cur) ⊎ ⊥
      at zero t = inl (sym cur)
      at (suc m) t = absurd (apart (free_at (k.layout.shape.versions - 1) m Current t))
        where
          apart : Current ≡ Free → ⊥
          apart e = cc

  opened_some : (v n : ℕ) → is_used (replicate k.layout.vips (opening_row k.layout.shape.versions)) v n ≡ true → 1 ≤ named_at (opening_named k) v n
  opened_some v n t = at (nat_lt v k.layout.vips) refl
    where
      none_at : (m : ℕ) (o : Option NumberState) → slice_get (replicate (k.layout.shape.versions - 1) Free) m ≡ o → is_used_by o ≡ true → ⊥
      none_at m None q e = true≢false (sym e)
      none_at m (Some is) q e = true≢false (sym e ∙ ap (λ z. not (is_free z)) (free_at (k.layout.shape.versions - 1) m is q))

      by : (m : ℕ) → v < k.layout.vips → is_used_by (slice_get (opening_row k.layout.shape.versions) m) ≡ true → 1 ≤ named_at (opening_named k) v m
      by zero h e = omega (arith, named_first v h)
      by (suc m) h e = absurd (none_at m (slice_get (replicate (k.layout.shape.versions - 1) Free) m) refl e)

      at : (b : Bool) → nat_lt v k.layout.vips ≡ b → 1 ≤ named_at (opening_named k) v n
      at true q =
          let h : v < k.layout.vips = grind (arith, nat_tests) in
          by n h (sym (ap (λ row. is_used_by (slice_get row n)) (same_or k.layout.vips v (opening_row k.layout.shape.versions) [] h)) ∙ t)
      at false q =
          let h : k.layout.vips ≤ v = grind (arith, nat_tests) in
          absurd (true≢false (sym t ∙ ap (λ row. is_used_by (slice_get row n)) (past_or k.layout.vips v (opening_row k.layout.shape.versions) [] h)))

pub versions_open : OpensWith VersionsKept
unfolding opening_controller
versions_open k f =
    subst (λ ls. VersionsHold k ls None (replicate k.layout.vips (steady 0)) (replicate k.layout.vips (opening_row k.layout.shape.versions)) (opening_named k) [] 0 job.Free) (sym (opening_printed k)) (record {
      current =
          opened_current k f;
      ungiven = tt;
      given = tt;
      pool = opened_pool k f;
      some = opened_some k f;
      last = λ v a.
          let cur : (vip_at (replicate k.layout.vips (steady 0)) v).cur ≡ 0 = ap (λ w. w.cur) (steady_at k.layout.vips v) in
          given_first k.layout.vips v a ∙ (ap (λ p. Some (record { version = 0; pool = p })) (sym (named_first k f v a)) ∙ ap (λ n. Some (record { version = n; pool = named_at (opening_named k) v n })) (sym cur));
      rises = tt;
      newer = subst (AllByRecursion (SwitchesUpTo (λ v. named_at (opening_named k) v (learned (replicate k.layout.vips (steady 0)) v)))) (opening_printed k) (opening_all (SwitchesUpTo (λ v. named_at (opening_named k) v (learned (replicate k.layout.vips (steady 0)) v))) (λ vip. tt) k);
      used = tt;
      waited = tt;
    })
