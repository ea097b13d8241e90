-- Each event keeps which versions are in use, and for what.
use Rattle.std.proofs.Common.{◌≡◌, ℕ, zero, suc, ◌+◌, ◌<◌, ◌≤◌, Bool, true, false, not, ◌&&◌, List, ◌∷◌, ◌++◌, is_some, if◌then◌else◌, slice_get, slice_set, Some, None, Option, option_map, option_to_list, option_and_then, unwrap_or, sym, refl, ap, ◌∙◌, subst, true≢false, arith}
use Rattle.std.specs.List.{AllByRecursion}
use Rattle.sr_base.specs.Key.{KeyView}
use Rattle.sr_base.specs.declared.place.Place.{Place}
use Rattle.sr_base.specs.declared.vip_word.Phase.{Phase}
use Rattle.sr_base.specs.declared.vip_word.Phase.TheVariants.{Steady, Recording, Holding, Transit}
use Rattle.sr_base.specs.declared.vip_word.VipWord.{VipWord}
use Rattle.sr_inv_facts.proofs.Books.{changed_all, found_key}
use Rattle.sr_inv_facts.proofs.Lists.{of_some, all_filtered}
use Rattle.sr_inv_facts.proofs.Printing.{tells}
use Rattle.sr_inv_facts.proofs.Ranges.{learned_below, put_fits}
use Rattle.sr_inv_facts.proofs.Taking.{TakesBook, takes}
use Rattle.sr_inv_facts.specs.Fitted.{IsFitted}
use Rattle.sr_inv_facts.specs.InJobs.{JobHolds, seen}
use Rattle.sr_inv_facts.specs.InShape.{BookFits, ControllerFits}
use Rattle.sr_inv_facts.specs.InUpdate.{JobWaited, AtPhase, JobAt, OnGiven, SwitchesUpTo, UpdateFits, UpdateHolds, VersionsHold, is_ungiven, is_used}
use Rattle.sr_inv_update.proofs.Phases.{storing}
use Rattle.sr_inv_update.proofs.VersionEntries.{IsUsed, taken_unreleased, judged_used, learned_used, taken_used}
use Rattle.sr_inv_update.proofs.VersionSteps.{Wide, versions_given}
use Rattle.sr_inv_update.proofs.VersionStores.{phase_versions, versions_over, none_counted, versions_released}
use Rattle.sr_inv_update.proofs.Versions.{carried, draws_given, cleared_given, same_ungiven, waited_given}
use Rattle.sr_law.specs.Given.{last_given, last_version}
use Rattle.sr_law.specs.Pools.{VipPools, numbered, pool_of}
use Rattle.sr_law.specs.declared.line.Line.{Line}
use Rattle.sr_machine.proofs.Following.{goes}
use Rattle.sr_machine.specs.Config.{Config}
use Rattle.sr_machine.specs.Deciding.{learned, learned_in, named_at, with_named, is_withdrawn, version_for}
use Rattle.sr_machine.specs.Draws.{cleared_job, phase_job, draw_line}
use Rattle.sr_machine.specs.Goes.{Goes}
use Rattle.sr_machine.specs.Jobs.{book_next, drained, mark_next, named_next, numbers_next, released, update_next, vips_next, job_next}
use Rattle.sr_machine.specs.Reads.{read_flag}
use Rattle.sr_machine.specs.Stores.{vip_draw, phase_word, is_last_filter}
use Rattle.sr_machine.specs.Taking.{Taken, ended_by, taking}
use Rattle.sr_machine.specs.Waiting.{all_passed, live_job, passed_phase, waited_job, waited_phase, has_next, is_ring_done, is_wait_done}
use Rattle.sr_machine.specs.declared.controller_view.ControllerView.{ControllerView}
use Rattle.sr_machine.specs.declared.draw.Draw.{Draw}
use Rattle.sr_machine.specs.declared.job.Job.{Job}
use Rattle.sr_machine.specs.declared.pool_update.PoolUpdate.{PoolUpdate}
use Rattle.sr_machine.specs.declared.put.Aim.{Aim}
use Rattle.sr_machine.specs.declared.put.Put.{Put}
use Rattle.sr_machine.specs.declared.wait.Wait.{Wait}
use Rattle.sr_machine.specs.declared.why.Why.{Why}
use Rattle.sr_shadow.proofs.Splits.{entry_for_none}
use Rattle.sr_shadow.specs.Book.{is_registered, with_changed, without_key}
use Rattle.sr_shadow.specs.Entry.{has_version, is_of, left_other, swept}
use Rattle.sr_shadow.specs.declared.entry.Entry.{Entry}
use Rattle.sr_update.proofs.Dues.{all_find}
use Rattle.sr_update.specs.Numbers.{NumberRows, with_state}
use Rattle.sr_update.specs.declared.number_state.NumberState.TheVariants.{Current}
use Rattle.sr_machine.specs.Goes as go
use Rattle.sr_machine.specs.declared.draw.Draw.TheVariants as draw
use Rattle.sr_machine.specs.declared.store.Store.TheVariants as store
use Rattle.sr_machine.specs.declared.wait.Wait.TheVariants as wait
use Rattle.sr_machine.specs.declared.why.Why.TheVariants as why
use Rattle.sr_machine.specs.declared.put.Aim.TheVariants as aim
use Rattle.sr_machine.specs.declared.job.Job.TheVariants as job
use Rattle.sr_law.specs.declared.line.Line.TheVariants as line

-- ---- what a job has waited for

module _ (es : List Entry) (numbers : NumberRows) (mark : ℕ) where
  waited_phase_job : (u : PoolUpdate) (p : Phase) → JobWaited es numbers mark (job.Draw (draw.Comes u p))
      → JobWaited es numbers mark (phase_job u p)
  waited_phase_job u Steady h = tt
  waited_phase_job u Recording h = tt
  waited_phase_job u Holding h = h
  waited_phase_job u Transit h = tt

  waited_vip : (u : PoolUpdate) (p : Phase) → JobWaited es numbers mark (job.Draw (vip_draw u p))
  waited_vip u Steady = tt
  waited_vip u Recording = tt
  waited_vip u Holding = tt
  waited_vip u Transit = tt

  waited_cleared : (key : KeyView) (w : Why) → JobWaited es numbers mark (cleared_job key w)
  waited_cleared key (why.Withdrawn None) = tt
  waited_cleared key (why.Withdrawn (Some r)) = tt
  waited_cleared key why.Source = tt
  waited_cleared key (why.Retired n) = tt

  waited_passed_phase : (u : PoolUpdate) (p : Phase) → JobWaited es numbers mark (passed_phase u p)
  waited_passed_phase u Steady = tt
  waited_passed_phase u Recording = tt
  waited_passed_phase u Holding = tt
  waited_passed_phase u Transit = tt

  waited_passed : (g pipe : ℕ) (w : Wait) → JobWaited es numbers mark (job.Pass g pipe w) → JobWaited es numbers mark (all_passed w)
  waited_passed g pipe (wait.Judge p) h = tt
  waited_passed g pipe (wait.Live p) h = tt
  waited_passed g pipe (wait.Retire key) h = tt
  waited_passed g pipe (wait.Comes u p) h = waited_passed_phase u p
  waited_passed g pipe (wait.Release vip n) h = h

  waited_live : (vips : List VipWord) (fs : List Entry) (p : Put) (a : Aim) → JobWaited es numbers mark (live_job vips fs p a)
  waited_live vips fs p aim.Pending = tt
  waited_live vips fs p (aim.Held h) = tt
  waited_live vips fs p (aim.Move from planned) = tt

  waited_phase_done : (u : PoolUpdate) (p : Phase) → JobWaited es numbers mark (waited_phase u p)
  waited_phase_done u Steady = tt
  waited_phase_done u Recording = tt
  waited_phase_done u Holding = tt
  waited_phase_done u Transit = tt

  pub waited_done : (vips : List VipWord) (fs : List Entry) (w : Wait) → JobWaited es numbers mark (waited_job vips fs w)
  waited_done vips fs (wait.Judge p) = tt
  waited_done vips fs (wait.Live p) = waited_live vips fs p p.aim
  waited_done vips fs (wait.Retire key) = tt
  waited_done vips fs (wait.Comes u p) = waited_phase_done u p
  waited_done vips fs (wait.Release vip n) = tt

-- ---- a step

-- where the book, the numbers and the words stay as they are
abbrev KeepsBook : Job → Type 0
KeepsBook (job.Draw (draw.Given u)) = ⊥
KeepsBook (job.Draw (draw.Retired key place n)) = ⊥
KeepsBook (job.Store (store.Vip u p)) = ⊥
KeepsBook (job.Store (store.Filter u index)) = ⊥
KeepsBook (job.Store (store.Judge p)) = ⊥
KeepsBook (job.Store (store.Empty key place w)) = ⊥
KeepsBook (job.Drain pipe count w) = ⊥
KeepsBook (job.Look pipe) = ⊥
KeepsBook (job.Hit from ms key place n) = ⊥
KeepsBook j = Unit {0}

module _ (k : Config) (c : ControllerView) (x : ℕ) where
  waited_goes : (j m : Job) → Goes k c x j m → KeepsBook j → JobWaited c.book.entries c.numbers c.mark j
      → JobWaited c.book.entries c.numbers c.mark m
  waited_goes j m (go.given u) b h = absurd b
  waited_goes j m (go.retired key place n) b h = absurd b
  waited_goes j m (go.phase_stored u p) b h = absurd b
  waited_goes j m (go.filter_next u n e) b h = absurd b
  waited_goes j m (go.filter_last u n e) b h = absurd b
  waited_goes j m (go.drain_stays pipe count w e) b h = absurd b
  waited_goes j m (go.drain_next pipe count w e n) b h = absurd b
  waited_goes j m (go.drain_last pipe count w e n) b h = absurd b
  waited_goes j m (go.emptied key place w) b h = absurd b
  waited_goes j m (go.waits w) b h = h
  waited_goes j m (go.comes u p) b h = waited_phase_job c.book.entries c.numbers c.mark u p h
  waited_goes j m (go.cleared key place w) b h = waited_cleared c.book.entries c.numbers c.mark key w
  waited_goes j m (go.pass_stays g pipe w e) b h = h
  waited_goes j m (go.pass_next g pipe w e n) b h = h
  waited_goes j m (go.pass_last g pipe w e n) b h = waited_passed c.book.entries c.numbers c.mark g pipe w h
  waited_goes j m g b h = tt

  look_waited : (es : List Entry) (mark pipe : ℕ) (m : Job) → Goes k c x (job.Look pipe) m → JobWaited es c.numbers mark m
  look_waited es mark pipe m (go.look_next p e n) = tt
  look_waited es mark pipe m (go.look_last p e n) = tt
  look_waited es mark pipe m (go.look_took p e) = tt

  hit_waited : (es : List Entry) (mark from ms n : ℕ) (key : KeyView) (place : Place) (m : Job) → Goes k c x (job.Hit from ms key place n) m
      → JobWaited es c.numbers mark m
  hit_waited es mark from ms n key place m (go.hit_next f t o q r e at s) = tt
  hit_waited es mark from ms n key place m (go.hit_last f t o q r e) = tt

  judge_waited : (es : List Entry) (mark : ℕ) (p : Put) (m : Job) → Goes k c x (job.Store (store.Judge p)) m → JobWaited es c.numbers mark m
  judge_waited es mark p m (go.judged_live q e) = tt
  judge_waited es mark p m (go.judged_withdrawn q e) = tt

  -- ---- the line that a step prints

  line_gives : (d : Draw) (lines : List Line) → draws_given (job.Draw d) ≡ false → (v : ℕ)
      → last_given (option_to_list (draw_line k c d x) ++ lines) v ≡ last_given lines v
  line_gives (draw.Given u) lines e v = cc
  line_gives (draw.Comes u Steady) lines e v = refl
  line_gives (draw.Comes u Recording) lines e v = refl
  line_gives (draw.Comes u Holding) lines e v = refl
  line_gives (draw.Comes u Transit) lines e v = refl
  line_gives d lines e v = refl

  line_versions : (d : Draw) (lines : List Line) → draws_given (job.Draw d) ≡ false → (v n : ℕ)
      → last_version (option_to_list (draw_line k c d x) ++ lines) v n ≡ last_version lines v n
  line_versions (draw.Given u) lines e v n = cc
  line_versions (draw.Comes u Steady) lines e v n = refl
  line_versions (draw.Comes u Recording) lines e v n = refl
  line_versions (draw.Comes u Holding) lines e v n = refl
  line_versions (draw.Comes u Transit) lines e v n = refl
  line_versions d lines e v n = refl

  -- what a switch's line needs
  abbrev Switches : (ℕ → ℕ) → Draw → Type 0
  Switches pool (draw.Comes u Transit) = u.pool ≤ pool u.vip
  Switches pool d = Unit {0}

  line_switches : (pool : ℕ → ℕ) (d : Draw) (lines : List Line) → Switches pool d → AllByRecursion (SwitchesUpTo pool) lines
      → AllByRecursion (SwitchesUpTo pool) (option_to_list (draw_line k c d x) ++ lines)
  line_switches pool (draw.Grace w) lines s a = a
  line_switches pool (draw.From ms) lines s a = a
  line_switches pool (draw.Comes u Steady) lines s a = (tt, a)
  line_switches pool (draw.Comes u Recording) lines s a = (tt, a)
  line_switches pool (draw.Comes u Holding) lines s a = (tt, a)
  line_switches pool (draw.Comes u Transit) lines s a = (s, a)
  line_switches pool d lines s a = (tt, a)

-- ---- each step

module _ (k : Config) (c : ControllerView) (x : ℕ) (lines : List Line) (f : IsFitted k) (b : BookFits k.layout c.book) (w : ControllerFits k c) where
  abbrev pub Old : Job → Type 0
  Old j = VersionsHold k lines c.update c.vips c.numbers c.named c.book.entries c.mark j

  abbrev pub New : Job → Job → Type 0
  New j m = VersionsHold k (tells k c j x ++ lines) (update_next k c j) (vips_next c j) (numbers_next k c j x) (named_next c j) (book_next k c j x).entries (mark_next k c j x) m

  wide : Wide k c.numbers c.named
  wide = record { numbers_fit = w.numbers; named_fit = w.named }

  -- the lines stay, and the entries are of versions in use
  same_lines : (es : List Entry) (mark : ℕ) (j m : Job) → Old j → is_ungiven m ≡ is_ungiven j → AllByRecursion (IsUsed c.numbers) es
      → JobWaited es c.numbers mark m
      → VersionsHold k lines c.update c.vips c.numbers c.named es mark m
  same_lines es mark j m h e used waited =
      carried k lines lines c.update c.vips c.numbers c.named c.book.entries es c.mark mark j m h e (λ v. refl) (λ v n. refl) h.newer used waited

  -- a line is drawn that gives nothing
  drawn : (d : Draw) (es : List Entry) (m : Job) → draws_given (job.Draw d) ≡ false → Old (job.Draw d) → is_ungiven m ≡ is_ungiven (job.Draw d)
      → Switches k c x (λ v. named_at c.named v (learned c.vips v)) d
      → AllByRecursion (IsUsed c.numbers) es → JobWaited es c.numbers c.mark m
      → VersionsHold k (option_to_list (draw_line k c d x) ++ lines) c.update c.vips c.numbers c.named es c.mark m
  drawn d es m n h e s used waited =
      carried k lines (option_to_list (draw_line k c d x) ++ lines) c.update c.vips c.numbers c.named c.book.entries es c.mark c.mark (job.Draw d) m h e (line_gives k c x d lines n) (line_versions k c x d lines n) (line_switches k c x (λ v. named_at c.named v (learned c.vips v)) d lines s h.newer) used waited

  pool_above : (vip number : ℕ) → is_some (pool_of k.pools vip number) ≡ true → 1 ≤ number
  pool_above vip zero e = absurd (none (slice_get k.pools vip) e)
    where
      none : (o : Option VipPools) → is_some (option_and_then (λ own. numbered own 0) o) ≡ true → ⊥
      none None q = true≢false (sym q)
      none (Some own) q = true≢false (sym q)
  pool_above vip (suc n) e = omega arith

  given_on : (u : PoolUpdate) → UpdateHolds k c.update c.vips (job.Draw (draw.Given u)) → Old (job.Draw (draw.Given u))
      → New (job.Draw (draw.Given u)) (job.Draw (draw.Comes u Recording))
  given_on u p h =
      let e = p.phase.0 in
      let fits : UpdateFits k u = of_some (UpdateFits k) c.update u p.fits e in
      subst (λ o. VersionsHold k (line.Given x u.vip u.given u.pool ∷ lines) o c.vips (with_state u.vip u.given Current c.numbers) (with_named u.vip u.given u.pool c.named) c.book.entries c.mark (job.Draw (draw.Comes u Recording))) (sym e)
      (versions_given k lines c.vips c.numbers c.named c.book.entries c.mark x u wide fits p.phase.1 (pool_above u.vip u.pool fits.pool) (subst (λ o. VersionsHold k lines o c.vips c.numbers c.named c.book.entries c.mark (job.Draw (draw.Given u))) e h))

  -- the pool that an update switches to is the one that is learned from then on
  switch_above : (u : PoolUpdate) → AtPhase c.update c.vips u Transit → Old (job.Draw (draw.Comes u Transit))
      → u.pool ≤ named_at c.named u.vip (learned c.vips u.vip)
  switch_above u a h =
      let is : learned c.vips u.vip ≡ u.given = ap (λ w. learned_in w.phase w.cur w.next) a.1 in
      let named : OnGiven (Some u) (job.Draw (draw.Comes u Transit)) (λ u. named_at c.named u.vip u.given ≡ u.pool) = subst (λ o. OnGiven o (job.Draw (draw.Comes u Transit)) (λ u. named_at c.named u.vip u.given ≡ u.pool)) a.0 h.given in
      let pool : named_at c.named u.vip (learned c.vips u.vip) ≡ u.pool = ap (named_at c.named u.vip) is ∙ named refl in
      omega (arith, pool)

  stored_on : (u : PoolUpdate) (p : Phase) → UpdateHolds k c.update c.vips (job.Store (store.Vip u p)) → Old (job.Store (store.Vip u p))
      → New (job.Store (store.Vip u p)) (job.Draw (vip_draw u p))
  stored_on u p g h =
      let e = storing k c.update c.vips u p g.phase in
      let fits : UpdateFits k u = of_some (UpdateFits k) c.update u g.fits e in
      subst (λ o. VersionsHold k lines o (slice_set c.vips u.vip (phase_word u p)) c.numbers c.named c.book.entries c.mark (job.Draw (vip_draw u p))) (sym e)
      (phase_versions k lines c.vips c.numbers c.named c.book.entries c.mark u p (omega (arith, fits.vip, w.vips)) (subst (λ o. JobAt k o c.vips (job.Store (store.Vip u p))) e g.phase) (subst (λ o. VersionsHold k lines o c.vips c.numbers c.named c.book.entries c.mark (job.Store (store.Vip u p))) e h))

  filtered_on : (u : PoolUpdate) (index : ℕ) (last : Bool) → UpdateHolds k c.update c.vips (job.Store (store.Filter u index)) → Old (job.Store (store.Filter u index))
      → VersionsHold k lines (if last then None else c.update) c.vips (drained last u c.numbers) c.named c.book.entries c.mark (if last then job.Free else job.Store (store.Filter u (index + 1)))
  filtered_on u index true g h =
      let e = g.phase.0.0 in
      versions_over k lines c.vips c.numbers c.named c.book.entries c.mark index u wide (of_some (UpdateFits k) c.update u g.fits e) g.phase.0.1 (subst (λ o. VersionsHold k lines o c.vips c.numbers c.named c.book.entries c.mark (job.Store (store.Filter u index))) e h)
  filtered_on u index false g h = same_lines c.book.entries c.mark (job.Store (store.Filter u index)) (job.Store (store.Filter u (index + 1))) h refl h.used tt

  -- ---- a drain

  drains_on : (pipe count : ℕ) (wt : Wait) (t : Taken) → TakesBook k.layout c.numbers (ended_by (job.Drain pipe count wt)) x c.book t.book
      → Old (job.Drain pipe count wt)
      → (p n : ℕ) → JobWaited t.book.entries c.numbers c.mark (job.Drain p n wt)
  drains_on pipe count (wait.Release vip n) t is h p m =
      (h.waited.0, taken_unreleased k.layout c.numbers None x c.book t.book vip n h.waited.0 is h.waited.1)
  drains_on pipe count (wait.Judge q) t is h p n = tt
  drains_on pipe count (wait.Live q) t is h p n = tt
  drains_on pipe count (wait.Retire key) t is h p n = tt
  drains_on pipe count (wait.Comes u q) t is h p n = tt

  not_released : (wt : Wait) → released false wt c.numbers ≡ c.numbers
  not_released (wait.Release vip n) = refl
  not_released (wait.Judge q) = refl
  not_released (wait.Live q) = refl
  not_released (wait.Retire key) = refl
  not_released (wait.Comes u q) = refl

  -- the wait isn't over: nothing is released
  drain_more : (pipe count p n mark : ℕ) (wt : Wait) (t : Taken) → TakesBook k.layout c.numbers (ended_by (job.Drain pipe count wt)) x c.book t.book
      → Old (job.Drain pipe count wt)
      → VersionsHold k lines c.update c.vips (released false wt c.numbers) c.named t.book.entries mark (job.Drain p n wt)
  drain_more pipe count p n mark wt t is h =
      subst (λ rows. VersionsHold k lines c.update c.vips rows c.named t.book.entries mark (job.Drain p n wt)) (sym (not_released wt))
      (same_lines t.book.entries mark (job.Drain pipe count wt) (job.Drain p n wt) h refl (taken_used k.layout c.numbers (ended_by (job.Drain pipe count wt)) x c.book t.book is h.used) (drains_on pipe count wt t is h p n))

  -- it is: a version that was waited for is free
  drain_over : (pipe count mark : ℕ) (wt : Wait) (t : Taken) → TakesBook k.layout c.numbers (ended_by (job.Drain pipe count wt)) x c.book t.book
      → Old (job.Drain pipe count wt)
      → VersionsHold k lines c.update c.vips (released true wt c.numbers) c.named t.book.entries mark (waited_job c.vips t.book.entries wt)
  drain_over pipe count mark (wait.Release vip n) t is h =
      versions_released k lines c.update c.vips c.numbers c.named c.book.entries t.book.entries c.mark mark vip n (job.Drain pipe count (wait.Release vip n)) job.Free wide h refl refl h.waited.0
      (taken_used k.layout c.numbers None x c.book t.book is h.used) (none_counted (has_version vip n) t.book.entries (taken_unreleased k.layout c.numbers None x c.book t.book vip n h.waited.0 is h.waited.1)) tt
  drain_over pipe count mark (wait.Judge p) t is h =
      same_lines t.book.entries mark (job.Drain pipe count (wait.Judge p)) (waited_job c.vips t.book.entries (wait.Judge p)) h refl (taken_used k.layout c.numbers None x c.book t.book is h.used) tt
  drain_over pipe count mark (wait.Live p) t is h =
      same_lines t.book.entries mark (job.Drain pipe count (wait.Live p)) (waited_job c.vips t.book.entries (wait.Live p)) h (waited_given c.vips t.book.entries (wait.Live p)) (taken_used k.layout c.numbers None x c.book t.book is h.used) (waited_done t.book.entries c.numbers mark c.vips t.book.entries (wait.Live p))
  drain_over pipe count mark (wait.Retire key) t is h =
      same_lines t.book.entries mark (job.Drain pipe count (wait.Retire key)) job.Free h refl (taken_used k.layout c.numbers (Some key) x c.book t.book is h.used) tt
  drain_over pipe count mark (wait.Comes u p) t is h =
      same_lines t.book.entries mark (job.Drain pipe count (wait.Comes u p)) (waited_job c.vips t.book.entries (wait.Comes u p)) h (waited_given c.vips t.book.entries (wait.Comes u p)) (taken_used k.layout c.numbers None x c.book t.book is h.used) (waited_done t.book.entries c.numbers mark c.vips t.book.entries (wait.Comes u p))

  not_done : (pipe count : ℕ) → is_ring_done k.layout count x ≡ false → is_wait_done k.layout pipe count x ≡ false
  not_done pipe count e = ap (λ b. b && not (has_next k.layout pipe)) e

  not_last : (pipe count : ℕ) → is_ring_done k.layout count x ≡ true → has_next k.layout pipe ≡ true → is_wait_done k.layout pipe count x ≡ false
  not_last pipe count e n = ap (λ b. b && not (has_next k.layout pipe)) e ∙ ap (λ b. not b) n

  is_last : (pipe count : ℕ) → is_ring_done k.layout count x ≡ true → has_next k.layout pipe ≡ false → is_wait_done k.layout pipe count x ≡ true
  is_last pipe count e n = ap (λ b. b && not (has_next k.layout pipe)) e ∙ ap (λ b. not b) n

  drain_on : (pipe count : ℕ) (wt : Wait) (m : Job) → Goes k c x (job.Drain pipe count wt) m → Old (job.Drain pipe count wt)
      → New (job.Drain pipe count wt) m
  drain_on pipe count wt m (go.drain_stays p n v e) h =
      let t = taking k c (ended_by (job.Drain pipe count wt)) pipe x in
      subst (λ b. VersionsHold k lines c.update c.vips (released b wt c.numbers) c.named t.book.entries (mark_next k c (job.Drain pipe count wt) x) (job.Drain pipe (count + 1) wt)) (sym (not_done pipe count e))
      (drain_more pipe count pipe (count + 1) (mark_next k c (job.Drain pipe count wt) x) wt t (takes k c (ended_by (job.Drain pipe count wt)) pipe x).book h)
  drain_on pipe count wt m (go.drain_next p n v e r) h =
      let t = taking k c (ended_by (job.Drain pipe count wt)) pipe x in
      subst (λ b. VersionsHold k lines c.update c.vips (released b wt c.numbers) c.named t.book.entries (mark_next k c (job.Drain pipe count wt) x) (job.Drain (pipe + 1) 0 wt)) (sym (not_last pipe count e r))
      (drain_more pipe count (pipe + 1) 0 (mark_next k c (job.Drain pipe count wt) x) wt t (takes k c (ended_by (job.Drain pipe count wt)) pipe x).book h)
  drain_on pipe count wt m (go.drain_last p n v e r) h =
      let t = taking k c (ended_by (job.Drain pipe count wt)) pipe x in
      subst (λ b. VersionsHold k lines c.update c.vips (released b wt c.numbers) c.named t.book.entries (mark_next k c (job.Drain pipe count wt) x) (waited_job c.vips t.book.entries wt)) (sym (is_last pipe count e r))
      (drain_over pipe count (mark_next k c (job.Drain pipe count wt) x) wt t (takes k c (ended_by (job.Drain pipe count wt)) pipe x).book h)

  -- ---- every step

  -- a key that isn't registered gets the version that is learned
  learned_is : (q : Put) → q.key.vip < k.layout.vips → UpdateHolds k c.update c.vips (job.Store (store.Judge q)) → Old (job.Store (store.Judge q))
      → is_registered q.key c.book.entries ≡ false
      → is_used c.numbers q.key.vip (version_for c.vips c.book.entries q.key) ≡ true
  learned_is q v p h r =
      let none : version_for c.vips c.book.entries q.key ≡ learned c.vips q.key.vip =
      ap (λ o. unwrap_or (option_map (λ e. e.version) o) (learned c.vips q.key.vip)) (entry_for_none q.key c.book.entries r) in
      subst (λ n. is_used c.numbers q.key.vip n ≡ true) (sym none)
      (learned_used k lines c.update c.vips c.numbers c.named c.book.entries c.mark (job.Store (store.Judge q)) h p refl q.key.vip v (learned_below k f.layout c b w q.key.vip))

  pub versions_go : (j : Job) → UpdateHolds k c.update c.vips j → JobHolds k (seen c) lines j → Old j → New j (job_next k c j x)
  versions_go (job.Draw (draw.Given u)) p s h = given_on u p h
  versions_go (job.Draw (draw.Comes u Transit)) p s h =
      drawn (draw.Comes u Transit) c.book.entries (phase_job u Transit) refl h refl (switch_above u p.phase h) h.used tt
  versions_go (job.Draw (draw.Comes u Steady)) p s h = drawn (draw.Comes u Steady) c.book.entries (phase_job u Steady) refl h refl tt h.used tt
  versions_go (job.Draw (draw.Comes u Recording)) p s h = drawn (draw.Comes u Recording) c.book.entries (phase_job u Recording) refl h refl tt h.used tt
  versions_go (job.Draw (draw.Comes u Holding)) p s h = drawn (draw.Comes u Holding) c.book.entries (phase_job u Holding) refl h refl tt h.used h.waited
  versions_go (job.Draw (draw.Retired key place n)) p s h =
      let used : is_used c.numbers key.vip n ≡ true =
      subst (λ z. is_used c.numbers z.vip n ≡ true) (sym (found_key key c.book.entries s.entry s.found)) (subst (λ v. is_used c.numbers s.entry.key.vip v ≡ true) s.with_version (all_find (IsUsed c.numbers) (is_of key) c.book.entries s.entry h.used s.found)) in
      drawn (draw.Retired key place n) (without_key key c.book.entries) (job.Store (store.Empty key place (why.Retired n))) refl h refl tt (all_filtered (IsUsed c.numbers) (λ e. not (is_of key e)) c.book.entries h.used) used
  versions_go (job.Draw (draw.Grace wt)) p s h = drawn (draw.Grace wt) c.book.entries (job.Pass x 0 wt) refl h refl tt h.used h.waited
  versions_go (job.Draw (draw.Cleared key place y)) p s h =
      drawn (draw.Cleared key place y) c.book.entries (cleared_job key y) refl h (cleared_given key y) tt h.used (waited_cleared c.book.entries c.numbers c.mark key y)
  versions_go (job.Draw (draw.From ms)) p s h =
      let m = job_next k c (job.Draw (draw.From ms)) x in
      let g = goes k c x (job.Draw (draw.From ms)) in
      drawn (draw.From ms) c.book.entries m refl h (same_ungiven k c x (job.Draw (draw.From ms)) m g refl) tt h.used (waited_goes k c x (job.Draw (draw.From ms)) m g tt h.waited)
  versions_go (job.Draw (draw.Refused n)) p s h = drawn (draw.Refused n) c.book.entries job.Free refl h refl tt h.used tt
  versions_go (job.Draw (draw.TakenDown n)) p s h = drawn (draw.TakenDown n) c.book.entries (job.Store (store.Down n)) refl h refl tt h.used tt
  versions_go (job.Draw (draw.Reserved q)) p s h = drawn (draw.Reserved q) c.book.entries (job.Store (store.Reserved q)) refl h refl tt h.used tt
  versions_go (job.Draw (draw.Placed q)) p s h = drawn (draw.Placed q) c.book.entries (job.Draw (draw.Grace (wait.Live q))) refl h refl tt h.used tt
  versions_go (job.Draw (draw.Answer r)) p s h = drawn (draw.Answer r) c.book.entries job.Free refl h refl tt h.used tt
  versions_go (job.Draw (draw.Swept from ms)) p s h = drawn (draw.Swept from ms) c.book.entries job.Free refl h refl tt h.used tt
  versions_go (job.Store (store.Vip u q)) p s h = stored_on u q p h
  versions_go (job.Store (store.Filter u index)) p s h = filtered_on u index (is_last_filter k.layout index) p h
  versions_go (job.Store (store.Judge q)) p s h =
      let key = put_fits k f.layout c b w q s.0 in
      let m = job_next k c (job.Store (store.Judge q)) x in
      let g = goes k c x (job.Store (store.Judge q)) in
      same_lines (book_next k c (job.Store (store.Judge q)) x).entries c.mark (job.Store (store.Judge q)) m h (same_ungiven k c x (job.Store (store.Judge q)) m g refl)
      (judged_used c.numbers q (version_for c.vips c.book.entries q.key) c.book (is_withdrawn k c q) (learned_is q key.key.vip p h) h.used) (judge_waited k c x (book_next k c (job.Store (store.Judge q)) x).entries c.mark q m g)
  versions_go (job.Store (store.Empty key place y)) p s h =
      same_lines (with_changed left_other key c.book.entries) c.mark (job.Store (store.Empty key place y)) (job.Draw (draw.Cleared key place y)) h refl (changed_all (IsUsed c.numbers) (IsUsed c.numbers) left_other key (λ e q a. a) (λ e q a. a) c.book.entries h.used) tt
  versions_go (job.Drain pipe count wt) p s h = drain_on pipe count wt (job_next k c (job.Drain pipe count wt) x) (goes k c x (job.Drain pipe count wt)) h
  versions_go (job.Look pipe) p s h =
      let m = job_next k c (job.Look pipe) x in
      let g = goes k c x (job.Look pipe) in
      let t = taking k c None pipe x in
      same_lines t.book.entries c.mark (job.Look pipe) m h (same_ungiven k c x (job.Look pipe) m g refl) (taken_used k.layout c.numbers None x c.book t.book (takes k c None pipe x).book h.used) (look_waited k c x t.book.entries c.mark pipe m g)
  versions_go (job.Hit from ms key place n) p s h =
      let m = job_next k c (job.Hit from ms key place n) x in
      let g = goes k c x (job.Hit from ms key place n) in
      let es = with_changed (swept (read_flag x)) key c.book.entries in
      same_lines es c.mark (job.Hit from ms key place n) m h (same_ungiven k c x (job.Hit from ms key place n) m g refl) (changed_all (IsUsed c.numbers) (IsUsed c.numbers) (swept (read_flag x)) key (λ e q a. a) (λ e q a. a) c.book.entries h.used) (hit_waited k c x es c.mark from ms n key place m g)
  versions_go j p s h =
      same_lines c.book.entries c.mark j (job_next k c j x) h (same_ungiven k c x j (job_next k c j x) (goes k c x j) refl) h.used (waited_goes k c x j (job_next k c j x) (goes k c x j) tt h.waited)
