-- The controller's steps keep the tick, the notes and the rings.
use Rattle.std.proofs.Common.{◌≡◌, ℕ, ◌+◌, ◌%◌, ◌<◌, Bool, true, false, ◌&&◌, ◌≢◌, List, length, if◌then◌else◌, ◌==◌, None, Option, sym, refl, ap, ◌∙◌, subst, arith}
use Rattle.std.proofs.lemmas.Bool.Decides.{nat_tests}
use Rattle.sr_base.specs.Key.{KeyView}
use Rattle.sr_base.specs.Layout.{LayoutView}
use Rattle.sr_inv_facts.proofs.Takes.{take_none, take_other, take_own}
use Rattle.sr_inv_facts.specs.InShape.{JobFits}
use Rattle.sr_inv_facts.specs.InWords.{HoldsReports}
use Rattle.sr_inv_facts.specs.Invariant.{Invariant}
use Rattle.sr_inv_facts.specs.Readings.{EachPipe, ring_words}
use Rattle.sr_inv_words.proofs.PipeTicks.{NotesAre, TickIs, next_tick, tick_room}
use Rattle.sr_inv_words.proofs.PipeWords.{RingsHold}
use Rattle.sr_inv_facts.proofs.Windows.{reports_same, window_kept, window_take}
use Rattle.sr_machine.specs.Core.{Core}
use Rattle.sr_machine.specs.Deciding.{ring_count}
use Rattle.sr_machine.specs.Jobs.{job_op}
use Rattle.sr_machine.specs.Keeping.{AfterJob}
use Rattle.sr_machine.specs.Names.{rewritten}
use Rattle.sr_machine.specs.Stages.{ring_cell}
use Rattle.sr_machine.specs.Taking.{ended_by, taking}
use Rattle.sr_machine.specs.declared.job.Job.{Job}
use Rattle.sr_machine.specs.declared.name.Name.{Name}
use Rattle.sr_machine.specs.declared.ring_count.RingCount.{RingCount}
use Rattle.sr_machine.specs.declared.store.Store.TheVariants as store
use Rattle.sr_machine.specs.declared.job.Job.TheVariants as job
use Rattle.sr_machine.specs.declared.name.Name.TheVariants as name

module _ (s : Core) (i : Invariant s) where
  pub tick_job : (j : Job) → AfterJob TickIs s j (job_op s.config s.controller j)
  tick_job job.Free = tt
  tick_job (job.Draw d) = next_tick (s.words name.Tick) (tick_room s i) ∙ omega (arith, i.words.tick)
  tick_job (job.Store (store.Down server)) = i.words.tick
  tick_job j = i.words.tick

  pub note_job : (j : Job) → AfterJob NotesAre s j (job_op s.config s.controller j)
  note_job job.Free = tt
  note_job (job.Store (store.Down server)) = i.words.note
  note_job j = i.words.note

  -- a swap of a ring's first cell
  ring_taken : (ended : Option KeyView) (pipe : ℕ) → pipe < s.config.layout.shape.pipes
      → EachPipe (λ p v. HoldsReports s.config.layout
      (ring_words (rewritten s.words (ring_cell s.config.layout pipe (ring_count s.controller.rings pipe).words) 0) p)
      (ring_count (taking s.config s.controller ended pipe (s.words (ring_cell s.config.layout pipe (ring_count s.controller.rings pipe).words))).rings p).words
      v.pushed) s.pipes
  ring_taken ended pipe b p v q = at (pipe == p) refl (s.words cell == 0) refl
    where
      l : LayoutView
      l = s.config.layout

      taken : ℕ
      taken = (ring_count s.controller.rings pipe).words

      cell : Name
      cell = ring_cell l pipe taken

      after : ℕ → ℕ
      after = ring_words (rewritten s.words cell 0) p

      rings : List RingCount
      rings = (taking s.config s.controller ended pipe (s.words cell)).rings

      apart : (c : ℕ) (t : Bool) → t ≡ false → (b : Bool) → (if t && b then 0 else s.words (name.Ring p c)) ≡ s.words (name.Ring p c)
      apart c true e b = cc
      apart c false e b = refl

      own : (c : ℕ) (t : Bool) → t ≡ true → (b : Bool)
          → (if t && b then 0 else s.words (name.Ring p c)) ≡ (if b then 0 else s.words (name.Ring p c))
      own c true e b = refl
      own c false e b = cc

      at : (t : Bool) → (pipe == p) ≡ t → (z : Bool) → (s.words cell == 0) ≡ z → HoldsReports l after (ring_count rings p).words v.pushed
      at false e z f =
          let other : p ≢ pipe = grind (arith, nat_tests) in
          subst (λ n. HoldsReports l after n v.pushed) (sym (ap (λ r. r.words) (take_other s.config s.controller ended pipe (s.words cell) p other)))
          (reports_same l (ring_words s.words p) after (ring_count s.controller.rings p).words v.pushed (i.words.ring p v q) (λ c. apart c (pipe == p) e ((taken % l.shape.ring) == c)))
      at true e true f =
          let here : pipe ≡ p = grind (arith, nat_tests) in
          let none : s.words cell ≡ 0 = grind (arith, nat_tests) in
          subst (λ t. HoldsReports l after (ring_count t.rings p).words v.pushed) (sym (take_none s.config s.controller ended pipe (s.words cell) none))
          (subst (λ m. HoldsReports l after (ring_count s.controller.rings m).words v.pushed) here
          (window_kept l (ring_words s.words p) after taken v.pushed (subst (λ m. HoldsReports l (ring_words s.words p) (ring_count s.controller.rings m).words v.pushed) (sym here) (i.words.ring p v q))
          (λ c. own c (pipe == p) e ((taken % l.shape.ring) == c))
          (subst (λ m. s.words (name.Ring m (taken % l.shape.ring)) ≡ 0) here none)))
      at true e false f =
          let here : pipe ≡ p = grind (arith, nat_tests) in
          let some : s.words cell ≢ 0 = grind (arith, nat_tests) in
          let within : pipe < length s.controller.rings = omega (arith, b, i.shape.controller.rings) in
          let count : (ring_count rings pipe).words ≡ taken + 1 = ap (λ r. r.words) (take_own s.config s.controller ended pipe (s.words cell) some within) in
          subst (λ m. HoldsReports l after (ring_count rings m).words v.pushed) here
          (subst (λ n. HoldsReports l after n v.pushed) (sym count)
          (window_take l (ring_words s.words p) after taken v.pushed (subst (λ m. HoldsReports l (ring_words s.words p) (ring_count s.controller.rings m).words v.pushed) (sym here) (i.words.ring p v q))
          (omega (arith, i.shape.config.layout.ring.0))
          (λ z. some (subst (λ m. s.words (name.Ring m (taken % l.shape.ring)) ≡ 0) (sym here) z))
          (λ c. own c (pipe == p) e ((taken % l.shape.ring) == c))))

  pub ring_job : (j : Job) → s.controller.job ≡ j → AfterJob RingsHold s j (job_op s.config s.controller j)
  ring_job job.Free e = tt
  ring_job (job.Drain pipe count w) e =
      ring_taken (ended_by (job.Drain pipe count w)) pipe (subst (JobFits s.config.layout) e i.shape.controller.job).0
  ring_job (job.Look pipe) e = ring_taken None pipe (subst (JobFits s.config.layout) e i.shape.controller.job)
  ring_job (job.Store (store.Down server)) e = i.words.ring
  ring_job j e = i.words.ring
