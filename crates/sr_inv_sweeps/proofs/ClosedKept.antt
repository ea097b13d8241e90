-- Each event keeps which connections are closed.
use Rattle.std.proofs.Common.{◌≡◌, ℕ, ◌+◌, ◌%◌, ◌<◌, ◌≤◌, Bool, true, false, not, ◌&&◌, ◌||◌, ◌≢◌, ◌⊎◌, List, ◌++◌, if◌then◌else◌, ◌==◌, slice_get, slice_set, Some, None, Option, sym, refl, ap, ◌∙◌, subst, inl, inr, true≢false, arith}
use Rattle.std.proofs.Math.Nat.{add-mod_right}
use Rattle.std.proofs.lemmas.Bool.{cases_lt, cases_eq}
use Rattle.std.proofs.lemmas.Bool.Decides.{nat_tests}
use Rattle.sr_base.proofs.Sameness.{same_key-true, same_key-self}
use Rattle.sr_base.specs.Key.{KeyView, same_key}
use Rattle.sr_base.specs.Layout.{LayoutView}
use Rattle.sr_base.specs.declared.packet.Packet.{Packet}
use Rattle.sr_base.specs.declared.place.Place.{Place}
use Rattle.sr_base.specs.declared.ring_word.RingKind.TheVariants.{Close}
use Rattle.sr_base.specs.declared.ring_word.RingWord.{RingWord}
use Rattle.sr_inv_facts.proofs.Beginning.{begun_by}
use Rattle.sr_inv_facts.proofs.Lists.{all_then}
use Rattle.sr_inv_facts.proofs.Pipes.{pipe_there, idle}
use Rattle.sr_inv_facts.proofs.Printing.{job_tells, tells, pipe_silent}
use Rattle.sr_inv_facts.proofs.Takes.{count_else, count_here, take_none, take_some}
use Rattle.sr_inv_facts.proofs.Taking.{none_reported}
use Rattle.sr_inv_facts.proofs.Windows.{cells_apart}
use Rattle.sr_inv_facts.specs.Fitted.{IsPacket}
use Rattle.sr_inv_facts.specs.InShape.{JobFits}
use Rattle.sr_inv_facts.specs.InSweeps.{ClosedAre, ClosedHold, HasEnded, IsRetiring}
use Rattle.sr_inv_facts.specs.InTicks.{same}
use Rattle.sr_inv_facts.specs.InWords.{HoldsReports}
use Rattle.sr_inv_facts.specs.Invariant.{Invariant}
use Rattle.sr_inv_facts.specs.Laws.{OpensWith}
use Rattle.sr_inv_facts.specs.Readings.{IfClose, IsBehind, from_place, ring_words}
use Rattle.sr_inv_sweeps.proofs.ClosingJobs.{all_passing, closed_take, ended_tells, was_closed, plain_closed}
use Rattle.sr_inv_sweeps.proofs.ClosingStages.{if_close, closed_stage}
use Rattle.sr_inv_sweeps.proofs.Ending.{ended_after}
use Rattle.sr_machine.proofs.Following.{goes}
use Rattle.sr_machine.proofs.Written.{report_read}
use Rattle.sr_machine.specs.Core.{Core, printed}
use Rattle.sr_machine.specs.Deciding.{ring_count}
use Rattle.sr_machine.specs.Goes.{Goes}
use Rattle.sr_machine.specs.Jobs.{job_op, job_next}
use Rattle.sr_machine.specs.Keeping.{AfterJob, Keeps, begun_core}
use Rattle.sr_machine.specs.Names.{rewritten}
use Rattle.sr_machine.specs.Opening.{opening_controller, opening_words}
use Rattle.sr_machine.specs.Reads.{read_report}
use Rattle.sr_machine.specs.Stages.{ring_cell}
use Rattle.sr_machine.specs.Starting.{Start}
use Rattle.sr_machine.specs.Taking.{is_ended, taking, ended_by}
use Rattle.sr_machine.specs.Waiting.{has_next, is_ring_done}
use Rattle.sr_machine.specs.declared.job.Job.{Job}
use Rattle.sr_machine.specs.declared.name.Name.{Name}
use Rattle.sr_machine.specs.declared.pipe_view.PipeView.{PipeView}
use Rattle.sr_machine.specs.declared.ring_count.RingCount.{RingCount}
use Rattle.sr_machine.specs.declared.stage.Stage.TheVariants.{Idle, Enter}
use Rattle.sr_machine.specs.declared.wait.Wait.{Wait}
use Rattle.sr_shadow.specs.Book.{without_key}
use Rattle.sr_shadow.specs.Entry.{is_of}
use Rattle.sr_inv_facts.specs.Putting.{put_core}
use Rattle.sr_machine.specs.declared.put.Put.{Put}
use Rattle.sr_machine.specs.Goes as go
use Rattle.sr_machine.specs.declared.draw.Draw.TheVariants as draw
use Rattle.sr_machine.specs.declared.store.Store.TheVariants as store
use Rattle.sr_machine.specs.declared.wait.Wait.TheVariants as wait
use Rattle.sr_machine.specs.declared.why.Why.TheVariants as why
use Rattle.sr_machine.specs.declared.job.Job.TheVariants as job
use Rattle.sr_machine.specs.declared.name.Name.TheVariants as name

module _ (s : Core) (i : Invariant s) where
  -- ---- a connection is retired

  retired_closed : (of : KeyView) (place : Place) (version : ℕ) → s.controller.job ≡ job.Draw (draw.Retired of place version)
      → AfterJob ClosedAre s (job.Draw (draw.Retired of place version)) (job_op s.config s.controller (job.Draw (draw.Retired of place version)))
  retired_closed of place version e =
      let j = job.Draw (draw.Retired of place version) in
      let m = job.Store (store.Empty of place (why.Retired version)) in
      let now = tells s.config s.controller j (s.words name.Tick) ++ printed s in
      subst (ClosedHold s.config.layout (ring_words s.words) s.controller.rings s.pipes (without_key of s.controller.book.entries) m)
      (sym (job_tells s (job.Draw (draw.Retired of place version)) i.ticks)) (record {
        closed =
            all_passing (λ n. n.closed ≡ true → HasEnded s.pipes (printed s) n.key) (λ n. n.closed ≡ true → HasEnded s.pipes now n.key)
            (λ n. not (is_of of n)) (λ n t h c. ended_tells s j n.key (λ same. other n.key t same) (h c)) s.controller.book.entries i.sweeps.sweeps.ended.closed;
        closes = λ p n b c r read.
            if_close r.kind (HasEnded s.pipes (printed s) r.key ⊎ ⊥) (HasEnded s.pipes now r.key ⊎ (of ≡ r.key))
            (λ h. at r.key (same_key of r.key) refl h) ((was_closed s i j e).closes p n b c r read);
      })
    where
      other : (key : KeyView) → not (same_key of key) ≡ true → of ≡ key → ⊥
      other key t same = true≢false (sym t ∙ ap not (ap (same_key of) (sym same) ∙ same_key-self of))

      at : (key : KeyView) (b : Bool) → same_key of key ≡ b → HasEnded s.pipes (printed s) key ⊎ ⊥
          → HasEnded s.pipes (tells s.config s.controller (job.Draw (draw.Retired of place version)) (s.words name.Tick) ++ printed s) key ⊎ (of ≡ key)
      at key true q h = inr (same_key-true of key q)
      at key false q (inl h) = inl (ended_tells s (job.Draw (draw.Retired of place version)) key (λ same. other key (ap not q) same) h)
      at key false q (inr h) = absurd h

  -- ---- a take

  module _ (pipe : ℕ) (b : pipe < s.config.layout.shape.pipes) where
    abbrev l : LayoutView
    l = s.config.layout

    abbrev taken : ℕ
    taken = (ring_count s.controller.rings pipe).words

    abbrev cell : Name
    cell = ring_cell l pipe taken

    abbrev after : ℕ → ℕ → ℕ
    after = ring_words (rewritten s.words cell 0)

    -- a report is where it was, or was one place further on in the ring that a word was taken from
    abbrev Moved : ℕ → ℕ → RingWord → Type 0
    Moved p n r =
        ((p ≢ pipe) × (read_report l (from_place l s.controller.rings (ring_words s.words) p n) ≡ Some r))
        ⊎ ((p ≡ pipe) × (s.words cell ≢ 0) × (n + 1 < l.shape.ring)
        × (read_report l (from_place l s.controller.rings (ring_words s.words) pipe (n + 1)) ≡ Some r))

    other_ring : (p c : ℕ) → p ≢ pipe → after p c ≡ s.words (name.Ring p c)
    other_ring p c apart = at (pipe == p) (grind (arith, nat_tests)) ((taken % l.shape.ring) == c)
      where
        at : (t : Bool) → t ≡ false → (z : Bool) → (if t && z then 0 else s.words (name.Ring p c)) ≡ s.words (name.Ring p c)
        at true e z = cc
        at false e z = refl

    own_ring : (c : ℕ) → after pipe c ≡ (if (taken % l.shape.ring) == c then 0 else s.words (name.Ring pipe c))
    own_ring c = at (pipe == pipe) (grind (arith, nat_tests)) ((taken % l.shape.ring) == c)
      where
        at : (t : Bool) → t ≡ true → (z : Bool) → (if t && z then 0 else s.words (name.Ring pipe c)) ≡ (if z then 0 else s.words (name.Ring pipe c))
        at true e z = refl
        at false e z = cc

    zero_silent : (x : ℕ) (r : RingWord) → x ≡ 0 → read_report l x ≡ Some r → ⊥
    zero_silent x r none read = none_reported l x r (grind (arith, nat_tests)) read

    -- where the first cell is empty the whole ring is
    ring_empty : s.words cell ≡ 0 → (n : ℕ) → n < l.shape.ring → s.words (name.Ring pipe ((taken + n) % l.shape.ring)) ≡ 0
    ring_empty none n h = at (cases_lt taken own.0.pushed)
      where
        own : (v : PipeView) × (slice_get s.pipes pipe ≡ Some v)
        own = pipe_there s.pipes pipe (omega (arith, b, i.shape.pipes.count))

        holds : HoldsReports l (ring_words s.words pipe) taken own.0.pushed
        holds = i.words.ring pipe own.0 own.1

        at : (taken < own.0.pushed) ⊎ (own.0.pushed ≤ taken) → s.words (name.Ring pipe ((taken + n) % l.shape.ring)) ≡ 0
        at (inl some) =
            let report = holds.there taken (omega arith) some in
            absurd (zero_silent (s.words cell) report.report none (ap (read_report l) report.value ∙ report_read l report.report report.is_word report.vip))
        at (inr done) = holds.empty (taken + n) (omega arith) (omega arith)

    -- the words of the rings after it
    moved_none : s.words cell ≡ 0 → (p n : ℕ) → n < l.shape.ring → (r : RingWord)
        → read_report l (from_place l s.controller.rings after p n) ≡ Some r → Moved p n r
    moved_none none p n h r read = at (cases_eq p pipe)
      where
        at : (p ≡ pipe) ⊎ (p ≢ pipe) → Moved p n r
        at (inl same) =
            let zero_word : after pipe ((taken + n) % l.shape.ring) ≡ 0 = own_ring ((taken + n) % l.shape.ring) ∙ by ((taken % l.shape.ring) == ((taken + n) % l.shape.ring)) in
            absurd (zero_silent (after pipe ((taken + n) % l.shape.ring)) r zero_word (subst (λ m. read_report l (from_place l s.controller.rings after m n) ≡ Some r) same read))
          where
            by : (z : Bool) → (if z then 0 else s.words (name.Ring pipe ((taken + n) % l.shape.ring))) ≡ 0
            by true = refl
            by false = ring_empty none n h
        at (inr apart) = inl (apart, ap (read_report l) (sym (other_ring p _ apart)) ∙ read)

    moved_some : s.words cell ≢ 0 → (count : RingCount) → count.words ≡ taken + 1 → (p n : ℕ) → n < l.shape.ring → (r : RingWord)
        → read_report l (from_place l (slice_set s.controller.rings pipe count) after p n) ≡ Some r → Moved p n r
    moved_some full count more p n h r read = at (cases_eq p pipe)
      where
        rings : List RingCount
        rings = slice_set s.controller.rings pipe count

        words_are : (ring_count rings pipe).words ≡ taken + 1
        words_are = ap (λ z. z.words) (count_here s.controller.rings pipe count (omega (arith, b, i.shape.controller.rings))) ∙ more

        here : read_report l (from_place l rings after p n) ≡ Some r → p ≡ pipe → read_report l (after pipe (((taken + 1) + n) % l.shape.ring)) ≡ Some r
        here f same =
            ap (λ z. read_report l (after pipe ((z + n) % l.shape.ring))) (sym words_are)
            ∙ subst (λ m. read_report l (from_place l rings after m n) ≡ Some r) same f

        at : (p ≡ pipe) ⊎ (p ≢ pipe) → Moved p n r
        at (inl same) = by (cases_lt (n + 1) l.shape.ring)
          where
            by : (n + 1 < l.shape.ring) ⊎ (l.shape.ring ≤ n + 1) → Moved p n r
            by (inl less) =
                let apart : (taken % l.shape.ring) ≢ (((taken + 1) + n) % l.shape.ring) = cells_apart l.shape.ring taken ((taken + 1) + n) (omega arith) (omega arith) in
                let value : after pipe (((taken + 1) + n) % l.shape.ring) ≡ s.words (name.Ring pipe (((taken + 1) + n) % l.shape.ring)) =
                own_ring (((taken + 1) + n) % l.shape.ring) ∙ stays ((taken % l.shape.ring) == (((taken + 1) + n) % l.shape.ring)) (grind (arith, nat_tests)) in
                let place : (taken + 1) + n ≡ taken + (n + 1) = omega arith in
                inr (same, full, less, ap (λ z. read_report l (s.words (name.Ring pipe (z % l.shape.ring)))) (sym place) ∙ (ap (read_report l) (sym value) ∙ here read same))
              where
                stays : (z : Bool) → z ≡ false → (if z then 0 else s.words (name.Ring pipe (((taken + 1) + n) % l.shape.ring))) ≡ s.words (name.Ring pipe (((taken + 1) + n) % l.shape.ring))
                stays true f = cc
                stays false f = refl
            by (inr end) =
                let round : (taken + 1) + n ≡ taken + l.shape.ring = omega arith in
                let same_cell : taken % l.shape.ring ≡ ((taken + 1) + n) % l.shape.ring =
                sym (ap (λ z. z % l.shape.ring) round ∙ add-mod_right taken l.shape.ring) in
                let none : after pipe (((taken + 1) + n) % l.shape.ring) ≡ 0 =
                own_ring (((taken + 1) + n) % l.shape.ring) ∙ gone ((taken % l.shape.ring) == (((taken + 1) + n) % l.shape.ring)) (grind (arith, nat_tests)) in
                absurd (zero_silent (after pipe (((taken + 1) + n) % l.shape.ring)) r none (here read same))
              where
                gone : (z : Bool) → z ≡ true → (if z then 0 else s.words (name.Ring pipe (((taken + 1) + n) % l.shape.ring))) ≡ 0
                gone true f = refl
                gone false f = cc
        at (inr apart) =
            inl (apart, ap (read_report l) (sym (ap (λ z. after p ((z.words + n) % l.shape.ring)) (count_else s.controller.rings pipe p count apart) ∙ other_ring p _ apart)) ∙ read)

    moved : (ended : Option KeyView) (p n : ℕ) → n < l.shape.ring → (r : RingWord)
        → read_report l (from_place l (taking s.config s.controller ended pipe (s.words cell)).rings after p n) ≡ Some r → Moved p n r
    moved ended p n h r read = at (cases_eq (s.words cell) 0)
      where
        at : (s.words cell ≡ 0) ⊎ (s.words cell ≢ 0) → Moved p n r
        at (inl none) =
            moved_none none p n h r (subst (λ t. read_report l (from_place l t.rings after p n) ≡ Some r) (take_none s.config s.controller ended pipe (s.words cell) none) read)
        at (inr full) =
            moved_some full _ refl p n h r (subst (λ t. read_report l (from_place l t.rings after p n) ≡ Some r) (take_some s.config s.controller ended pipe (s.words cell) full) read)

    -- what is owed of the job that comes
    take_closed : (ended : Option KeyView) (j m : Job) → s.controller.job ≡ j
        → ((key : KeyView) → IsRetiring l j key pipe 0 → is_ended key ended ≡ true)
        → ((p n : ℕ) (key : KeyView) → p < l.shape.pipes → n < l.shape.ring → p ≢ pipe → IsRetiring l j key p n → IsRetiring l m key p n)
        → ((n : ℕ) (key : KeyView) → s.words cell ≢ 0 → n + 1 < l.shape.ring → IsRetiring l j key pipe (n + 1) → IsRetiring l m key pipe n)
        → ClosedHold l after (taking s.config s.controller ended pipe (s.words cell)).rings s.pipes (taking s.config s.controller ended pipe (s.words cell)).book.entries m (printed s)
    take_closed ended j m e over else_turns own_turns = record {
      closed = closed_take (HasEnded s.pipes (printed s)) s.config s.controller ended pipe (s.words cell) new i.sweeps.sweeps.ended.closed;
      closes = λ p n h c r read. at p n h c r (moved ended p n c r read);
    }
      where
        old : (p n : ℕ) → p < l.shape.pipes → n < l.shape.ring → (r : RingWord) → read_report l (from_place l s.controller.rings (ring_words s.words) p n) ≡ Some r
            → IfClose r.kind (HasEnded s.pipes (printed s) r.key ⊎ IsRetiring l j r.key p n)
        old p n h c r read = (was_closed s i j e).closes p n h c r read

        new : (w : RingWord) → read_report l (s.words cell) ≡ Some w → w.kind ≡ Close → is_ended w.key ended ≡ false → HasEnded s.pipes (printed s) w.key
        new w read kind left =
            let start : taken ≡ taken + 0 = omega arith in
            by (subst (λ z. IfClose z (HasEnded s.pipes (printed s) w.key ⊎ IsRetiring l j w.key pipe 0)) kind
            (old pipe 0 b (omega (arith, i.shape.config.layout.ring.0)) w (ap (λ z. read_report l (s.words (name.Ring pipe (z % l.shape.ring)))) (sym start) ∙ read)))
          where
            by : HasEnded s.pipes (printed s) w.key ⊎ IsRetiring l j w.key pipe 0 → HasEnded s.pipes (printed s) w.key
            by (inl h) = h
            by (inr h) = absurd (true≢false (sym (over w.key h) ∙ left))

        at : (p n : ℕ) → p < l.shape.pipes → n < l.shape.ring → (r : RingWord) → Moved p n r
            → IfClose r.kind (HasEnded s.pipes (printed s) r.key ⊎ IsRetiring l m r.key p n)
        at p n h c r (inl z) =
            if_close r.kind (HasEnded s.pipes (printed s) r.key ⊎ IsRetiring l j r.key p n) (HasEnded s.pipes (printed s) r.key ⊎ IsRetiring l m r.key p n)
            turn (old p n h c r z.1)
          where
            turn : HasEnded s.pipes (printed s) r.key ⊎ IsRetiring l j r.key p n → HasEnded s.pipes (printed s) r.key ⊎ IsRetiring l m r.key p n
            turn (inl g) = inl g
            turn (inr g) = inr (else_turns p n r.key h c z.0 g)
        at p n h c r (inr z) =
            if_close r.kind (HasEnded s.pipes (printed s) r.key ⊎ IsRetiring l j r.key pipe (n + 1)) (HasEnded s.pipes (printed s) r.key ⊎ IsRetiring l m r.key p n)
            turn (old pipe (n + 1) b z.2 r z.3)
          where
            turn : HasEnded s.pipes (printed s) r.key ⊎ IsRetiring l j r.key pipe (n + 1) → HasEnded s.pipes (printed s) r.key ⊎ IsRetiring l m r.key p n
            turn (inl g) = inl g
            turn (inr g) = inr (subst (λ y. IsRetiring l m r.key y n) (sym z.0) (own_turns n r.key z.1 z.2 g))

  -- ---- a drain of a retirement

  done_full : (count x : ℕ) → is_ring_done s.config.layout count x ≡ true → x ≢ 0 → count + 1 ≡ s.config.layout.shape.ring
  done_full count x done full = at (x == 0) ((count + 1) == s.config.layout.shape.ring) refl refl done
    where
      at : (a z : Bool) → (x == 0) ≡ a → ((count + 1) == s.config.layout.shape.ring) ≡ z → (a || z) ≡ true → count + 1 ≡ s.config.layout.shape.ring
      at true z p q d = absurd (full (grind (arith, nat_tests)))
      at false true p q d = grind (arith, nat_tests)
      at false false p q d = cc

  abbrev Turns : ℕ → ℕ → KeyView → Job → ℕ → Type 0
  Turns pipe count of m x =
      ((p n : ℕ) (key : KeyView) → p < s.config.layout.shape.pipes → n < s.config.layout.shape.ring → p ≢ pipe
      → IsRetiring s.config.layout (job.Drain pipe count (wait.Retire of)) key p n → IsRetiring s.config.layout m key p n)
      × ((n : ℕ) (key : KeyView) → x ≢ 0 → n + 1 < s.config.layout.shape.ring
      → IsRetiring s.config.layout (job.Drain pipe count (wait.Retire of)) key pipe (n + 1) → IsRetiring s.config.layout m key pipe n)

  drain_turns : (pipe count : ℕ) (of : KeyView) (x : ℕ) (m : Job) → Goes s.config s.controller x (job.Drain pipe count (wait.Retire of)) m
      → Turns pipe count of m x
  drain_turns pipe count of x m (go.drain_stays at c (wait.Retire k) e) =
      ((λ p n key h b apart g. (g.0, λ z. g.1 (behind_else p n apart z))), (λ n key full less g. (g.0, λ z. g.1 (behind_own n z))))
    where
      behind_else : (p n : ℕ) → p ≢ pipe → IsBehind s.config.layout pipe (count + 1) p n → IsBehind s.config.layout pipe count p n
      behind_else p n apart (inl z) = inl z
      behind_else p n apart (inr z) = absurd (apart z.0)

      behind_own : (n : ℕ) → IsBehind s.config.layout pipe (count + 1) pipe n → IsBehind s.config.layout pipe count pipe (n + 1)
      behind_own n (inl z) = absurd (omega arith)
      behind_own n (inr z) = inr (refl, omega (arith, z.1))
  drain_turns pipe count of x m (go.drain_next at c (wait.Retire k) e next) =
      ((λ p n key h b apart g. (g.0, λ z. g.1 (behind p n apart b z))), (λ n key full less g. absurd (g.1 (inr (refl, omega (arith, done_full count x e full))))))
    where
      behind : (p n : ℕ) → p ≢ pipe → n < s.config.layout.shape.ring → IsBehind s.config.layout (pipe + 1) 0 p n → IsBehind s.config.layout pipe count p n
      behind p n apart b (inl z) = inl (omega arith)
      behind p n apart b (inr z) = absurd (omega (arith, z.1))
  drain_turns pipe count of x m (go.drain_last at c (wait.Retire k) e last) =
      ((λ p n key h b apart g. absurd (g.1 (inl (within p h apart last)))), (λ n key full less g. absurd (g.1 (inr (refl, omega (arith, done_full count x e full))))))
    where
      within : (p : ℕ) → p < s.config.layout.shape.pipes → p ≢ pipe → has_next s.config.layout pipe ≡ false → p < pipe
      within p h apart none = let end : s.config.layout.shape.pipes ≤ pipe + 1 = grind (arith, nat_tests) in omega arith

  drain_closed : (pipe count : ℕ) (w : Wait) → s.controller.job ≡ job.Drain pipe count w
      → AfterJob ClosedAre s (job.Drain pipe count w) (job_op s.config s.controller (job.Drain pipe count w))
  drain_closed pipe count (wait.Retire of) e =
      let b = (subst (JobFits s.config.layout) e i.shape.controller.job).0 in
      let j = job.Drain pipe count (wait.Retire of) in
      let x = s.words (ring_cell s.config.layout pipe (ring_count s.controller.rings pipe).words) in
      let m = job_next s.config s.controller j x in
      let turns = drain_turns pipe count of x m (goes s.config s.controller x j) in
      subst (ClosedHold s.config.layout _ _ s.pipes _ m) (sym (job_tells s (job.Drain pipe count (wait.Retire of)) i.ticks))
      (take_closed pipe b (Some of) j m e (λ key h. ap (same_key key) h.0 ∙ same_key-self key) turns.0 turns.1)
  drain_closed pipe count w e =
      let b = (subst (JobFits s.config.layout) e i.shape.controller.job).0 in
      let j = job.Drain pipe count w in
      let x = s.words (ring_cell s.config.layout pipe (ring_count s.controller.rings pipe).words) in
      let m = job_next s.config s.controller j x in
      subst (ClosedHold s.config.layout _ _ s.pipes _ m) (sym (job_tells s (job.Drain pipe count w) i.ticks))
      (take_closed pipe b (ended_by j) j m e (λ key h. absurd h) (λ p n key h c apart g. absurd g) (λ n key full less g. absurd g))

  closed_job : (j : Job) → s.controller.job ≡ j → AfterJob ClosedAre s j (job_op s.config s.controller j)
  closed_job job.Free e = tt
  closed_job (job.Draw (draw.Retired of place version)) e = retired_closed of place version e
  closed_job (job.Drain pipe count w) e = drain_closed pipe count w e
  closed_job (job.Look pipe) e =
      let x = s.words (ring_cell s.config.layout pipe (ring_count s.controller.rings pipe).words) in
      let m = job_next s.config s.controller (job.Look pipe) x in
      subst (ClosedHold s.config.layout _ _ s.pipes _ m) (sym (job_tells s (job.Look pipe) i.ticks))
      (take_closed pipe (subst (JobFits s.config.layout) e i.shape.controller.job) None (job.Look pipe) m e (λ key h. absurd h) (λ p n key h c apart g. absurd g) (λ n key full less g. absurd g))
  closed_job (job.Store (store.Down server)) e =
      plain_closed s i (job.Store (store.Down server)) (job_op s.config s.controller (job.Store (store.Down server))) e tt (λ key z. z) (λ x. refl) (λ n c. refl) (job_tells s (job.Store (store.Down server)) i.ticks)
  closed_job j e = plain_closed s i j (job_op s.config s.controller j) e tt (λ key z. z) (λ x. refl) (λ n c. refl) (job_tells s j i.ticks)

-- ---- what it begins, and a packet that enters

pub closed_put : (s : Core) (p : Put) → s.controller.job ≡ job.Free → ClosedAre s → ClosedAre (put_core s p)
closed_put s p free h = record {
  closed = h.closed;
  closes = λ n m low less r read.
      if_close r.kind (HasEnded s.pipes (printed s) r.key ⊎ IsRetiring s.config.layout s.controller.job r.key n m)
      (HasEnded s.pipes (printed s) r.key ⊎ IsRetiring s.config.layout (job.Draw (draw.Reserved p)) r.key n m) (turn n m r) (h.closes n m low less r read);
}
  where
    turn : (n m : ℕ) (r : RingWord) → HasEnded s.pipes (printed s) r.key ⊎ IsRetiring s.config.layout s.controller.job r.key n m
        → HasEnded s.pipes (printed s) r.key ⊎ IsRetiring s.config.layout (job.Draw (draw.Reserved p)) r.key n m
    turn n m r (inl g) = inl g
    turn n m r (inr g) = absurd (subst (λ j. IsRetiring s.config.layout j r.key n m) free g)

begins_closed : (s : Core) → ClosedAre s → ClosedAre (begun_core s)
begins_closed s h =
    begun_by s.config s.controller (λ c. ClosedHold s.config.layout (ring_words s.words) c.rings s.pipes c.book.entries c.job (printed s)) h
    (λ free start b. record {
      closed = h.closed;
      closes = λ p n low less r read.
          if_close r.kind (HasEnded s.pipes (printed s) r.key ⊎ IsRetiring s.config.layout s.controller.job r.key p n) (HasEnded s.pipes (printed s) r.key ⊎ IsRetiring s.config.layout start.job r.key p n)
          (turn free start p n r) (h.closes p n low less r read);
    })
  where
    turn : s.controller.job ≡ job.Free → (start : Start) (p n : ℕ) (r : RingWord)
        → HasEnded s.pipes (printed s) r.key ⊎ IsRetiring s.config.layout s.controller.job r.key p n
        → HasEnded s.pipes (printed s) r.key ⊎ IsRetiring s.config.layout start.job r.key p n
    turn free start p n r (inl g) = inl g
    turn free start p n r (inr g) = absurd (subst (λ j. IsRetiring s.config.layout j r.key p n) free g)

enter_closed : (s : Core) (i : Invariant s) (p : ℕ) (v : PipeView) (packet : Packet) → slice_get s.pipes p ≡ Some v → v.stage ≡ Idle
    → ClosedAre (record s { pipes = slice_set s.pipes p (record v { stage = Enter packet }) })
enter_closed s i p v packet q e =
    let w = record v { stage = Enter packet } in
    subst (ClosedHold s.config.layout (ring_words s.words) s.controller.rings (slice_set s.pipes p (record v { stage = Enter packet })) s.controller.book.entries s.controller.job)
    (sym (pipe_silent s p v (record v { stage = Enter packet }) q refl s.words)) (record {
      closed = all_then (λ n. n.closed ≡ true → HasEnded s.pipes (printed s) n.key) (λ n. n.closed ≡ true → HasEnded (slice_set s.pipes p (record v { stage = Enter packet })) (printed s) n.key)
          (λ n h c. ended_after s i p v q Idle e (record v { stage = Enter packet }) n.key (h c)) s.controller.book.entries i.sweeps.sweeps.ended.closed;
      closes = λ n m b c r read.
          if_close r.kind (HasEnded s.pipes (printed s) r.key ⊎ IsRetiring s.config.layout s.controller.job r.key n m)
          (HasEnded (slice_set s.pipes p (record v { stage = Enter packet })) (printed s) r.key ⊎ IsRetiring s.config.layout s.controller.job r.key n m)
          (turn n m r) (i.sweeps.sweeps.ended.closes n m b c r read);
    })
  where
    turn : (n m : ℕ) (r : RingWord) → HasEnded s.pipes (printed s) r.key ⊎ IsRetiring s.config.layout s.controller.job r.key n m
        → HasEnded (slice_set s.pipes p (record v { stage = Enter packet })) (printed s) r.key ⊎ IsRetiring s.config.layout s.controller.job r.key n m
    turn n m r (inl h) = inl (ended_after s i p v q Idle e (record v { stage = Enter packet }) r.key h)
    turn n m r (inr h) = inr h

pub closed_keep : Keeps IsPacket Invariant ClosedAre
closed_keep = record {
  stages = λ s p v a q e i f. closed_stage s i p v q a e;
  begins = λ s i f. begins_closed s f;
  jobs = λ s j q b i f. closed_job s i j q;
  enters = λ s p v packet q r u n a i f. enter_closed s i p v packet q (idle v.stage r);
  clocks = λ s ms q i f. f;
  refusals = λ s q i f. f;
}

pub closed_open : OpensWith ClosedAre
unfolding opening_words opening_controller
closed_open k f = record { closed = tt; closes = λ p n b c r read. absurd (none_reported k.layout 0 r refl read) }
