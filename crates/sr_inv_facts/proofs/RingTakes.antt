-- Where each report of the rings was before the controller took a word of one.
use Rattle.std.proofs.Common.{◌≡◌, ℕ, ◌+◌, ◌%◌, ◌<◌, ◌≤◌, Bool, true, false, ◌&&◌, ◌≢◌, ◌⊎◌, List, if◌then◌else◌, ◌==◌, slice_get, slice_set, Some, Option, sym, refl, ap, ◌∙◌, subst, inl, inr, arith}
use Rattle.std.proofs.Math.Nat.{add-mod_right}
use Rattle.std.proofs.lemmas.Bool.{cases_lt, cases_eq}
use Rattle.std.proofs.lemmas.Bool.Decides.{nat_tests}
use Rattle.sr_base.specs.Key.{KeyView}
use Rattle.sr_base.specs.Layout.{LayoutView}
use Rattle.sr_base.specs.declared.ring_word.RingWord.{RingWord}
use Rattle.sr_inv_facts.proofs.Pipes.{pipe_there}
use Rattle.sr_inv_facts.proofs.Takes.{count_else, count_here, take_none, take_some}
use Rattle.sr_inv_facts.proofs.Taking.{none_reported}
use Rattle.sr_inv_facts.proofs.Windows.{cells_apart}
use Rattle.sr_inv_facts.specs.InWords.{HoldsReports}
use Rattle.sr_inv_facts.specs.Invariant.{Invariant}
use Rattle.sr_inv_facts.specs.Readings.{from_place, ring_words}
use Rattle.sr_machine.proofs.Written.{report_read}
use Rattle.sr_machine.specs.Core.{Core}
use Rattle.sr_machine.specs.Deciding.{ring_count}
use Rattle.sr_machine.specs.Names.{rewritten}
use Rattle.sr_machine.specs.Reads.{read_report}
use Rattle.sr_machine.specs.Stages.{ring_cell}
use Rattle.sr_machine.specs.Taking.{taking}
use Rattle.sr_machine.specs.declared.name.Name.{Name}
use Rattle.sr_machine.specs.declared.pipe_view.PipeView.{PipeView}
use Rattle.sr_machine.specs.declared.ring_count.RingCount.{RingCount}
use Rattle.sr_machine.specs.declared.name.Name.TheVariants as name

module _ (s : Core) (i : Invariant s) (pipe : ℕ) (b : pipe < s.config.layout.shape.pipes) where
  abbrev l : LayoutView
  l = s.config.layout

  abbrev taken : ℕ
  taken = (ring_count s.controller.rings pipe).words

  abbrev cell : Name
  cell = ring_cell l pipe taken

  abbrev after : ℕ → ℕ → ℕ
  after = ring_words (rewritten s.words cell 0)

  -- a report is where it was, or was one place further on in the ring that a word was taken from
  abbrev pub Moved : ℕ → ℕ → RingWord → Type 0
  Moved p n r =
      ((p ≢ pipe) × (read_report l (from_place l s.controller.rings (ring_words s.words) p n) ≡ Some r))
      ⊎ ((p ≡ pipe) × (s.words cell ≢ 0) × (n + 1 < l.shape.ring)
      × (read_report l (from_place l s.controller.rings (ring_words s.words) pipe (n + 1)) ≡ Some r))

  other_ring : (p c : ℕ) → p ≢ pipe → after p c ≡ s.words (name.Ring p c)
  other_ring p c apart = at (pipe == p) (grind (arith, nat_tests)) ((taken % l.shape.ring) == c)
    where
      at : (t : Bool) → t ≡ false → (z : Bool) → (if t && z then 0 else s.words (name.Ring p c)) ≡ s.words (name.Ring p c)
      at true e z = cc
      at false e z = refl

  own_ring : (c : ℕ) → after pipe c ≡ (if (taken % l.shape.ring) == c then 0 else s.words (name.Ring pipe c))
  own_ring c = at (pipe == pipe) (grind (arith, nat_tests)) ((taken % l.shape.ring) == c)
    where
      at : (t : Bool) → t ≡ true → (z : Bool) → (if t && z then 0 else s.words (name.Ring pipe c)) ≡ (if z then 0 else s.words (name.Ring pipe c))
      at true e z = refl
      at false e z = cc

  pub zero_silent : (x : ℕ) (r : RingWord) → x ≡ 0 → read_report l x ≡ Some r → ⊥
  zero_silent x r none read = none_reported l x r (grind (arith, nat_tests)) read

  -- where the first cell is empty the whole ring is
  ring_empty : s.words cell ≡ 0 → (n : ℕ) → n < l.shape.ring → s.words (name.Ring pipe ((taken + n) % l.shape.ring)) ≡ 0
  ring_empty none n h = at (cases_lt taken own.0.pushed)
    where
      own : (v : PipeView) × (slice_get s.pipes pipe ≡ Some v)
      own = pipe_there s.pipes pipe (omega (arith, b, i.shape.pipes.count))

      holds : HoldsReports l (ring_words s.words pipe) taken own.0.pushed
      holds = i.words.ring pipe own.0 own.1

      at : (taken < own.0.pushed) ⊎ (own.0.pushed ≤ taken) → s.words (name.Ring pipe ((taken + n) % l.shape.ring)) ≡ 0
      at (inl some) =
          let report = holds.there taken (omega arith) some in
          absurd (zero_silent (s.words cell) report.report none (ap (read_report l) report.value ∙ report_read l report.report report.is_word report.vip))
      at (inr done) = holds.empty (taken + n) (omega arith) (omega arith)

  -- the words of the rings after it
  moved_none : s.words cell ≡ 0 → (p n : ℕ) → n < l.shape.ring → (r : RingWord)
      → read_report l (from_place l s.controller.rings after p n) ≡ Some r → Moved p n r
  moved_none none p n h r read = at (cases_eq p pipe)
    where
      at : (p ≡ pipe) ⊎ (p ≢ pipe) → Moved p n r
      at (inl same) =
          let zero_word : after pipe ((taken + n) % l.shape.ring) ≡ 0 = own_ring ((taken + n) % l.shape.ring) ∙ by ((taken % l.shape.ring) == ((taken + n) % l.shape.ring)) in
          absurd (zero_silent (after pipe ((taken + n) % l.shape.ring)) r zero_word (subst (λ m. read_report l (from_place l s.controller.rings after m n) ≡ Some r) same read))
        where
          by : (z : Bool) → (if z then 0 else s.words (name.Ring pipe ((taken + n) % l.shape.ring))) ≡ 0
          by true = refl
          by false = ring_empty none n h
      at (inr apart) = inl (apart, ap (read_report l) (sym (other_ring p _ apart)) ∙ read)

  moved_some : s.words cell ≢ 0 → (count : RingCount) → count.words ≡ taken + 1 → (p n : ℕ) → n < l.shape.ring → (r : RingWord)
      → read_report l (from_place l (slice_set s.controller.rings pipe count) after p n) ≡ Some r → Moved p n r
  moved_some full count more p n h r read = at (cases_eq p pipe)
    where
      rings : List RingCount
      rings = slice_set s.controller.rings pipe count

      words_are : (ring_count rings pipe).words ≡ taken + 1
      words_are = ap (λ z. z.words) (count_here s.controller.rings pipe count (omega (arith, b, i.shape.controller.rings))) ∙ more

      here : read_report l (from_place l rings after p n) ≡ Some r → p ≡ pipe → read_report l (after pipe (((taken + 1) + n) % l.shape.ring)) ≡ Some r
      here f same =
          ap (λ z. read_report l (after pipe ((z + n) % l.shape.ring))) (sym words_are)
          ∙ subst (λ m. read_report l (from_place l rings after m n) ≡ Some r) same f

      at : (p ≡ pipe) ⊎ (p ≢ pipe) → Moved p n r
      at (inl same) = by (cases_lt (n + 1) l.shape.ring)
        where
          by : (n + 1 < l.shape.ring) ⊎ (l.shape.ring ≤ n + 1) → Moved p n r
          by (inl less) =
              let apart : (taken % l.shape.ring) ≢ (((taken + 1) + n) % l.shape.ring) = cells_apart l.shape.ring taken ((taken + 1) + n) (omega arith) (omega arith) in
              let value : after pipe (((taken + 1) + n) % l.shape.ring) ≡ s.words (name.Ring pipe (((taken + 1) + n) % l.shape.ring)) =
              own_ring (((taken + 1) + n) % l.shape.ring) ∙ stays ((taken % l.shape.ring) == (((taken + 1) + n) % l.shape.ring)) (grind (arith, nat_tests)) in
              let place : (taken + 1) + n ≡ taken + (n + 1) = omega arith in
              inr (same, full, less, ap (λ z. read_report l (s.words (name.Ring pipe (z % l.shape.ring)))) (sym place) ∙ (ap (read_report l) (sym value) ∙ here read same))
            where
              stays : (z : Bool) → z ≡ false → (if z then 0 else s.words (name.Ring pipe (((taken + 1) + n) % l.shape.ring))) ≡ s.words (name.Ring pipe (((taken + 1) + n) % l.shape.ring))
              stays true f = cc
              stays false f = refl
          by (inr end) =
              let round : (taken + 1) + n ≡ taken + l.shape.ring = omega arith in
              let same_cell : taken % l.shape.ring ≡ ((taken + 1) + n) % l.shape.ring =
              sym (ap (λ z. z % l.shape.ring) round ∙ add-mod_right taken l.shape.ring) in
              let none : after pipe (((taken + 1) + n) % l.shape.ring) ≡ 0 =
              own_ring (((taken + 1) + n) % l.shape.ring) ∙ gone ((taken % l.shape.ring) == (((taken + 1) + n) % l.shape.ring)) (grind (arith, nat_tests)) in
              absurd (zero_silent (after pipe (((taken + 1) + n) % l.shape.ring)) r none (here read same))
            where
              gone : (z : Bool) → z ≡ true → (if z then 0 else s.words (name.Ring pipe (((taken + 1) + n) % l.shape.ring))) ≡ 0
              gone true f = refl
              gone false f = cc
      at (inr apart) =
          inl (apart, ap (read_report l) (sym (ap (λ z. after p ((z.words + n) % l.shape.ring)) (count_else s.controller.rings pipe p count apart) ∙ other_ring p _ apart)) ∙ read)

  pub moved : (ended : Option KeyView) (p n : ℕ) → n < l.shape.ring → (r : RingWord)
      → read_report l (from_place l (taking s.config s.controller ended pipe (s.words cell)).rings after p n) ≡ Some r → Moved p n r
  moved ended p n h r read = at (cases_eq (s.words cell) 0)
    where
      at : (s.words cell ≡ 0) ⊎ (s.words cell ≢ 0) → Moved p n r
      at (inl none) =
          moved_none none p n h r (subst (λ t. read_report l (from_place l t.rings after p n) ≡ Some r) (take_none s.config s.controller ended pipe (s.words cell) none) read)
      at (inr full) =
          moved_some full _ refl p n h r (subst (λ t. read_report l (from_place l t.rings after p n) ≡ Some r) (take_some s.config s.controller ended pipe (s.words cell) full) read)
