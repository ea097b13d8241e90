-- Where the controller would find each ring empty, no report waits in one.
use Rattle.std.proofs.Common.{◌≡◌, ℕ, ◌+◌, ◌%◌, ◌<◌, ◌≤◌, ◌≢◌, ◌⊎◌, ◌==◌, true, Some, slice_get, sym, ap, ◌∙◌, subst, inl, inr, arith}
use Rattle.std.proofs.lemmas.Bool.{cases_lt}
use Rattle.std.proofs.lemmas.Bool.Decides.{nat_tests}
use Rattle.sr_base.specs.Layout.{LayoutView}
use Rattle.sr_base.specs.declared.ring_word.RingKind.TheVariants.{Punt}
use Rattle.sr_base.specs.declared.ring_word.RingWord.{RingWord}
use Rattle.sr_inv_facts.proofs.Pipes.{pipe_there}
use Rattle.sr_inv_facts.proofs.Taking.{none_reported}
use Rattle.sr_inv_facts.specs.InWords.{HoldsReports, IsReport}
use Rattle.sr_inv_facts.specs.Readings.{from_place, ring_words}
use Rattle.sr_inv_final.specs.Laws.{EmptyIsAtRest}
use Rattle.sr_machine.proofs.Written.{report_read}
use Rattle.sr_machine.specs.Deciding.{ring_count}
use Rattle.sr_machine.specs.Reads.{read_report}
use Rattle.sr_machine.specs.declared.pipe_view.PipeView.{PipeView}

pub zero_reported : (l : LayoutView) (x : ℕ) (w : RingWord) → x ≡ 0 → read_report l x ≡ Some w → ⊥
zero_reported l x w z e = let t : (x == 0) ≡ true = grind (arith, nat_tests) in none_reported l x w t e

-- an empty cell holds no report
none_there : (l : LayoutView) (x : ℕ) → x ≡ 0 → IsReport l x → ⊥
none_there l x z r = zero_reported l x r.report z (ap (read_report l) r.value ∙ report_read l r.report r.is_word r.vip)

-- a ring whose next cell is empty has been taken whole
pub all_taken : (l : LayoutView) (ring : ℕ → ℕ) (taken pushed : ℕ) → HoldsReports l ring taken pushed → ring (taken % l.shape.ring) ≡ 0
    → pushed ≤ taken
all_taken l ring taken pushed h z = at (cases_lt taken pushed)
  where
    at : (taken < pushed) ⊎ (pushed ≤ taken) → pushed ≤ taken
    at (inl low) = absurd (none_there l (ring (taken % l.shape.ring)) z (h.there taken (omega arith) low))
    at (inr high) = high

pub rests : EmptyIsAtRest
rests s i idle empty answered = record { idle = idle; told = λ p n b c w read. none p n b c w read; answered = answered }
  where
    clear : (p n : ℕ) (v : PipeView) → p < s.config.layout.shape.pipes → slice_get s.pipes p ≡ Some v → n < s.config.layout.shape.ring
        → from_place s.config.layout s.controller.rings (ring_words s.words) p n ≡ 0
    clear p n v b q c =
        let taken = (ring_count s.controller.rings p).words in
        let ring = i.words.ring p v q in
        let whole = all_taken s.config.layout (ring_words s.words p) taken v.pushed ring (empty p b) in
        ring.empty (taken + n) (omega (arith, whole)) (omega (arith, c))

    none : (p n : ℕ) → p < s.config.layout.shape.pipes → n < s.config.layout.shape.ring → (w : RingWord)
        → read_report s.config.layout (from_place s.config.layout s.controller.rings (ring_words s.words) p n) ≡ Some w
        → w.kind ≢ Punt
    none p n b c w read =
        let there = pipe_there s.pipes p (subst (λ m. p < m) (sym i.shape.pipes.count) b) in
        absurd (zero_reported s.config.layout (from_place s.config.layout s.controller.rings (ring_words s.words) p n) w (clear p n there.0 b there.1 c) read)
