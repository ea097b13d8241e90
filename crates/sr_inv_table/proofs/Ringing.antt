-- The cells of a ring by the numbers of its reports.
use Rattle.std.proofs.Common.{◌≡◌, ℕ, ◌+◌, ◌*◌, ◌/◌, ◌%◌, ◌<◌, ◌≤◌, ◌≢◌, ◌⊎◌, Some, sym, ap, ◌∙◌, inl, inr, arith}
use Rattle.std.proofs.lemmas.Bool.{cases_lt}
use Rattle.std.proofs.lemmas.Nat.{div-add-mod', mod-mul-add, mod_below}
use Rattle.sr_base.specs.Layout.{LayoutView}
use Rattle.sr_base.specs.declared.ring_word.RingWord.{RingWord}
use Rattle.sr_inv_facts.specs.InWords.{HoldsReports, IsReport}
use Rattle.sr_inv_facts.specs.Invariant.{Invariant}
use Rattle.sr_inv_facts.specs.Readings.{ring_words}
use Rattle.sr_inv_table.specs.Cells.{RingsHold, place_in}
use Rattle.sr_machine.proofs.Written.{report_read}
use Rattle.sr_machine.specs.Core.{Core}
use Rattle.sr_machine.specs.Reads.{read_report}

-- the number of a cell, of the next ones of a ring's length
numbered : (r taken cell : ℕ) → cell < r → (n : ℕ) × (taken ≤ n) × (n < taken + r) × (cell ≡ n % r)
numbered r taken cell h = at (cases_lt cell (taken % r))
  where
    whole : taken / r * r + taken % r ≡ taken
    whole = div-add-mod' taken r

    low : taken % r < r
    low = mod_below taken r (omega (arith, h))

    at : (cell < taken % r) ⊎ (taken % r ≤ cell) → (n : ℕ) × (taken ≤ n) × (n < taken + r) × (cell ≡ n % r)
    at (inl less) =
        ((taken / r + 1) * r + cell, omega (arith, whole, low, less), omega (arith, whole, low, less), sym (mod-mul-add (taken / r + 1) r cell h))
    at (inr more) =
        (taken / r * r + cell, omega (arith, whole, low, more), omega (arith, whole, low, h, more), sym (mod-mul-add (taken / r) r cell h))

reads : (l : LayoutView) (x : ℕ) → IsReport l x → (w : RingWord) × (read_report l x ≡ Some w)
reads l x r = (r.report, ap (read_report l) r.value ∙ report_read l r.report r.is_word r.vip)

-- a cell that is of no report's number is empty
empty_cell : (l : LayoutView) (ring : ℕ → ℕ) (taken pushed cell : ℕ) → HoldsReports l ring taken pushed → cell < l.shape.ring
    → ((n : ℕ) → taken ≤ n → n < pushed → cell ≢ (n % l.shape.ring)) → ring cell ≡ 0
empty_cell l ring taken pushed cell holds h apart = by (numbered l.shape.ring taken cell h)
  where
    by : ((n : ℕ) × (taken ≤ n) × (n < taken + l.shape.ring) × (cell ≡ n % l.shape.ring)) → ring cell ≡ 0
    by (n, low, high, same) = at (cases_lt n pushed)
      where
        at : (n < pushed) ⊎ (pushed ≤ n) → ring cell ≡ 0
        at (inl there) = absurd (apart n low there same)
        at (inr past) = ap ring same ∙ holds.empty n past high

pub rings : (s : Core) → Invariant s → RingsHold s
rings s i p v q =
    let holds = i.words.ring p v q in
    record {
      least = holds.least;
      most = holds.most;
      reports = λ n low high. reads s.config.layout (ring_words s.words p (n % s.config.layout.shape.ring)) (holds.there n low high);
      others = λ cell apart. cell_is cell apart (cases_lt cell s.config.layout.shape.ring);
    }
  where
    cell_is : (cell : ℕ) → ((n : ℕ) → place_in s p ≤ n → n < v.pushed → cell ≢ (n % s.config.layout.shape.ring))
        → (cell < s.config.layout.shape.ring) ⊎ (s.config.layout.shape.ring ≤ cell) → ring_words s.words p cell ≡ 0
    cell_is cell apart (inl h) =
        empty_cell s.config.layout (ring_words s.words p) (place_in s p) v.pushed cell (i.words.ring p v q) h apart
    cell_is cell apart (inr h) = i.matching.matching.beyond p cell (inr h)
