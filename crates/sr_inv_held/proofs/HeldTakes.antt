-- A word that is taken from a ring.
use Rattle.std.proofs.Common.{◌≡◌, ℕ, zero, suc, ◌+◌, ◌-◌, ◌%◌, ◌<◌, ◌≤◌, ◌≢◌, List, [], ◌∷◌, ◌++◌, length, drop, slice_get, Some, sym, refl, ap, ◌∙◌, arith, length-append}
use Rattle.sr_base.specs.Key.{KeyView}
use Rattle.sr_base.specs.Layout.{LayoutView}
use Rattle.sr_inv_facts.proofs.Windows.{cells_apart}
use Rattle.sr_inv_facts.specs.InHeld.{PipeHeld, Waiting, after_held, held_of, keys_of, punt_in, punts_from, reports_of}
use Rattle.sr_inv_held.proofs.Punting.{punts_same}
use Rattle.sr_inv_held.proofs.StageHelds.{keys_long}
use Rattle.sr_machine.specs.Reads.{read_report}
use Rattle.sr_machine.specs.declared.pipe_view.PipeView.{PipeView}
use Rattle.sr_machine.specs.declared.ring_count.RingCount.{RingCount}

drop_next : {X : Type 0} (n : ℕ) (xs : List X) (y : X) (ys : List X) → drop n xs ≡ y ∷ ys → (drop (n + 1) xs ≡ ys) × (n + 1 ≤ length xs)
drop_next zero [] y ys e = cc
drop_next zero (x ∷ xs) y ys e = let same : xs ≡ ys = cc in (same, omega arith)
drop_next (suc n) [] y ys e = cc
drop_next (suc n) (x ∷ xs) y ys e =
    let more = drop_next n xs y ys e in
    let up : suc n + 1 ≡ suc (n + 1) = omega arith in
    (ap (λ k. drop k (x ∷ xs)) up ∙ more.0, omega (arith, more.1))

module _ (l : LayoutView) (ring after : ℕ → ℕ) (taken : RingCount) (v : PipeView) (h : PipeHeld l ring taken v)
    (some : taken.words < v.pushed) (most : v.pushed ≤ taken.words + l.shape.ring)
    (other : (c : ℕ) → (taken.words % l.shape.ring) ≢ c → after c ≡ ring c) where
  rest_count : ℕ
  rest_count = v.pushed - (taken.words + 1)

  first_word : List KeyView
  first_word = punt_in (read_report l (ring (taken.words % l.shape.ring)))

  all_words : punts_from l ring taken.words (v.pushed - taken.words) ≡ first_word ++ punts_from l ring (taken.words + 1) rest_count
  unfolding first_word rest_count
  all_words = let one : v.pushed - taken.words ≡ suc rest_count = omega (arith, some) in ap (punts_from l ring taken.words) one

  moved : (j : ℕ) → j ≤ rest_count → punts_from l after (taken.words + 1) j ≡ punts_from l ring (taken.words + 1) j
  unfolding rest_count
  moved j b =
      punts_same l ring after (taken.words + 1) j (λ n low high.
      other (n % l.shape.ring) (cells_apart l.shape.ring taken.words n (omega arith) (omega (arith, some, most))))

  -- the reports that are left
  left_reports : (punts : ℕ) → punts ≡ taken.punts + length first_word → (j : ℕ) → j ≤ rest_count
      → rest_count - j ≤ after_held (punts + length (punts_from l after (taken.words + 1) j)) (reports_of v)
  unfolding first_word rest_count
  left_reports punts is j b =
      let old = h.reports (suc j) (omega (arith, some)) in
      let n : ℕ = taken.punts + length (punts_from l ring taken.words (suc j)) in
      let long : length (punts_from l ring taken.words (suc j)) ≡ length first_word + length (punts_from l ring (taken.words + 1) j) =
      omega (arith, length-append {A = KeyView}) in
      let same_words : length (punts_from l after (taken.words + 1) j) ≡ length (punts_from l ring (taken.words + 1) j) = ap length (moved j b) in
      let number : punts + length (punts_from l after (taken.words + 1) j) ≡ n = omega (arith, is, long, same_words) in
      let now : after_held (punts + length (punts_from l after (taken.words + 1) j)) (reports_of v) ≡ after_held n (reports_of v) =
      ap (λ k. after_held k (reports_of v)) number in
      omega (arith, now, old, some)

  -- it tells of nobody
  pub take_plain : punt_in (read_report l (ring (taken.words % l.shape.ring))) ≡ []
      → PipeHeld l after (record { words = taken.words + 1; punts = taken.punts }) v
  unfolding first_word rest_count
  take_plain e = record {
    count = h.count;
    told = h.told ∙ (all_words ∙ (ap (λ xs. xs ++ punts_from l ring (taken.words + 1) rest_count) e ∙ sym (moved rest_count (omega arith))));
    reports = λ j b. left_reports taken.punts (omega (arith, ap length e)) j b;
  }

  -- it tells of a held opener, which is the next one
  next_told : (key : KeyView) → punt_in (read_report l (ring (taken.words % l.shape.ring))) ≡ key ∷ []
      → drop taken.punts (keys_of (held_of v)) ≡ key ∷ punts_from l ring (taken.words + 1) rest_count
  unfolding first_word rest_count
  next_told key e = h.told ∙ (all_words ∙ ap (λ xs. xs ++ punts_from l ring (taken.words + 1) rest_count) e)

  pub told_one : (key : KeyView) → punt_in (read_report l (ring (taken.words % l.shape.ring))) ≡ key ∷ [] → taken.punts + 1 ≤ length (held_of v)
  told_one key e =
      omega (arith, (drop_next taken.punts (keys_of (held_of v)) key (punts_from l ring (taken.words + 1) rest_count) (next_told key e)).1, keys_long (held_of v))

  pub take_punt : (key : KeyView) → punt_in (read_report l (ring (taken.words % l.shape.ring))) ≡ key ∷ []
      → PipeHeld l after (record { words = taken.words + 1; punts = taken.punts + 1 }) v
  unfolding first_word rest_count
  take_punt key e = record {
    count = told_one key e;
    told =
        (drop_next taken.punts (keys_of (held_of v)) key (punts_from l ring (taken.words + 1) rest_count) (next_told key e)).0
        ∙ sym (moved rest_count (omega arith));
    reports = λ j b. left_reports (taken.punts + 1) (omega (arith, ap length e)) j b;
  }

  -- and of its key
  pub punt_is : (key : KeyView) → punt_in (read_report l (ring (taken.words % l.shape.ring))) ≡ key ∷ []
      → (w : Waiting) × (slice_get (held_of v) taken.punts ≡ Some w) × (w.key ≡ key)
  punt_is key e = key_at taken.punts (held_of v) key (punts_from l ring (taken.words + 1) rest_count) (next_told key e)
    where
      key_at : (n : ℕ) (xs : List Waiting) (key : KeyView) (rest : List KeyView) → drop n (keys_of xs) ≡ key ∷ rest
          → (w : Waiting) × (slice_get xs n ≡ Some w) × (w.key ≡ key)
      key_at zero [] key rest f = cc
      key_at zero (x ∷ xs) key rest f = (x, refl, cc)
      key_at (suc n) [] key rest f = cc
      key_at (suc n) (x ∷ xs) key rest f = key_at n xs key rest f
