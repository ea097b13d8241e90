-- Rows of versions, one for each virtual address.
use Rattle.std.proofs.Common.{◌≡◌, ℕ, zero, suc, ◌+◌, ◌-◌, ◌<◌, ◌≤◌, Bool, true, false, cond, List, [], ◌∷◌, length, get_or, set, replicate, Option, Some, None, refl, sym, ap, subst, ◌∙◌, arith}
use Rattle.std.specs.List.{AllByRecursion, slice_get}
use Rattle.std.specs.Prelude.{IfSome}
use Rattle.std.proofs.lemmas.List.{get_or_past, length-replicate}
use Rattle.sr_base.specs.Layout.{IsLayout, LayoutView}
use Rattle.sr_machine.specs.Reads.{steady}
use Rattle.sr_shadow.specs.declared.entry.Entry.{Entry}
use Rattle.sr_update.specs.Numbers.{NumberRows, drained_from, first_drained, first_number, is_drained, is_free, least_free, or_after, row_of, state_of}
use Rattle.sr_update.specs.declared.number_state.NumberState.{NumberState}
use Rattle.sr_acts.specs.Versions.{FitsVip, HasRows}

-- ---- what holds of all

pub all_at : {X : Type 0} (P : X → Type 0) (xs : List X) (i : ℕ) (d : X) → i < length xs → AllByRecursion P xs → P (get_or xs i d)
all_at P [] i d h all = absurd (omega (arith, h))
all_at P (x ∷ xs) zero d h all = all.0
all_at P (x ∷ xs) (suc i) d h all = all_at P xs i d (omega (arith, h)) all.1

pub all_set : {X : Type 0} (P : X → Type 0) (xs : List X) (i : ℕ) (x : X) → P x → AllByRecursion P xs → AllByRecursion P (set xs i x)
all_set P [] i x h all = tt
all_set P (y ∷ xs) zero x h all = (h, all.1)
all_set P (y ∷ xs) (suc i) x h all = (all.0, all_set P xs i x h all.1)

pub all_replicate : {X : Type 0} (P : X → Type 0) (n : ℕ) (x : X) → P x → AllByRecursion P (replicate n x)
all_replicate P zero x h = tt
all_replicate P (suc n) x h = (h, all_replicate P n x h)

-- ---- the first number

-- its number is below the base and the row's length
pub first_within : (test : ℕ → NumberState → Bool) (base : ℕ) (row : List NumberState)
    → IfSome (first_number test base row) (λ n. n < base + length row)
first_within test base [] = tt
first_within test base (state ∷ row) = by (test base state) (first_within test (base + 1) row)
  where
    weaker : (o : Option ℕ) → IfSome o (λ n. n < base + 1 + length row) → IfSome o (λ n. n < base + suc (length row))
    weaker None h = tt
    weaker (Some n) h = omega (arith, h)

    by : (b : Bool) → IfSome (first_number test (base + 1) row) (λ n. n < base + 1 + length row)
        → IfSome (cond b (Some base) (first_number test (base + 1) row)) (λ n. n < base + suc (length row))
    by true rest = omega arith
    by false rest = weaker (first_number test (base + 1) row) rest

pub least_within : (l : LayoutView) (rows : NumberRows) (vip : ℕ) → HasRows l rows → vip < l.vips
    → IfSome (least_free vip rows) (λ n. n < l.shape.versions)
least_within l rows vip h within =
    let wide : length (row_of vip rows) ≡ l.shape.versions =
    all_at (λ row. length row ≡ l.shape.versions) rows vip [] (subst (λ k. vip < k) (sym h.vips) within) h.versions in
    let e : 0 + length (row_of vip rows) ≡ l.shape.versions = omega (arith, wide) in
    subst (λ k. IfSome (least_free vip rows) (λ n. n < k)) e (first_within (λ number. is_free) 0 (row_of vip rows))

-- the first drained one is of the rows
drained_in : (l : LayoutView) (vip : ℕ) (rows : NumberRows) (es : List Entry) → AllByRecursion (λ row. length row ≡ l.shape.versions) rows
    → IfSome (drained_from vip rows es) (λ p. (p.0 < vip + length rows) × (p.1 < l.shape.versions))
drained_in l vip [] es h = tt
drained_in l vip (row ∷ rows) es h =
    at (first_number (is_drained vip es) 0 row) (first_within (is_drained vip es) 0 row) (drained_in l (vip + 1) rows es h.1)
  where
    weaker : (o : Option (ℕ × ℕ)) → IfSome o (λ p. (p.0 < vip + 1 + length rows) × (p.1 < l.shape.versions))
        → IfSome o (λ p. (p.0 < vip + suc (length rows)) × (p.1 < l.shape.versions))
    weaker None a = tt
    weaker (Some p) a = (omega (arith, a.0), a.1)

    at : (o : Option ℕ) → IfSome o (λ n. n < 0 + length row) → IfSome (drained_from (vip + 1) rows es) (λ p. (p.0 < vip + 1 + length rows) × (p.1 < l.shape.versions))
        → IfSome (or_after vip o (drained_from (vip + 1) rows es)) (λ p. (p.0 < vip + suc (length rows)) × (p.1 < l.shape.versions))
    at None w more = weaker (drained_from (vip + 1) rows es) more
    at (Some n) w more = (omega arith, (let e : 0 + length row ≡ l.shape.versions = omega (arith, h.0) in subst (λ m. n < m) e w))

pub drained_vip : (l : LayoutView) (rows : NumberRows) (es : List Entry) → HasRows l rows → IfSome (first_drained rows es) (λ p. p.0 < l.vips)
drained_vip l rows es h = at (first_drained rows es) (drained_in l 0 rows es h.versions)
  where
    at : (o : Option (ℕ × ℕ)) → IfSome o (λ p. (p.0 < 0 + length rows) × (p.1 < l.shape.versions)) → IfSome o (λ p. p.0 < l.vips)
    at None a = tt
    at (Some p) a = let e : 0 + length rows ≡ l.vips = omega (arith, h.vips) in subst (λ m. p.0 < m) e a.0

pub drained_version : (l : LayoutView) (rows : NumberRows) (es : List Entry) → HasRows l rows
    → IfSome (first_drained rows es) (λ p. p.1 < l.shape.versions)
drained_version l rows es h = at (first_drained rows es) (drained_in l 0 rows es h.versions)
  where
    at : (o : Option (ℕ × ℕ)) → IfSome o (λ p. (p.0 < 0 + length rows) × (p.1 < l.shape.versions)) → IfSome o (λ p. p.1 < l.shape.versions)
    at None a = tt
    at (Some p) a = a.1

-- ---- a state that there isn't

slice_get_past : {X : Type 0} (xs : List X) (n : ℕ) → length xs ≤ n → slice_get xs n ≡ None
slice_get_past [] n h = refl
slice_get_past (x ∷ xs) zero h = absurd (omega (arith, h))
slice_get_past (x ∷ xs) (suc n) h = slice_get_past xs n (omega (arith, h))

pub no_vip_state : (l : LayoutView) (rows : NumberRows) (vip version : ℕ) → HasRows l rows → l.vips ≤ vip → state_of vip version rows ≡ None
no_vip_state l rows vip version h past =
    ap (λ row. slice_get row version) (get_or_past rows vip [] (subst (λ k. k ≤ vip) (sym h.vips) past))

pub no_version_state : (l : LayoutView) (rows : NumberRows) (vip version : ℕ) → HasRows l rows → vip < l.vips → l.shape.versions ≤ version
    → state_of vip version rows ≡ None
no_version_state l rows vip version h within past =
    slice_get_past (row_of vip rows) version
    (subst (λ k. k ≤ version)
    (sym (all_at (λ row. length row ≡ l.shape.versions) rows vip [] (subst (λ k. vip < k) (sym h.vips) within) h.versions)) past)

-- ---- the opening rows

pub rows_replicated : {X : Type 0} (l : LayoutView) (row : List X) → length row ≡ l.shape.versions → HasRows l (replicate l.vips row)
rows_replicated l row h = record {
  vips = length-replicate l.vips row;
  versions = all_replicate (λ r. length r ≡ l.shape.versions) l.vips row h;
}

pub row_length : {X : Type 0} (n : ℕ) (x y : X) → 1 ≤ n → length (x ∷ replicate (n - 1) y) ≡ n
row_length n x y some = ap suc (length-replicate (n - 1) y) ∙ omega (arith, some)

pub steady_fits : (l : LayoutView) → IsLayout l → FitsVip l (steady 0)
steady_fits l h = record { cur = omega (arith, h.versions.0); next = omega (arith, h.versions.0) }

pub filled : {X : Type 0} (xs : List X) (i n : ℕ) (x : X) → xs ≡ replicate i x → i ≤ n → n ≤ i → xs ≡ replicate n x
filled xs i n x e low high = let same : i ≡ n = omega arith in e ∙ ap (λ k. replicate k x) same
