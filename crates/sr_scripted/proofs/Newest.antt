-- A stable sort by falling ticks is what the definition puts in order line by line.
use Rattle.std.proofs.Common.{◌≡◌, ℕ, suc, ◌+◌, ◌<◌, ◌≤◌, ◌==◌, ◌&&◌, Bool, true, false, not, cond, List, [], ◌∷◌, get_or, refl, sym, ap, ◌∙◌, subst, inl, inr, nat_cmp, nat_le, ltb, arith}
use Rattle.std.specs.Cmp.{nat_cmp_is}
use Rattle.std.specs.declared.cmp.Ordering.TheVariants.{Less, Equal, Greater}
use Rattle.std.specs.List.{filter}
use Rattle.std.specs.List.Sorted.{IsSortedBy, IsStableBy, ties}
use Rattle.std.specs.Ordering.{is_lt}
use Rattle.sr_law.specs.Ticks.{out_of}
use Rattle.sr_law.specs.declared.line.Line.{Line}
use Rattle.sr_machine.specs.Core.{newest_first, put_line}
use Rattle.std.proofs.lemmas.Bool.{eq-eqb, eqb-true, ne_eqb, cases_lt, cases_eq, leb-true, leb-false, le-ltb, lt-ltb, ltb-false}

-- no tick is above this one, or above the one before it
abbrev Falls : ℕ → List Line → Type 0
Falls high [] = Unit {0}
Falls high (l ∷ rest) = (out_of l ≤ high) × Falls (out_of l) rest

abbrev pub Falling : List Line → Type 0
Falling [] = Unit {0}
Falling (l ∷ rest) = Falls (out_of l) rest

-- whether a line has this tick
abbrev pub is_at : ℕ → Line → Bool
is_at tick l = out_of l == tick

-- ---- what falls is fixed by which lines each tick has, in their order

none_above : (tick high : ℕ) (ls : List Line) → high < tick → Falls high ls → filter (is_at tick) ls ≡ []
none_above tick high [] above falls = refl
none_above tick high (l ∷ rest) above falls =
    let differs : (out_of l == tick) ≡ false = ne_eqb (out_of l) tick (λ e. absurd (omega (arith, e, falls.0, above))) in
    ap (λ b. cond b (l ∷ filter (is_at tick) rest) (filter (is_at tick) rest)) differs
    ∙ none_above tick (out_of l) rest (omega (arith, falls.0, above)) falls.1

at_head : (l : Line) (rest : List Line) → filter (is_at (out_of l)) (l ∷ rest) ≡ l ∷ filter (is_at (out_of l)) rest
at_head l rest =
    ap (λ b. cond b (l ∷ filter (is_at (out_of l)) rest) (filter (is_at (out_of l)) rest)) (eq-eqb (out_of l) (out_of l) refl)

is_some : {X : Type 0} (x : X) (xs : List X) → [] ≡ x ∷ xs → ⊥
is_some x xs e = cc e

heads : (a b : Line) (xs ys : List Line) → a ∷ xs ≡ b ∷ ys → a ≡ b
heads a b xs ys e = ap (λ ls. elim ls [ [] ↦ a | l ∷ rest ↦ l ]) e

tails : (a b : Line) (xs ys : List Line) → a ∷ xs ≡ b ∷ ys → xs ≡ ys
tails a b xs ys e = ap (λ ls. elim ls [ [] ↦ [] | l ∷ rest ↦ rest ]) e

abbrev Alike : List Line → List Line → Type 0
Alike xs ys = (l : Line) → filter (is_at (out_of l)) xs ≡ filter (is_at (out_of l)) ys

alike_after : (l : Line) (xs ys : List Line) → Alike (l ∷ xs) (l ∷ ys) → Alike xs ys
alike_after l xs ys alike other = by (out_of l == out_of other) (alike other)
  where
    tick : ℕ
    tick = out_of other

    by : (b : Bool) → cond b (l ∷ filter (is_at tick) xs) (filter (is_at tick) xs) ≡ cond b (l ∷ filter (is_at tick) ys) (filter (is_at tick) ys)
        → filter (is_at tick) xs ≡ filter (is_at tick) ys
    by true e = tails l l (filter (is_at tick) xs) (filter (is_at tick) ys) e
    by false e = e

-- the first of one isn't above the first of the other
not_above : (a b : Line) (xs ys : List Line) → Falling (b ∷ ys) → Alike (a ∷ xs) (b ∷ ys) → out_of b < out_of a → ⊥
not_above a b xs ys falling alike above =
    let none : filter (is_at (out_of a)) (b ∷ ys) ≡ [] = none_above (out_of a) (out_of b) (b ∷ ys) above (omega arith, falling) in
    is_some a (filter (is_at (out_of a)) xs) (sym none ∙ sym (alike a) ∙ at_head a xs)

falls_on : (high : ℕ) (ls : List Line) → Falls high ls → Falling ls
falls_on high [] falls = tt
falls_on high (l ∷ rest) falls = falls.1

pub alike_is_same : (xs ys : List Line) → Falling xs → Falling ys → Alike xs ys → xs ≡ ys
alike_is_same [] [] fa fb alike = refl
alike_is_same [] (b ∷ ys) fa fb alike = absurd (is_some b (filter (is_at (out_of b)) ys) (alike b ∙ at_head b ys))
alike_is_same (a ∷ xs) [] fa fb alike = absurd (is_some a (filter (is_at (out_of a)) xs) (sym (alike a) ∙ at_head a xs))
alike_is_same (a ∷ xs) (b ∷ ys) fa fb alike =
    let least : out_of a ≤ out_of b = elim (cases_lt (out_of b) (out_of a)) [
      | inl h ↦ absurd (not_above a b xs ys fb alike h)
      | inr h ↦ omega (arith, h)
    ] in
    let most : out_of b ≤ out_of a = elim (cases_lt (out_of a) (out_of b)) [
      | inl h ↦ absurd (not_above b a ys xs fa (λ l. sym (alike l)) h)
      | inr h ↦ omega (arith, h)
    ] in
    let same : out_of b ≡ out_of a = omega (arith, least, most) in
    let there : filter (is_at (out_of a)) (b ∷ ys) ≡ b ∷ filter (is_at (out_of a)) ys =
    subst (λ tick. filter (is_at tick) (b ∷ ys) ≡ b ∷ filter (is_at tick) ys) same (at_head b ys) in
    let first : a ≡ b = heads a b _ _ (sym (at_head a xs) ∙ alike a ∙ there) in
    let rest : Alike xs ys = alike_after a xs ys (subst (λ l. Alike (a ∷ xs) (l ∷ ys)) (sym first) alike) in
    ap (λ l. l ∷ xs) first ∙ ap (λ ls. b ∷ ls) (alike_is_same xs ys (falls_on (out_of a) xs fa) (falls_on (out_of b) ys fb) rest)

-- ---- the definition puts them so

put_falls : (high : ℕ) (l : Line) (ls : List Line) → out_of l ≤ high → Falls high ls → Falls high (put_line l ls)
put_falls high l [] le falls = (le, tt)
put_falls high l (other ∷ rest) le falls =
    by (nat_le (out_of other) (out_of l)) refl (λ under. put_falls (out_of other) l rest under falls.1)
  where
    by : (b : Bool) → nat_le (out_of other) (out_of l) ≡ b → (out_of l ≤ out_of other → Falls (out_of other) (put_line l rest))
        → Falls high (cond b (l ∷ other ∷ rest) (other ∷ put_line l rest))
    by true e more = (le, (leb-true (out_of other) (out_of l) e, falls.1))
    by false e more = let under = leb-false (out_of other) (out_of l) e in (falls.0, more (omega (arith, under)))

put_falling : (l : Line) (ls : List Line) → Falling ls → Falling (put_line l ls)
put_falling l [] falling = tt
put_falling l (other ∷ rest) falling = by (nat_le (out_of other) (out_of l)) refl
  where
    by : (b : Bool) → nat_le (out_of other) (out_of l) ≡ b → Falling (cond b (l ∷ other ∷ rest) (other ∷ put_line l rest))
    by true e = (leb-true (out_of other) (out_of l) e, falling)
    by false e = let below = leb-false (out_of other) (out_of l) e in put_falls (out_of other) l rest (omega (arith, below)) falling

pub newest_falls : (ls : List Line) → Falling (newest_first ls)
newest_falls [] = tt
newest_falls (l ∷ rest) = put_falling l (newest_first rest) (newest_falls rest)

-- lines of different ticks may change places
past : (tick : ℕ) (l other : Line) (rest : List Line) → out_of l < out_of other
    → filter (is_at tick) (l ∷ other ∷ rest) ≡ filter (is_at tick) (other ∷ l ∷ rest)
past tick l other rest below = by (out_of l == tick) (out_of other == tick) refl refl
  where
    kept : List Line
    kept = filter (is_at tick) rest

    by : (a b : Bool) → (out_of l == tick) ≡ a → (out_of other == tick) ≡ b → cond a (l ∷ cond b (other ∷ kept) kept) (cond b (other ∷ kept) kept)
        ≡ cond b (other ∷ cond a (l ∷ kept) kept) (cond a (l ∷ kept) kept)
    by true true e f = let at = eqb-true (out_of l) tick e in let here = eqb-true (out_of other) tick f in absurd (omega (arith, at, here, below))
    by true false e f = refl
    by false true e f = refl
    by false false e f = refl

put_keeps : (tick : ℕ) (l : Line) (ls : List Line) → filter (is_at tick) (put_line l ls) ≡ filter (is_at tick) (l ∷ ls)
put_keeps tick l [] = refl
put_keeps tick l (other ∷ rest) = by (nat_le (out_of other) (out_of l)) refl (put_keeps tick l rest)
  where
    by : (b : Bool) → nat_le (out_of other) (out_of l) ≡ b → filter (is_at tick) (put_line l rest) ≡ filter (is_at tick) (l ∷ rest)
        → filter (is_at tick) (cond b (l ∷ other ∷ rest) (other ∷ put_line l rest)) ≡ filter (is_at tick) (l ∷ other ∷ rest)
    by true e more = refl
    by false e more =
        let under = leb-false (out_of other) (out_of l) e in
        ap (λ kept. cond (out_of other == tick) (other ∷ kept) kept) more ∙ sym (past tick l other rest (omega (arith, under)))

pub newest_keeps : (tick : ℕ) (ls : List Line) → filter (is_at tick) (newest_first ls) ≡ filter (is_at tick) ls
newest_keeps tick [] = refl
newest_keeps tick (l ∷ rest) =
    put_keeps tick l (newest_first rest) ∙ ap (λ kept. cond (out_of l == tick) (l ∷ kept) kept) (newest_keeps tick rest)

-- ---- a stable sort puts them so too

-- whether the first line comes before the second where the newest stands first
abbrev pub is_newer : Line → Line → Bool
is_newer a b = is_lt (nat_cmp (out_of b) (out_of a))

below : (a b : ℕ) → (a ≡ b → ⊥) → b ≤ a → b < a
below a b d h = elim (cases_lt b a) [ inl less ↦ less | inr most ↦ absurd (d (omega (arith, h, most))) ]

nat_cmp-ltb : (a b : ℕ) → is_lt (nat_cmp a b) ≡ ltb a b
nat_cmp-ltb a b = elim (cases_lt a b) [
  | inl h ↦ sym (ap is_lt (nat_cmp_is a b Less h)) ∙ sym (lt-ltb a b h)
  | inr h ↦ elim (cases_eq a b) [
    | inl e ↦ sym (ap is_lt (nat_cmp_is a b Equal e)) ∙ sym (le-ltb a b (omega (arith, h)))
    | inr d ↦ sym (ap is_lt (nat_cmp_is a b Greater (below a b d h))) ∙ sym (le-ltb a b (omega (arith, h)))
  ]
]

both_not : (a b : ℕ) (x y : Bool) → ltb a b ≡ x → ltb b a ≡ y → (not (is_lt (nat_cmp a b)) && not (is_lt (nat_cmp b a))) ≡ (not x && not y)
both_not a b x y e f =
    ap (λ p. not p && not (is_lt (nat_cmp b a))) (nat_cmp-ltb a b ∙ e) ∙ ap (λ q. not x && not q) (nat_cmp-ltb b a ∙ f)

ties_by : (a b : ℕ) → (not (is_lt (nat_cmp a b)) && not (is_lt (nat_cmp b a))) ≡ (a == b)
ties_by a b = elim (cases_eq a b) [
  | inl e ↦ both_not a b false false (le-ltb a b (omega arith)) (le-ltb b a (omega arith)) ∙ sym (eq-eqb a b e)
  | inr d ↦ elim (cases_lt a b) [
    | inl h ↦ both_not a b true false (lt-ltb a b h) (le-ltb b a (omega (arith, h))) ∙ sym (ne_eqb a b d)
    | inr h ↦ both_not a b false true (le-ltb a b (omega (arith, h))) (lt-ltb b a (below a b d h)) ∙ sym (ne_eqb a b d)
  ]
]

filter_same : (p q : Line → Bool) (ls : List Line) → ((l : Line) → p l ≡ q l) → filter p ls ≡ filter q ls
filter_same p q [] same = refl
filter_same p q (l ∷ rest) same =
    ap (λ b. cond b (l ∷ filter p rest) (filter p rest)) (same l) ∙ ap (λ kept. cond (q l) (l ∷ kept) kept) (filter_same p q rest same)

falls_of : (l : Line) (rest : List Line) → IsSortedBy is_newer (l ∷ rest) → Falls (out_of l) rest
falls_of l [] order = tt
falls_of l (m ∷ rest) order =
    let first : out_of m ≤ out_of l =
    ltb-false (out_of l) (out_of m) (sym (nat_cmp-ltb (out_of l) (out_of m)) ∙ order 0 l (omega arith) (omega arith)) in (
      first,
      falls_of m rest (λ k d low under.
          let next : suc k + 1 ≡ suc (k + 1) = omega arith in
          subst (λ n. is_newer (get_or (l ∷ m ∷ rest) n d) (get_or (m ∷ rest) k d) ≡ false) next (order (suc k) d (omega arith) (omega arith))),
    )

falling_of : (ls : List Line) → IsSortedBy is_newer ls → Falling ls
falling_of [] order = tt
falling_of (l ∷ rest) order = falls_of l rest order

-- what a stable sort of these lines gives
pub sorted_is : (ls sorted : List Line) → IsSortedBy is_newer sorted → IsStableBy is_newer ls sorted → sorted ≡ newest_first ls
sorted_is ls sorted order stable = alike_is_same sorted (newest_first ls) (falling_of sorted order) (newest_falls ls) alike
  where
    alike : Alike sorted (newest_first ls)
    alike l =
        sym (filter_same (ties is_newer l) (is_at (out_of l)) sorted (λ other. ties_by (out_of other) (out_of l)))
        ∙ stable l
        ∙ filter_same (ties is_newer l) (is_at (out_of l)) ls (λ other. ties_by (out_of other) (out_of l))
        ∙ sym (newest_keeps (out_of l) ls)
