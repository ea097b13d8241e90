-- In a lawful list a connection that is opened after a switch uses that pool or a later one: pools are given, and switched to, in the
-- order of their numbers.
use Rattle.std.proofs.Common.{◌≡◌, ℕ, zero, suc, ◌<◌, ◌≤◌, ◌⊎◌, Bool, true, false, not, cond, ◌&&◌, List, [], ◌∷◌, length, get_or, take, reverse, Option, Some, None, refl, sym, ap, subst, ◌∙◌, inl, inr, arith}
use Rattle.std.specs.List.{slice_get, list_any}
use Rattle.std.specs.Prelude.{nat_eq, nat_le, nat_lt, is_some}
use Rattle.std.specs.Option.{option_or}
use Rattle.std.proofs.Math.Numerals.{add-one}
use Rattle.std.proofs.lemmas.Bool.{and_parts, and_from, or_cases, or_parts, cases_Bool, cases_lt, eqb-true, eq-eqb, leb-true, leb-false, lt-ltb, not-true, false≢true}
use Rattle.std.proofs.lemmas.Option.{none-some, same_Some, slice_get_within, get_or_from_slice_get}
use Rattle.sr_base.specs.Key.{KeyView}
use Rattle.sr_law.specs.declared.giving.Giving.{Giving}
use Rattle.sr_law.specs.declared.line.Line.{Line}
use Rattle.sr_law.specs.declared.line.Line.TheVariants.{Given, Switched, Recorded}
use Rattle.sr_law.specs.declared.opening.Opening.{Opening}
use Rattle.sr_law.specs.Given.{last_given, has_pool}
use Rattle.sr_law.specs.Groups.{was_given_past, names_next_pool, keeps_groups, after_gives, last_of_update, goes_on, is_opening_give}
use Rattle.sr_law.specs.Lawful.{NoLineBreaks}
use Rattle.sr_law.specs.Laws.{OpeningsFollowSwitches}
use Rattle.sr_law.specs.Newer.{last_switched, is_from, is_up_to, is_new_pool, opens_new, meets_newer}
use Rattle.sr_law.specs.Opening.{opening, is_open, opened_by}
use Rattle.sr_law.specs.Order.{meets_order, refuses_next}
use Rattle.sr_law.specs.Pools.{VipPools, pool_of}
use Rattle.sr_law.specs.Ranges.{in_range}
use Rattle.sr_law.specs.Retire.{EndingPacket}
use Rattle.sr_law.specs.Rising.{rises}
use Rattle.sr_law.specs.Setup.{SetupView}
use Rattle.sr_law.specs.Taken.{keeps_places}
use Rattle.sr_law.specs.Ticks.{key_of, start_of}
use Rattle.sr_law.proofs.Clauses.{meets}
use Rattle.sr_law.proofs.Kept.{met_at}
use Rattle.sr_law.proofs.Newest.{newest_more}

-- every line names the next pool, by the lines before it
abbrev pub all_next : List VipPools → List Line → Bool
all_next pools [] = true
all_next pools (line ∷ before) = names_next_pool pools before line && all_next pools before

-- a line stands in a list
abbrev pub Stands : Line → List Line → Type 0
Stands x [] = ⊥
Stands x (y ∷ ys) = (x ≡ y) ⊎ Stands x ys

-- a number that no earlier giving reaches is above the last one
given_past : (vip p : ℕ) (before : List Line) (g : Giving) → last_given before vip ≡ Some g → list_any (was_given_past vip p) before ≡ false → g.pool < p
given_past vip p [] g e none = absurd (none-some g e)
given_past vip p (Given out to version pool ∷ before) g e none =
    let parts = or_parts (nat_eq to vip && nat_le p pool) (list_any (was_given_past vip p) before) none in
    elim (cases_Bool (nat_eq to vip)) [
      | inl t ↦
          let made : Giving = record { version = version; pool = pool } in
          let same : made ≡ g = same_Some made g (rw t at e) in
          let below : nat_le p pool ≡ false = rw t at parts.0 in
          subst (λ x. x.pool < p) same (leb-false p pool below)
      | inr f ↦ given_past vip p before g (rw f at e) parts.1
    ]
given_past vip p (line ∷ before) g e none = given_past vip p before g e (or_parts (was_given_past vip p line) (list_any (was_given_past vip p) before) none).1

-- there is a giving of this pool
with_pool : (giving : Option Giving) (pool : ℕ) → has_pool giving pool ≡ true → (g : Giving) × (giving ≡ Some g) × (g.pool ≡ pool)
with_pool None pool e = absurd (false≢true e)
with_pool (Some g) pool e = (g, refl, eqb-true g.pool pool e)

-- after a line the last giving is of the same pool or a later one
later_giving : (pools : List VipPools) (before : List Line) (line : Line) (vip pool : ℕ) (g : Giving) → names_next_pool pools before line ≡ true → last_given before vip ≡ Some g → pool ≤ g.pool → (h : Giving) × (last_given (line ∷ before) vip ≡ Some h) × (pool ≤ h.pool)
later_giving pools before (Given out to version given) vip pool g next is le =
    elim (cases_Bool (nat_eq to vip)) [
      | inl t ↦
          let made : Giving = record { version = version; pool = given } in
          let new = not-true (list_any (was_given_past to given) before) (and_parts (is_some (pool_of pools to given)) (not (list_any (was_given_past to given) before)) next).1 in
          let past : list_any (was_given_past vip given) before ≡ false = subst (λ v. list_any (was_given_past v given) before ≡ false) (eqb-true to vip t) new in
          (made, rw t refl, omega (arith, given_past vip given before g is past, le))
      | inr f ↦ (g, rw f is, le)
    ]
later_giving pools before line vip pool g next is le = (g, is, le)

-- a pool that a virtual address was switched to is the last given, or an earlier one
switched_given : (pools : List VipPools) (before : List Line) (out vip pool : ℕ) → all_next pools before ≡ true → Stands (Switched out vip pool) before → (g : Giving) × (last_given before vip ≡ Some g) × (pool ≤ g.pool)
switched_given pools [] out vip pool all stands = absurd stands
switched_given pools (line ∷ before) out vip pool all (inl e) =
    let next : names_next_pool pools before line ≡ true = (and_parts (names_next_pool pools before line) (all_next pools before) all).0 in
    let has : has_pool (last_given before vip) pool ≡ true = subst (λ x. names_next_pool pools before x ≡ true) (sym e) next in
    let found = with_pool (last_given before vip) pool has in
    (found.0, subst (λ x. last_given (x ∷ before) vip ≡ Some found.0) e found.1, omega (arith, found.2))
switched_given pools (line ∷ before) out vip pool all (inr s) =
    let parts = and_parts (names_next_pool pools before line) (all_next pools before) all in
    let older = switched_given pools before out vip pool parts.1 s in
    later_giving pools before line vip pool older.0 parts.0 older.1 older.2

own_switch : (out vip pool tick : ℕ) (before : List Line) → nat_lt out tick ≡ true → last_switched (Switched out vip pool ∷ before) vip tick ≡ Some pool
own_switch out vip pool tick before e =
    let both : (nat_eq vip vip && nat_lt out tick) ≡ true = and_from (nat_eq vip vip) (nat_lt out tick) (eq-eqb vip vip refl) e in
    ap (λ b. option_or (cond b (Some pool) None) (last_switched before vip tick)) both

-- after a line the last switch is to the same pool or a later one
later_switch : (pools : List VipPools) (before : List Line) (line : Line) (vip pool tick q : ℕ) (g : Giving) → names_next_pool pools before line ≡ true → last_given before vip ≡ Some g → pool ≤ g.pool → last_switched before vip tick ≡ Some q → pool ≤ q → (r : ℕ) × (last_switched (line ∷ before) vip tick ≡ Some r) × (pool ≤ r)
later_switch pools before (Switched out to switched) vip pool tick q g next given le is from =
    elim (cases_Bool (nat_eq to vip && nat_lt out tick)) [
      | inl t ↦
          let parts = and_parts (nat_eq to vip) (nat_lt out tick) t in
          let has : has_pool (last_given before vip) switched ≡ true = subst (λ v. has_pool (last_given before v) switched ≡ true) (eqb-true to vip parts.0) next in
          let found = with_pool (last_given before vip) switched has in
          let same : g ≡ found.0 = same_Some g found.0 (sym given ∙ found.1) in
          let pool_of_g : g.pool ≡ switched = ap (λ x. x.pool) same ∙ found.2 in
          (switched, ap (λ b. option_or (cond b (Some switched) None) (last_switched before vip tick)) t, omega (arith, pool_of_g, le))
      | inr f ↦ (q, ap (λ b. option_or (cond b (Some switched) None) (last_switched before vip tick)) f ∙ is, from)
    ]
later_switch pools before line vip pool tick q g next given le is from = (q, is, from)

-- the last switch before a tick is to the pool of an earlier one, or a later one
last_switch_from : (pools : List VipPools) (before : List Line) (out vip pool tick : ℕ) → all_next pools before ≡ true → Stands (Switched out vip pool) before → nat_lt out tick ≡ true → (q : ℕ) × (last_switched before vip tick ≡ Some q) × (pool ≤ q)
last_switch_from pools [] out vip pool tick all stands early = absurd stands
last_switch_from pools (line ∷ before) out vip pool tick all (inl e) early =
    (pool, subst (λ x. last_switched (x ∷ before) vip tick ≡ Some pool) e (own_switch out vip pool tick before early), omega arith)
last_switch_from pools (line ∷ before) out vip pool tick all (inr s) early =
    let parts = and_parts (names_next_pool pools before line) (all_next pools before) all in
    let older = last_switch_from pools before out vip pool tick parts.1 s early in
    let given = switched_given pools before out vip pool parts.1 s in
    later_switch pools before line vip pool tick older.0 given.0 parts.0 given.1 given.2 older.1 older.2

-- a line in order names the next pool
next_of : (setup : SetupView) (before : List Line) (line : Line) → meets_order setup before line ≡ true → names_next_pool setup.pools before line ≡ true
unfolding meets_order keeps_groups
next_of setup before line e =
    let goes : Bool = cond (nat_lt (length before) (length setup.pools)) (is_opening_give (length before) line)
    (goes_on (last_of_update (after_gives (length setup.pools) before)) line) in
    let groups : Bool = goes && names_next_pool setup.pools before line in
    let a = and_parts (groups && rises before line && in_range setup line && keeps_places before line) (refuses_next before line) e in
    let b = and_parts (groups && rises before line && in_range setup line) (keeps_places before line) a.0 in
    let c = and_parts (groups && rises before line) (in_range setup line) b.0 in
    let d = and_parts groups (rises before line) c.0 in
    (and_parts goes (names_next_pool setup.pools before line) d.0).1

-- the pool of a new opening is from the last switch on
new_pool : (before : List Line) (line : Line) (key : KeyView) (o : Opening) (q : ℕ) → meets_newer before line ≡ true → key_of line ≡ Some key → opening before key ≡ None → opened_by line key ≡ Some o → last_switched before key.vip (start_of line) ≡ Some q → q ≤ o.pool
unfolding meets_newer
new_pool before line key o q met is closed opens switched =
    let found : opens_new before line (Some key) ≡ true = subst (λ k. opens_new before line k ≡ true) is met in
    elim (or_cases (is_open before key) (is_new_pool before key.vip (start_of line) (opened_by line key)) found) [
      | inl open_now ↦ absurd (closed_open before key closed open_now)
      | inr new ↦
          let one : is_new_pool before key.vip (start_of line) (Some o) ≡ true = subst (λ x. is_new_pool before key.vip (start_of line) x ≡ true) opens new in
          let from = (and_parts (is_from (last_switched before key.vip (start_of line)) o.pool) (is_up_to (last_given before key.vip) o.pool) one).0 in
          leb-true q o.pool (subst (λ x. is_from x o.pool ≡ true) switched from)
    ]
  where
    closed_open : (b : List Line) (k : KeyView) → opening b k ≡ None → is_open b k ≡ true → ⊥
    closed_open b k none some = false≢true (subst (λ x. is_some x ≡ true) none some)

module _ (setup : SetupView) (endings : List EndingPacket) (lines : List Line) (met : NoLineBreaks setup endings lines) where
  all_named_next : (n : ℕ) → n ≤ length lines → all_next setup.pools (reverse (take n lines)) ≡ true
  all_named_next zero h = refl
  all_named_next (suc n) h =
      let d : Line = Recorded 0 0 in
      let before = reverse (take n lines) in
      ap (λ k. all_next setup.pools (reverse (take k lines))) (sym (add-one n))
      ∙ ap (all_next setup.pools) (newest_more lines n d (omega arith))
      ∙ and_from (names_next_pool setup.pools before (get_or lines n d)) (all_next setup.pools before)
      (next_of setup before (get_or lines n d) (met_at setup endings lines met n d (omega arith)).order)
      (all_named_next n (omega arith))

  stands_before : (n : ℕ) → n ≤ length lines → (j : ℕ) (x : Line) → j < n → slice_get lines j ≡ Some x → Stands x (reverse (take n lines))
  stands_before zero h j x below is = absurd (omega (arith, below))
  stands_before (suc n) h j x below is =
      let list : reverse (take (suc n) lines) ≡ get_or lines n x ∷ reverse (take n lines) =
      ap (λ k. reverse (take k lines)) (sym (add-one n)) ∙ newest_more lines n x (omega arith) in
      subst (λ l. Stands x l) (sym list)
      (elim (cases_lt j n) as (λ _. Stands x (get_or lines n x ∷ reverse (take n lines))) [
        | inl earlier ↦ inr (stands_before n (omega arith) j x earlier is)
        | inr late ↦
            let same : j ≡ n = omega arith in
            inl (sym (get_or_from_slice_get lines n x x (subst (λ k. slice_get lines k ≡ Some x) same is)))
      ])

  -- a connection that is opened after a switch uses that pool or a later one
  pub newer : OpeningsFollowSwitches lines
  newer i j line key o out pool at is closed opens earlier switched early =
      let before = reverse (take i lines) in
      let within : i < length lines = slice_get_within lines i line at in
      let m = meets setup endings before line (met i line at) in
      let last = last_switch_from setup.pools before out key.vip pool (start_of line) (all_named_next i (omega (arith, within)))
      (stands_before i (omega (arith, within)) j (Switched out key.vip pool) earlier switched) (lt-ltb out (start_of line) early) in
      omega (arith, last.2, new_pool before line key o last.0 m.newer is closed opens last.1)
