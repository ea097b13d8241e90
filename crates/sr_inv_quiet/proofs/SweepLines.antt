-- Sweeps and placings by the lines: sweeps are numbered as they come, each after the one before it, and a place that is live was told to be.
use Rattle.sr_base.proofs.Sameness.{same_key-self, same_key-true, same_place-true}
use Rattle.sr_base.specs.Key.{same_key}
use Rattle.sr_base.specs.Place.{same_place}
use Rattle.sr_base.specs.declared.place.Place.{Place}
use Rattle.sr_inv_facts.specs.InCauses.{AllMeet}
use Rattle.sr_law.specs.Groups.{keeps_groups}
use Rattle.sr_law.specs.Lawful.{MeetsClauses}
use Rattle.sr_law.specs.Order.{meets_order, refuses_next}
use Rattle.sr_law.specs.Ranges.{in_range}
use Rattle.sr_law.specs.Retire.{EndingPacket, is_next_sweep, last_placed, last_sweep, meets_retire, numbered_sweep, placed_by}
use Rattle.sr_law.specs.Rising.{after_last, has_new_ticks, has_two_ticks, is_in_time, one_by_one, rises, was_controlling}
use Rattle.sr_law.specs.Setup.{SetupView}
use Rattle.sr_law.specs.Taken.{keeps_places, may_place, now_placed, taken}
use Rattle.sr_law.specs.Ticks.{out_of, start_of}
use Rattle.sr_law.specs.declared.line.Line.{Line}
use Rattle.sr_law.specs.declared.sweep.Sweep.{Sweep}
use Rattle.sr_law.specs.declared.taking.Taking.{Taking}
use Rattle.std.proofs.Common.{Bool, List, None, Option, Some, [], ap, arith, false, if◌then◌else◌, is_some, nat_le, nat_lt, not, option_map, refl, subst, sym, true, true≢false, ℕ, ◌&&◌, ◌+◌, ◌<◌, ◌==◌, ◌||◌, ◌∙◌, ◌∷◌, ◌≡◌, ◌≤◌}
use Rattle.std.proofs.lemmas.Bool.{and_parts}
use Rattle.std.proofs.lemmas.Bool.Decides.{nat_tests}
use Rattle.std.proofs.lemmas.Option.{same_Some}
use Rattle.std.specs.List.{list_any}
use Rattle.std.specs.Option.{option_or}
use Rattle.sr_law.specs.declared.line.Line.TheVariants as line

-- ---- what a line meets

module _ (setup : SetupView) (endings : List EndingPacket) (before : List Line) (l : Line) (m : MeetsClauses setup endings before l) where
  pub order_parts : (rises before l ≡ true) × (keeps_places before l ≡ true)
  unfolding meets_order
  order_parts =
      let groups = keeps_groups setup before l in
      let rising = rises before l in
      let ranged = in_range setup l in
      let placed = keeps_places before l in
      let a = and_parts (groups && rising && ranged && placed) (refuses_next before l) m.order in
      let b = and_parts (groups && rising && ranged) placed a.0 in
      let c = and_parts (groups && rising) ranged b.0 in
      ((and_parts groups rising c.0).1, b.1)

  rise_parts : (is_in_time l ≡ true) × (one_by_one before l ≡ true)
  unfolding rises
  rise_parts =
      let a = and_parts (after_last before l && is_in_time l && has_new_ticks before l) (one_by_one before l) order_parts.0 in
      let b = and_parts (after_last before l && is_in_time l) (has_new_ticks before l) a.0 in
      ((and_parts (after_last before l) (is_in_time l) b.0).1, a.1)

  -- a line with two ticks started before it was out
  pub two_ticks : has_two_ticks l ≡ true → start_of l < out_of l
  two_ticks q = at (nat_le 1 (start_of l)) (has_two_ticks l) q rise_parts.0
    where
      at : (a b : Bool) → b ≡ true
          → (a && (if b then nat_lt (start_of l) (out_of l) else nat_le (start_of l) (out_of l))) ≡ true → start_of l < out_of l
      at true true e h = grind (arith, nat_tests)
      at false true e h = cc
      at a false e h = cc

-- ---- sweeps

abbrev pub last_number : Option Sweep → ℕ
last_number None = 0
last_number (Some w) = w.number

module _ (setup : SetupView) (endings : List EndingPacket) where
  -- the next sweep has the next number
  swept_next : (before : List Line) (number from to ms : ℕ) → MeetsClauses setup endings before (line.Swept number from to ms)
      → number ≡ last_number (last_sweep before) + 1
  unfolding meets_retire
  swept_next before number from to ms m = at (last_sweep before) m.retire
    where
      at : (o : Option Sweep) → is_next_sweep setup.shape.idle_ms number ms o ≡ true → number ≡ last_number o + 1
      at None e = let h = (and_parts (number == 1) (nat_le setup.shape.idle_ms ms) e).0 in grind (arith, nat_tests)
      at (Some w) e = let h = (and_parts (number == (w.number + 1)) (nat_le (w.at_ms + setup.shape.idle_ms) ms) e).0 in grind (arith, nat_tests)

  -- no sweep has a number above that of the last
  pub numbered_most : (lines : List Line) → AllMeet setup endings lines → (n : ℕ) (w : Sweep) → numbered_sweep lines n ≡ Some w
      → n ≤ last_number (last_sweep lines)
  numbered_most [] a n w e = cc
  numbered_most (line.Swept number from to ms ∷ before) a n w e = at (number == n) refl (numbered_most before a.1 n w) e
    where
      at : (b : Bool) → (number == n) ≡ b → (numbered_sweep before n ≡ Some w → n ≤ last_number (last_sweep before))
          → option_or (if b then Some (record { number = number; from = from; to = to; at_ms = ms }) else None) (numbered_sweep before n) ≡ Some w → n ≤ number
      at true q more h = grind (arith, nat_tests)
      at false q more h = omega (arith, more h, swept_next before number from to ms a.0)
  numbered_most (l ∷ before) a n w e = numbered_most before a.1 n w e

  -- a sweep that is found was out before a sweep that began behind it
  found_before : (lines : List Line) (from n : ℕ) (w : Sweep) → list_any (was_controlling from) lines ≡ false → numbered_sweep lines n ≡ Some w
      → w.to < from
  found_before [] from n w a e = cc
  found_before (line.Swept number start to ms ∷ before) from n w a e = at (number == n) (nat_le from to) refl (found_before before from n w) a e
    where
      at : (b d : Bool) → nat_le from to ≡ d
          → (list_any (was_controlling from) before ≡ false → numbered_sweep before n ≡ Some w → w.to < from) → (d || list_any (was_controlling from) before) ≡ false
          → option_or (if b then Some (record { number = number; from = start; to = to; at_ms = ms }) else None) (numbered_sweep before n) ≡ Some w → w.to < from
      at true true q more g h = cc
      at false true q more g h = cc
      at true false q more g h =
          let is : record { number = number; from = start; to = to; at_ms = ms } ≡ w = same_Some (record { number = number; from = start; to = to; at_ms = ms }) w h in
          let same : to ≡ w.to = ap (λ z. z.to) is in
          let apart : to < from = grind (arith, nat_tests) in
          omega arith
      at false false q more g h = more g h
  found_before (l ∷ before) from n w a e = found_before before from n w (rest (was_controlling from l) a) e
    where
      rest : (b : Bool) → (b || list_any (was_controlling from) before) ≡ false → list_any (was_controlling from) before ≡ false
      rest true g = cc
      rest false g = g

  -- sweeps come one after another
  pub sweeps_apart : (lines : List Line) → AllMeet setup endings lines → (a b : ℕ) (u w : Sweep) → numbered_sweep lines a ≡ Some u
      → numbered_sweep lines b ≡ Some w → a < b → u.to < w.from
  sweeps_apart [] m a b u w e f h = cc
  sweeps_apart (line.Swept number from to ms ∷ before) m a b u w e f h = at (number == a) (number == b) refl refl (λ e f. sweeps_apart before m.1 a b u w e f h) e f
    where
      none : list_any (was_controlling from) before ≡ false
      none = by (list_any (was_controlling from) before) (rise_parts setup endings before (line.Swept number from to ms) m.0).1
        where
          by : (b : Bool) → not b ≡ true → b ≡ false
          by true g = cc
          by false g = refl

      at : (x y : Bool) → (number == a) ≡ x → (number == b) ≡ y
          → (numbered_sweep before a ≡ Some u → numbered_sweep before b ≡ Some w → u.to < w.from)
          → option_or (if x then Some (record { number = number; from = from; to = to; at_ms = ms }) else None) (numbered_sweep before a) ≡ Some u
          → option_or (if y then Some (record { number = number; from = from; to = to; at_ms = ms }) else None) (numbered_sweep before b) ≡ Some w
          → u.to < w.from
      at true true p q more e f = absurd (grind (arith, nat_tests))
      at true false p q more e f =
          let same : number ≡ a = grind (arith, nat_tests) in
          absurd (omega (arith, numbered_most before m.1 b w f, swept_next before number from to ms m.0))
      at false true p q more e f =
          let is : record { number = number; from = from; to = to; at_ms = ms } ≡ w = same_Some (record { number = number; from = from; to = to; at_ms = ms }) w f in
          subst (λ z. u.to < z.from) is (found_before before from a u none e)
      at false false p q more e f = more e f
  sweeps_apart (l ∷ before) m a b u w e f h = sweeps_apart before m.1 a b u w e f h

  -- and each ends after it began
  pub sweep_takes : (lines : List Line) → AllMeet setup endings lines → (n : ℕ) (w : Sweep) → numbered_sweep lines n ≡ Some w → w.from < w.to
  sweep_takes [] m n w e = cc
  sweep_takes (line.Swept number from to ms ∷ before) m n w e = at (number == n) (sweep_takes before m.1 n w) e
    where
      at : (b : Bool) → (numbered_sweep before n ≡ Some w → w.from < w.to)
          → option_or (if b then Some (record { number = number; from = from; to = to; at_ms = ms }) else None) (numbered_sweep before n) ≡ Some w → w.from < w.to
      at true more h =
          let is : record { number = number; from = from; to = to; at_ms = ms } ≡ w = same_Some (record { number = number; from = from; to = to; at_ms = ms }) w h in
          subst (λ z. z.from < z.to) is (two_ticks setup endings before (line.Swept number from to ms) m.0 refl)
      at false more h = more h
  sweep_takes (l ∷ before) m n w e = sweep_takes before m.1 n w e

  -- ---- a place that is live

  -- the key that has a place by a Placed line was told to stand there
  pub placed_told : (lines : List Line) → AllMeet setup endings lines → (place : Place) (t : Taking) → taken lines place ≡ Some t → t.placed ≡ true
      → is_some (last_placed lines t.key) ≡ true
  unfolding keeps_places
  placed_told [] m place t e p = cc
  placed_told (line.Reserved out key at ∷ before) m place t e p = by (same_place at place) (λ h. placed_told before m.1 place t h p) e
    where
      by : (b : Bool) → (taken before place ≡ Some t → is_some (last_placed before t.key) ≡ true)
          → (if b then Some (record { key = key; placed = false }) else taken before place) ≡ Some t
          → is_some (last_placed before t.key) ≡ true
      by true further h =
          let is : record { key = key; placed = false } ≡ t = same_Some (record { key = key; placed = false }) t h in
          absurd (true≢false (sym p ∙ sym (ap (λ z. z.placed) is)))
      by false further h = further h
  placed_told (line.Placed out key at ∷ before) m place t e p = by (same_place at place) refl (λ h. placed_told before m.1 place t h p) e
    where
      more : (o : Option ℕ) → is_some (last_placed before t.key) ≡ true → is_some (option_or o (last_placed before t.key)) ≡ true
      more None h = h
      more (Some n) h = refl

      here : (b : Bool) → b ≡ true → is_some (option_or (if b then Some out else None) (last_placed before t.key)) ≡ true
      here true h = refl
      here false h = cc

      own : (o : Option Taking) → option_map now_placed o ≡ Some t → may_place key o ≡ true → same_key key t.key ≡ true
      own None h g = cc
      own (Some r) h g =
          let is : now_placed r ≡ t = same_Some (now_placed r) t h in
          let same : r.key ≡ key = same_key-true r.key key (and_parts (same_key r.key key) (not r.placed) g).0 in
          ap (same_key key) (sym (ap (λ z. z.key) is) ∙ same) ∙ same_key-self key

      by : (b : Bool) → same_place at place ≡ b → (taken before place ≡ Some t → is_some (last_placed before t.key) ≡ true)
          → (if b then option_map now_placed (taken before place) else taken before place) ≡ Some t
          → is_some (option_or (placed_by (line.Placed out key at) t.key) (last_placed before t.key)) ≡ true
      by true q further h =
          let may : may_place key (taken before at) ≡ true = (order_parts setup endings before (line.Placed out key at) m.0).1 in
          here (same_key key t.key) (own (taken before place) h (ap (λ z. may_place key (taken before z)) (sym (same_place-true at place q)) ∙ may))
      by false q further h = more (placed_by (line.Placed out key at) t.key) (further h)
  placed_told (line.Cleared out key at ∷ before) m place t e p = by (same_place at place) (λ h. placed_told before m.1 place t h p) e
    where
      by : (b : Bool) → (taken before place ≡ Some t → is_some (last_placed before t.key) ≡ true) → (if b then None else taken before place) ≡ Some t
          → is_some (last_placed before t.key) ≡ true
      by true further h = cc
      by false further h = further h
  placed_told (l ∷ before) m place t e p = placed_told before m.1 place t e p
