-- Slots around an entry, and what their marks find.
use Rattle.std.proofs.Common.{◌≡◌, ℕ, zero, suc, ◌+◌, ◌<◌, ◌≤◌, Bool, true, false, cond, ◌&&◌, List, [], ◌∷◌, ◌++◌, map, length, set, get_or, take, drop, find, position, filter, Option, None, Some, is_some, option_map, refl, sym, ◌∙◌, ap, subst, true≢false, eqb, ltb, leb, add-one, arith}
use Rattle.std.proofs.lemmas.Bool.Decides.{nat_tests}
use Rattle.std.proofs.lemmas.Grind.{common_steps}
use Rattle.std.proofs.lemmas.List.Elements.{filter_map-append}
use Rattle.std.specs.List.{position_or_len}
use Rattle.std.specs.List.Sorted.{IsPartitionedBy, IsPartitionPoint}
use Rattle.std.proofs.lemmas.List.{map-append}
use Rattle.std.specs.Map.{keys_of, lookup, set_value}
use Rattle.std.specs.Prelude.{slice_get, option_to_list}
use Rattle.indexmap.specs.Layout.{set_value_at}
use Rattle.sr_marks.specs.Marks.{count_set, nth_set, next_set}
use Rattle.sr_shadow.specs.Entry.{is_pending, is_placed, may_retire}
use Rattle.sr_shadow.specs.Roll.{entries_in, kept, entry_at, entry_found, passes, HasNumber, Rising, AreMarks}
use Rattle.sr_shadow.specs.declared.entry.Entry.{Entry}

-- a position after one slot more in front
one_further : (r : Option ℕ) (s : ℕ × Option Entry) (slots : List (ℕ × Option Entry)) → entry_found (option_map suc r) (s ∷ slots) ≡ entry_found r slots
one_further None s slots = refl
one_further (Some at) s slots = refl

-- the n-th set mark of those in is the n-th entry's
pub nth_entry : (n : ℕ) (slots : List (ℕ × Option Entry)) → slice_get (entries_in slots) n ≡ entry_found (nth_set n (map (λ s. is_some s.1) slots)) slots
unfolding nth_set
nth_entry zero [] = refl
nth_entry (suc n) [] = refl
nth_entry n ((m, None) ∷ slots) = nth_entry n slots ∙ sym (one_further (nth_set n (map (λ s. is_some s.1) slots)) (m, None) slots)
nth_entry zero ((m, Some e) ∷ slots) = refl
nth_entry (suc n) ((m, Some e) ∷ slots) = nth_entry n slots ∙ sym (one_further (nth_set n (map (λ s. is_some s.1) slots)) (m, Some e) slots)

-- a set mark from a position on is the first entry's that passes the test
pub next_entry : (test : Entry → Bool) (from : ℕ) (slots : List (ℕ × Option Entry))
    → find test (entries_in (drop from slots)) ≡ entry_found (next_set from (map (λ s. passes test s.1) slots)) slots
unfolding next_set
next_entry test zero [] = refl
next_entry test (suc from) [] = refl
next_entry test (suc from) (s ∷ slots) = next_entry test from slots ∙ sym (one_further (next_set from (map (λ s. passes test s.1) slots)) s slots)
next_entry test zero ((m, None) ∷ slots) = next_entry test zero slots ∙ sym (one_further (next_set zero (map (λ s. passes test s.1) slots)) (m, None) slots)
next_entry test zero ((m, Some e) ∷ slots) = by (test e) refl (next_entry test zero slots)
  where
    by : (b : Bool) → test e ≡ b → find test (entries_in slots) ≡ entry_found (next_set zero (map (λ s. passes test s.1) slots)) slots
        → cond (test e) (Some e) (find test (entries_in slots)) ≡ entry_found (next_set zero (test e ∷ map (λ s. passes test s.1) slots)) ((m, Some e) ∷ slots)
    by true t rest = subst (λ b. cond b (Some e) (find test (entries_in slots)) ≡ entry_found (next_set zero (b ∷ map (λ s. passes test s.1) slots)) ((m, Some e) ∷ slots)) (sym t) refl
    by false t rest =
        subst (λ b. cond b (Some e) (find test (entries_in slots)) ≡ entry_found (next_set zero (b ∷ map (λ s. passes test s.1) slots)) ((m, Some e) ∷ slots)) (sym t)
        (rest ∙ sym (one_further (next_set zero (map (λ s. passes test s.1) slots)) (m, Some e) slots))

-- as many are in as marks are set
pub count_entries : (slots : List (ℕ × Option Entry)) → count_set (map (λ s. is_some s.1) slots) ≡ length (entries_in slots)
unfolding count_set
count_entries [] = refl
count_entries ((m, None) ∷ slots) = count_entries slots
count_entries ((m, Some e) ∷ slots) = ap suc (count_entries slots)

-- numbers outside the range have no slot
pub none_below : (low high n : ℕ) (slots : List (ℕ × Option Entry)) → Rising low slots high → n < low → lookup (eqb n) slots ≡ None
none_below low high n [] h l = refl
none_below low high n (s ∷ slots) h l = grind (arith, nat_tests, none_below (s.0 + 1) high n slots h.2, h.0)

least : (low high : ℕ) (slots : List (ℕ × Option Entry)) → Rising low slots high → low ≤ high
least low high [] h = h
least low high (s ∷ slots) h = omega (arith, h.0, least (s.0 + 1) high slots h.2)

pub none_above : (low high n : ℕ) (slots : List (ℕ × Option Entry)) → Rising low slots high → high ≤ n → lookup (eqb n) slots ≡ None
none_above low high n [] h l = refl
none_above low high n (s ∷ slots) h l = grind (arith, nat_tests, none_above (s.0 + 1) high n slots h.2 l, least (s.0 + 1) high slots h.2)

-- a new last slot
pub rising_more : (low high : ℕ) (slots : List (ℕ × Option Entry)) (e : Entry) → e.taken ≡ high → Rising low slots high → Rising low (slots ++ (high, Some e) ∷ []) (high + 1)
rising_more low high [] e t h = (h, t, omega arith)
rising_more low high (s ∷ slots) e t h = (h.0, h.1, rising_more (s.0 + 1) high slots e t h.2)

abbrev no_entry : List Entry → Bool
no_entry [] = true
no_entry (e ∷ es) = false

abbrev first_or : Entry → List Entry → Entry
first_or d [] = d
first_or d (e ∷ es) = e

-- Around an entry that is in: its slot, with those before and after it; and what writing to the slot leaves.
pub record Around (low high : ℕ) (slots : List (ℕ × Option Entry)) (front back : List Entry) (e : Entry) : Type 0 where
  pub before : List (ℕ × Option Entry)
  pub after : List (ℕ × Option Entry)
  pub is : slots ≡ before ++ (e.taken, Some e) ∷ after
  pub front_is : entries_in before ≡ front
  pub back_is : entries_in after ≡ back
  pub least : low ≤ e.taken
  pub at : position_or_len (eqb e.taken) (keys_of slots) ≡ length before
  pub found : lookup (eqb e.taken) slots ≡ Some (Some e)
  pub put : (v : Option Entry) → set_value (eqb e.taken) slots v ≡ before ++ (e.taken, v) ∷ after
  pub rising : (v : Option Entry) → HasNumber e.taken v → Rising low (before ++ (e.taken, v) ∷ after) high

pub around : (low high : ℕ) (slots : List (ℕ × Option Entry)) (front back : List Entry) (e : Entry) → Rising low slots high → entries_in slots ≡ front ++ e ∷ back
    → Around low high slots front back e
around low high [] [] back e h is = absurd (true≢false (ap no_entry is))
around low high [] (f ∷ front) back e h is = absurd (true≢false (ap no_entry is))
around low high ((n, None) ∷ slots) front back e h is =
    let rest = around (n + 1) high slots front back e h.2 is in
    let apart : eqb e.taken n ≡ false = grind (arith, nat_tests, rest.least) in
    record {
      before = (n, None) ∷ rest.before;
      after = rest.after;
      is = ap (λ ss. (n, None) ∷ ss) rest.is;
      front_is = rest.front_is;
      back_is = rest.back_is;
      least = omega (arith, h.0, rest.least);
      at = grind (arith, apart, rest.at);
      found = grind (arith, apart, rest.found);
      put = λ v. grind (arith, apart, rest.put v);
      rising = λ v hv. (h.0, tt, rest.rising v hv);
    }
around low high ((n, Some x) ∷ slots) [] back e h is =
    subst (λ y. Around low high ((n, Some x) ∷ slots) [] back y) (ap (first_or x) is) (record {
      before = [];
      after = slots;
      is = ap (λ k. (k, Some x) ∷ slots) (sym h.1);
      front_is = refl;
      back_is = ap (drop 1) is;
      least = omega (arith, h.0, h.1);
      at = grind (arith, nat_tests, h.1);
      found = grind (arith, nat_tests, h.1);
      put = λ v. grind (arith, nat_tests, h.1);
      rising = λ v hv. (omega (arith, h.0, h.1), hv, subst (λ k. Rising (k + 1) slots high) (sym h.1) h.2);
    })
around low high ((n, Some x) ∷ slots) (f ∷ front) back e h is =
    let rest = around (n + 1) high slots front back e h.2 (ap (drop 1) is) in
    let apart : eqb e.taken n ≡ false = grind (arith, nat_tests, rest.least) in
    record {
      before = (n, Some x) ∷ rest.before;
      after = rest.after;
      is = ap (λ ss. (n, Some x) ∷ ss) rest.is;
      front_is = grind (arith, ap (first_or x) is, rest.front_is);
      back_is = rest.back_is;
      least = omega (arith, h.0, rest.least);
      at = grind (arith, apart, rest.at);
      found = grind (arith, apart, rest.found);
      put = λ v. grind (arith, apart, rest.put v);
      rising = λ v hv. (h.0, h.1, rest.rising v hv);
    }

-- writing to a slot keeps the marks in step
pub marks_set : (test : ℕ × Option Entry → Bool) (before after : List (ℕ × Option Entry)) (s t : ℕ × Option Entry)
    → set (map test (before ++ s ∷ after)) (length before) (test t) ≡ map test (before ++ t ∷ after)
marks_set test [] after s t = refl
marks_set test (x ∷ before) after s t = ap (λ ms. test x ∷ ms) (marks_set test before after s t)

-- marks that keep in step
pub marked_more : (lives : ℕ) (ins waiting live over : List Bool) (slots : List (ℕ × Option Entry)) (s : ℕ × Option Entry) → AreMarks lives ins waiting live over slots
    → AreMarks lives (ins ++ is_some s.1 ∷ []) (waiting ++ passes is_pending s.1 ∷ []) (live ++ passes is_placed s.1 ∷ []) (over ++ passes (may_retire lives) s.1 ∷ []) (slots ++ s ∷ [])
marked_more lives ins waiting live over slots s h =
    record {
      filled = ap (λ ms. ms ++ is_some s.1 ∷ []) h.filled ∙ sym (map-append (λ x. is_some x.1) slots (s ∷ []));
      pending = ap (λ ms. ms ++ passes is_pending s.1 ∷ []) h.pending ∙ sym (map-append (λ x. passes is_pending x.1) slots (s ∷ []));
      placed = ap (λ ms. ms ++ passes is_placed s.1 ∷ []) h.placed ∙ sym (map-append (λ x. passes is_placed x.1) slots (s ∷ []));
      retirable = ap (λ ms. ms ++ passes (may_retire lives) s.1 ∷ []) h.retirable ∙ sym (map-append (λ x. passes (may_retire lives) x.1) slots (s ∷ []));
    }

pub marked_set : (lives : ℕ) (ins waiting live over : List Bool) (before after : List (ℕ × Option Entry)) (s t : ℕ × Option Entry) (at : ℕ) → at ≡ length before → AreMarks lives ins waiting live over (before ++ s ∷ after)
    → AreMarks lives (set ins at (is_some t.1)) (set waiting at (passes is_pending t.1)) (set live at (passes is_placed t.1)) (set over at (passes (may_retire lives) t.1)) (before ++ t ∷ after)
marked_set lives ins waiting live over before after s t at is h =
    record {
      filled = rw (is, h.filled) (marks_set (λ x. is_some x.1) before after s t);
      pending = rw (is, h.pending) (marks_set (λ x. passes is_pending x.1) before after s t);
      placed = rw (is, h.placed) (marks_set (λ x. passes is_placed x.1) before after s t);
      retirable = rw (is, h.retirable) (marks_set (λ x. passes (may_retire lives) x.1) before after s t);
    }

-- the lowest numbers
rising_at : (low high : ℕ) (slots : List (ℕ × Option Entry)) (j : ℕ) (d : ℕ × Option Entry) → Rising low slots high → j < length slots → low ≤ (get_or slots j d).0
rising_at low high [] j d h l = absurd (omega (arith, l))
rising_at low high (s ∷ slots) zero d h l = h.0
rising_at low high (s ∷ slots) (suc j) d h l = omega (arith, h.0, rising_at (s.0 + 1) high slots j d h.2 (omega (arith, l)))

pub rising_parts : (number low high : ℕ) (slots : List (ℕ × Option Entry)) → Rising low slots high → IsPartitionedBy (λ s. ltb s.0 number) slots
rising_parts number low high [] h i j d le l t = absurd (omega (arith, l))
rising_parts number low high (s ∷ slots) h zero zero d le l t = t
rising_parts number low high (s ∷ slots) h zero (suc j) d le l t = grind (arith, nat_tests, t, rising_at (s.0 + 1) high slots j d h.2 (omega (arith, l)))
rising_parts number low high (s ∷ slots) h (suc i) zero d le l t = absurd (omega (arith, le))
rising_parts number low high (s ∷ slots) h (suc i) (suc j) d le l t = rising_parts number (s.0 + 1) high slots h.2 i j d (omega (arith, le)) (omega (arith, l)) t

-- from a number on is from a slot on
pub from_number : (test : Entry → Bool) (number low high : ℕ) (slots : List (ℕ × Option Entry)) (from : ℕ) → Rising low slots high
    → IsPartitionPoint (λ s. ltb s.0 number ≡ true) (λ s. ltb s.0 number ≡ false) slots from
    → find (λ e. leb number e.taken && test e) (entries_in slots) ≡ find test (entries_in (drop from slots))
from_number test number low high [] zero h p = refl
from_number test number low high [] (suc from) h p = refl
from_number test number low high ((n, None) ∷ slots) zero h p =
    from_number test number (n + 1) high slots zero h.2 (λ k d a b. absurd (omega (arith, b)), λ k d a b. p.1 (suc k) d (omega arith) (omega (arith, b)))
from_number test number low high ((n, Some e) ∷ slots) zero h p =
    let rest = from_number test number (n + 1) high slots zero h.2 (λ k d a b. absurd (omega (arith, b)), λ k d a b. p.1 (suc k) d (omega arith) (omega (arith, b))) in
    let above : ltb n number ≡ false = p.1 0 (n, Some e) (omega arith) (omega arith) in
    grind (arith, nat_tests, rest, above, h.1)
from_number test number low high ((n, None) ∷ slots) (suc from) h p =
    from_number test number (n + 1) high slots from h.2 (λ k d a b. p.0 (suc k) d (omega arith) (omega (arith, b)), λ k d a b. p.1 (suc k) d (omega (arith, a)) (omega (arith, b)))
from_number test number low high ((n, Some e) ∷ slots) (suc from) h p =
    let rest = from_number test number (n + 1) high slots from h.2 (λ k d a b. p.0 (suc k) d (omega arith) (omega (arith, b)), λ k d a b. p.1 (suc k) d (omega (arith, a)) (omega (arith, b))) in
    let below : ltb n number ≡ true = p.0 0 (n, Some e) (omega arith) (omega arith) in
    grind (arith, nat_tests, rest, below, h.1)

-- the slots without those whose entries are out
pub filtered_entries : (slots : List (ℕ × Option Entry)) → entries_in (filter (λ s. is_some s.1) slots) ≡ entries_in slots
filtered_entries [] = refl
filtered_entries ((n, None) ∷ slots) = filtered_entries slots
filtered_entries ((n, Some e) ∷ slots) = ap (λ es. e ∷ es) (filtered_entries slots)

rising_lower : (low less high : ℕ) (slots : List (ℕ × Option Entry)) → less ≤ low → Rising low slots high → Rising less slots high
rising_lower low less high [] le h = omega (arith, le, h)
rising_lower low less high (s ∷ slots) le h = (omega (arith, le, h.0), h.1, h.2)

pub rising_filtered : (low high : ℕ) (slots : List (ℕ × Option Entry)) → Rising low slots high → Rising low (filter (λ s. is_some s.1) slots) high
rising_filtered low high [] h = h
rising_filtered low high ((n, None) ∷ slots) h = rising_lower (n + 1) low high (filter (λ s. is_some s.1) slots) (omega (arith, h.0)) (rising_filtered (n + 1) high slots h.2)
rising_filtered low high ((n, Some e) ∷ slots) h = (h.0, h.1, rising_filtered (n + 1) high slots h.2)

-- a number's slot has its entry
pub found_at : (low high number : ℕ) (slots : List (ℕ × Option Entry)) (front back : List Entry) (e : Entry) → Rising low slots high → entries_in slots ≡ front ++ e ∷ back → e.taken ≡ number
    → lookup (eqb number) slots ≡ Some (Some e)
found_at low high number slots front back e h is told = subst (λ n. lookup (eqb n) slots ≡ Some (Some e)) told (around low high slots front back e h is).found

-- writing at a position
written_at : (before after : List (ℕ × Option Entry)) (s : ℕ × Option Entry) (v : Option Entry) → set_value_at (before ++ s ∷ after) (length before) v ≡ before ++ (s.0, v) ∷ after
written_at [] after s v = refl
written_at (x ∷ before) after s v = ap (λ ss. x ∷ ss) (written_at before after s v)

entries_joined : (before after : List (ℕ × Option Entry)) (n : ℕ) (v : Option Entry) → entries_in (before ++ (n, v) ∷ after) ≡ entries_in before ++ (option_to_list v ++ entries_in after)
entries_joined before after n None = filter_map-append (λ s. s.1) before ((n, None) ∷ after)
entries_joined before after n (Some e) = filter_map-append (λ s. s.1) before ((n, Some e) ∷ after)

-- where the position of a number is, and what writing there leaves
pub record Written (slots : List (ℕ × Option Entry)) (number at high : ℕ) (v : Option Entry) (front back : List Entry) : Type 0 where
  pub rising : Rising 0 (set_value_at slots at v) high
  pub entries : entries_in (set_value_at slots at v) ≡ front ++ (option_to_list v ++ back)
  pub inside : at < length slots
  pub before : List (ℕ × Option Entry)
  pub after : List (ℕ × Option Entry)
  pub own : ℕ × Option Entry
  pub at_is : at ≡ length before
  pub slots_is : slots ≡ before ++ own ∷ after
  pub new_is : set_value_at slots at v ≡ before ++ (number, v) ∷ after

pub written : (slots : List (ℕ × Option Entry)) (number at high : ℕ) (v : Option Entry) (front back : List Entry) (e : Entry) → Rising 0 slots high → entries_in slots ≡ front ++ e ∷ back
    → e.taken ≡ number → HasNumber number v → Some at ≡ position (eqb number) (keys_of slots) → Written slots number at high v front back
written slots number at high v front back e h is told numbered found =
    let a = around 0 high slots front back e h is in
    let same : at ≡ position_or_len (eqb number) (keys_of slots) = some_position (position_or_len (eqb number) (keys_of slots)) (length (keys_of slots)) at found in
    let here : at ≡ length a.before = same ∙ subst (λ n. position_or_len (eqb n) (keys_of slots) ≡ length a.before) told a.at in
    let left : set_value_at slots at v ≡ a.before ++ (e.taken, v) ∷ a.after = ap (λ ss. set_value_at ss at v) a.is ∙ ap (λ i. set_value_at (a.before ++ (e.taken, Some e) ∷ a.after) i v) here ∙ written_at a.before a.after (e.taken, Some e) v in
    record {
      rising = subst (λ ss. Rising 0 ss high) (sym left) (a.rising v (subst (λ n. HasNumber n v) (sym told) numbered));
      entries = ap entries_in left ∙ entries_joined a.before a.after e.taken v ∙ ap (λ f. f ++ (option_to_list v ++ entries_in a.after)) a.front_is ∙ ap (λ b. front ++ (option_to_list v ++ b)) a.back_is;
      inside = subst (λ ss. at < length ss) (sym a.is) (rw here (grind (arith, common_steps)));
      before = a.before;
      after = a.after;
      own = (e.taken, Some e);
      at_is = here;
      slots_is = a.is;
      new_is = left ∙ ap (λ n. a.before ++ (n, v) ∷ a.after) told;
    }
  where
    some_position : (p l at : ℕ) → Some at ≡ cond (ltb p l) (Some p) None → at ≡ p
    some_position p l at h = by (ltb p l) h
      where
        by : (b : Bool) → Some at ≡ cond b (Some p) None → at ≡ p
        by true k = grind (arith, k)
        by false k = absurd (true≢false (ap is_some k))

-- the slots that are kept, one further
pub kept_some : (slots : List (ℕ × Option Entry)) (i : ℕ) (e : Entry) → entry_at i slots ≡ Some e
    → (n : ℕ) × (filter (λ s. is_some s.1) (take (suc i) slots) ≡ filter (λ s. is_some s.1) (take i slots) ++ (n, Some e) ∷ [])
kept_some [] i e h = absurd (true≢false (sym (ap is_some h)))
kept_some ((n, None) ∷ slots) zero e h = absurd (true≢false (sym (ap is_some h)))
kept_some ((n, Some x) ∷ slots) zero e h = (n, ap (λ y. (n, y) ∷ []) h)
kept_some ((n, None) ∷ slots) (suc i) e h = kept_some slots i e h
kept_some ((n, Some x) ∷ slots) (suc i) e h = let r = kept_some slots i e h in (r.0, ap (λ ss. (n, Some x) ∷ ss) r.1)

pub kept_none : (slots : List (ℕ × Option Entry)) (i : ℕ) → entry_at i slots ≡ None → filter (λ s. is_some s.1) (take (suc i) slots) ≡ filter (λ s. is_some s.1) (take i slots)
kept_none [] zero h = refl
kept_none [] (suc i) h = refl
kept_none ((n, None) ∷ slots) zero h = refl
kept_none ((n, Some x) ∷ slots) zero h = absurd (true≢false (ap is_some h))
kept_none ((n, None) ∷ slots) (suc i) h = kept_none slots i h
kept_none ((n, Some x) ∷ slots) (suc i) h = ap (λ ss. (n, Some x) ∷ ss) (kept_none slots i h)

pub kept_more : (slots : List (ℕ × Option Entry)) (i : ℕ) (e : Entry) → entry_at i slots ≡ Some e → (n : ℕ) × (kept (i + 1) slots ≡ kept i slots ++ (n, Some e) ∷ [])
kept_more slots i e h = let r = kept_some slots i e h in (r.0, ap (λ m. kept m slots) (add-one i) ∙ r.1)

pub kept_same : (slots : List (ℕ × Option Entry)) (i : ℕ) → entry_at i slots ≡ None → kept (i + 1) slots ≡ kept i slots
kept_same slots i h = ap (λ m. kept m slots) (add-one i) ∙ kept_none slots i h
