-- In a list in order an opener may be held by a clash where an entry that it matches stands, or was cleared lately.
use Rattle.std.proofs.Common.{◌≡◌, ℕ, ◌<◌, ◌≤◌, Bool, true, false, not, ◌&&◌, ◌||◌, cond, List, [], ◌∷◌, Option, Some, None, refl, sym, ap, subst, ◌∙◌, inl, inr, true≢false, arith, ◌*◌, ◌/◌, ◌+◌}
use Rattle.std.specs.List.{list_any, take_while}
use Rattle.std.specs.Prelude.{◌==◌, nat_le, nat_lt, option_map, is_none}
use Rattle.std.proofs.lemmas.Bool.{and_parts, and_from, or_cases, or_left, or_right, cases_Bool, eqb-true, ltb-true, leb-true, leb-false}
use Rattle.std.proofs.lemmas.Bool.Decides.{nat_tests}
use Rattle.std.proofs.lemmas.List.Sums.{take_while-cons}
use Rattle.sr_base.specs.Key.{KeyView, same_key}
use Rattle.sr_base.specs.Place.{same_place}
use Rattle.sr_base.specs.declared.place.Place.{Place}
use Rattle.sr_base.specs.declared.place.Place.TheVariants.{Slot, Row}
use Rattle.sr_base.specs.declared.shape.Shape.{Shape}
use Rattle.sr_base.proofs.Sameness.{same_key-true, same_key-self, same_place-true, same_place-self}
use Rattle.sr_hash.specs.Uses.{bucket_of, digest_of, group_of, is_place_of}
use Rattle.sr_hash.specs.Clash.{clashes}
use Rattle.sr_law.specs.declared.line.Line.{Line}
use Rattle.sr_law.specs.declared.line.Line.TheVariants.{Reserved, Placed, Cleared}
use Rattle.sr_law.specs.declared.taking.Taking.{Taking}
use Rattle.sr_law.specs.Held.{matches_entry, is_between, clears_between, reserves_against, may_clash}
use Rattle.sr_law.specs.Taken.{now_placed, taken, may_clear, keeps_places}
use Rattle.sr_law.specs.Ticks.{out_of}
use Rattle.sr_audit.specs.Clashes.{cells_of, rows_of, matches_holder, matches_among, matches_now, clears_match, is_out_from, clears_lately, KeepsPlaces}
use Rattle.sr_audit.specs.Lately.{AreOut, Falls}
use Rattle.sr_audit.proofs.Falling.{wider}

-- ---- an entry of one key at one place

-- this key has the place
abbrev has_key : KeyView → Option Taking → Bool
has_key key None = false
has_key key (Some taking) = same_key taking.key key

none_left : (b : Bool) → ((b && not true) || false) ≡ false
none_left true = refl
none_left false = refl

too_early : (b : Bool) (start out : ℕ) → out < start → ((b && nat_le start out) || false) ≡ false
too_early b start out h = grind (arith, nat_tests, h)

not_between : (b : Bool) (low high out : ℕ) → out < low → ((b && is_between low high out) || false) ≡ false
not_between b low high out h = grind (arith, nat_tests, h)

is_none_none : (o : Option Taking) → is_none o ≡ true → o ≡ None
is_none_none None e = refl
is_none_none (Some t) e = absurd (true≢false (sym e))

tidy : (b late : Bool) → (((b && true) && true) || (false || late)) ≡ (b || late)
tidy true late = refl
tidy false late = refl

tidy_other : (b rest : Bool) → (((b && false) && true) || rest) ≡ rest
tidy_other true rest = refl
tidy_other false rest = refl

own_key : (k : KeyView) (o : Option Taking) → may_clear k o ≡ true → has_key k o ≡ true
own_key k None e = e
own_key k (Some t) e = e

not_before : (mine : Bool) (low start out : ℕ) → start ≤ out → (mine && is_between low start out) ≡ false
not_before mine low start out h = grind (arith, nat_tests, h)

module _ (start : ℕ) (key : KeyView) (place : Place) where
  -- some line of `all` clears it, after this tick and before the start
  abbrev gone : List Line → ℕ → Bool
  gone all out = list_any (clears_between key place out start) all

  -- the line reserves it, and none of `all` clears it
  abbrev reserves : List Line → Line → Bool
  reserves all (Reserved out k at) = (same_key k key && same_place at place) && not (gone all out)
  reserves all line = false

  -- the line clears it at the start or later
  abbrev clears_late : Line → Bool
  clears_late (Cleared out k at) = (same_key k key && same_place at place) && nat_le start out
  clears_late line = false

  -- the line doesn't clear it before the start
  abbrev spares : Line → Type 0
  spares line = (low : ℕ) → clears_between key place low start line ≡ false

  spared : (all older : List Line) (line : Line) → spares line → list_any (reserves (line ∷ all)) older ≡ list_any (reserves all) older
  spared all [] line s = refl
  spared all (Reserved out k at ∷ older) line s =
      rw (spared all older line s) (ap (λ b. ((same_key k key && same_place at place) && not (b || gone all out)) || list_any (reserves all) older) (s out))
  spared all (l ∷ older) line s = spared all older line s

  gone_now : (low out : ℕ) (k : KeyView) (at : Place) → (same_key k key && same_place at place) ≡ true → low < out → out < start
      → clears_between key place low start (Cleared out k at) ≡ true
  gone_now low out k at mine past early = grind (arith, nat_tests, mine, past, early)

  -- what was reserved before is gone
  swept : (all older : List Line) (out : ℕ) (k : KeyView) (at : Place) → (same_key k key && same_place at place) ≡ true → out < start → AreOut out older
      → list_any (reserves (Cleared out k at ∷ all)) older ≡ false
  swept all [] out k at mine early past = refl
  swept all (Reserved low k2 at2 ∷ older) out k at mine early past =
      let now : clears_between key place low start (Cleared out k at) ≡ true = gone_now low out k at mine past.0 early in
      rw (swept all older out k at mine early past.1) (ap (λ b. ((same_key k2 key && same_place at2 place) && not (b || gone all low)) || false) now ∙ none_left (same_key k2 key && same_place at2 place))
  swept all (l ∷ older) out k at mine early past = swept all older out k at mine early past.1

  late_none : (before : List Line) (out : ℕ) → out < start → AreOut out before → list_any clears_late before ≡ false
  late_none [] out early past = refl
  late_none (Cleared o k at ∷ before) out early past =
      rw (late_none before out early past.1) (too_early (same_key k key && same_place at place) start o (omega (arith, past.0, early)))
  late_none (l ∷ before) out early past = late_none before out early past.1

  -- nothing before a tick clears it after that tick
  not_gone : (before : List Line) (out : ℕ) → AreOut out before → gone before out ≡ false
  not_gone [] out past = refl
  not_gone (Cleared o k at ∷ before) out past =
      rw (not_gone before out past.1) (not_between (same_key k key && same_place at place) out start o past.0)
  not_gone (l ∷ before) out past = not_gone before out past.1

  -- it stands where it was reserved and wasn't cleared before the start: it has its place still, or was cleared later
  abbrev now_or_late : (List Line) → Bool
  now_or_late before = has_key key (taken before place) || list_any clears_late before

  reserved_more : (before : List Line) (out : ℕ) (k : KeyView) (at : Place) → AreOut out before → is_none (taken before at) ≡ true
      → list_any (reserves before) before ≡ now_or_late before
      → list_any (reserves (Reserved out k at ∷ before)) (Reserved out k at ∷ before) ≡ now_or_late (Reserved out k at ∷ before)
  reserved_more before out k at past free h =
      let line : Line = Reserved out k at in
      let late = list_any clears_late before in
      let fresh : gone (line ∷ before) out ≡ false = not_gone before out past in
      ap (λ b. ((same_key k key && same_place at place) && not b) || list_any (reserves (line ∷ before)) before) fresh
      ∙ ap (λ b. ((same_key k key && same_place at place) && true) || b) (spared before before line (λ low. refl) ∙ h)
      ∙ elim (cases_Bool (same_place at place)) [
        | inl same ↦
            let none : taken before place ≡ None = subst (λ p. taken before p ≡ None) (same_place-true at place same) (is_none_none (taken before at) free) in
            ap (λ b. ((same_key k key && b) && true) || now_or_late before) same
            ∙ ap (λ t. ((same_key k key && true) && true) || (has_key key t || late)) none ∙ tidy (same_key k key) late
            ∙ sym (ap (λ b. has_key key (cond b (Some (record { key = k; placed = false })) (taken before place)) || late) same)
        | inr other ↦
            ap (λ b. ((same_key k key && b) && true) || now_or_late before) other
            ∙ tidy_other (same_key k key) (now_or_late before)
            ∙ sym (ap (λ b. has_key key (cond b (Some (record { key = k; placed = false })) (taken before place)) || late) other)
      ]

  placed_same : (same : Bool) (o : Option Taking) → has_key key (cond same (option_map now_placed o) o) ≡ has_key key o
  placed_same true None = refl
  placed_same true (Some t) = refl
  placed_same false o = refl

  others_stay : (same : Bool) (o : Option Taking) → (same ≡ true → has_key key o ≡ false) → has_key key (cond same None o) ≡ has_key key o
  others_stay true o h = sym (h refl)
  others_stay false o h = refl

  other_key : (k : KeyView) (o : Option Taking) → may_clear k o ≡ true → same_key k key ≡ false → has_key key o ≡ false
  other_key k None own not_mine = refl
  other_key k (Some t) own not_mine = ap (λ x. same_key x key) (same_key-true t.key k own) ∙ not_mine

  and_false : (a b : Bool) → b ≡ true → (a && b) ≡ false → a ≡ false
  and_false true b e f = absurd (true≢false (sym e ∙ f))
  and_false false b e f = refl

  no_other : (k : KeyView) (at : Place) (before : List Line) → same_place at place ≡ true → (same_key k key && same_place at place) ≡ false
      → may_clear k (taken before at) ≡ true → has_key key (taken before place) ≡ false
  no_other k at before same not_mine own =
      other_key k (taken before place) (subst (λ p. may_clear k (taken before p) ≡ true) (same_place-true at place same) own)
      (and_false (same_key k key) (same_place at place) same not_mine)

  placed_more : (before : List Line) (out : ℕ) (k : KeyView) (at : Place) → list_any (reserves before) before ≡ now_or_late before
      → list_any (reserves (Placed out k at ∷ before)) (Placed out k at ∷ before) ≡ now_or_late (Placed out k at ∷ before)
  placed_more before out k at h =
      let line : Line = Placed out k at in
      spared before before line (λ low. refl) ∙ h
      ∙ ap (λ b. b || list_any clears_late before) (sym (placed_same (same_place at place) (taken before place)))

  cleared_more : (before : List Line) (out : ℕ) (k : KeyView) (at : Place) → AreOut out before → may_clear k (taken before at) ≡ true
      → list_any (reserves before) before ≡ now_or_late before
      → list_any (reserves (Cleared out k at ∷ before)) (Cleared out k at ∷ before) ≡ now_or_late (Cleared out k at ∷ before)
  cleared_more before out k at past own h =
      let line : Line = Cleared out k at in
      let mine = same_key k key && same_place at place in
      let late = list_any clears_late before in
      let after : Bool → Bool → Bool = λ same now. has_key key (cond same None (taken before place)) || (now || late) in
      elim (cases_Bool mine) [
        | inl is ↦
            let parts = and_parts (same_key k key) (same_place at place) is in
            let holds : has_key key (taken before place) ≡ true =
            subst (λ p. has_key key (taken before p) ≡ true) (same_place-true at place parts.1)
            (subst (λ x. has_key x (taken before at) ≡ true) (same_key-true k key parts.0) (own_key k (taken before at) own)) in
            elim (cases_Bool (nat_le start out)) [
              | inl later ↦
                  spared before before line (λ low. not_before mine low start out (leb-true start out later)) ∙ h ∙ ap (λ b. b || late) holds
                  ∙ sym (ap (λ b. after b (mine && nat_le start out)) parts.1 ∙ ap (λ b. after true (b && nat_le start out)) is ∙ ap (λ b. after true (true && b)) later)
              | inr early ↦
                  let below = leb-false start out early in
                  swept before before out k at is below past
                  ∙ sym (ap (λ b. after b (mine && nat_le start out)) parts.1 ∙ ap (λ b. after true (b && nat_le start out)) is ∙ ap (λ b. after true (true && b)) early
                  ∙ late_none before out below past)
            ]
        | inr not_mine ↦
            spared before before line (λ low. ap (λ b. b && is_between low start out) not_mine) ∙ h
            ∙ sym (ap (λ b. after (same_place at place) (b && nat_le start out)) not_mine
            ∙ ap (λ b. b || late) (others_stay (same_place at place) (taken before place) (λ same. no_other k at before same not_mine own)))
      ]

  -- so an entry may have stood at the start where it has its place, or was cleared at the start or later
  pub stands : (shape : Shape) (before : List Line) → Falls before → KeepsPlaces shape before → list_any (reserves before) before ≡ now_or_late before
  unfolding keeps_places
  stands shape [] fall kept = refl
  stands shape (Reserved out k at ∷ before) fall kept = reserved_more before out k at fall.1 kept.0 (stands shape before fall.2 kept.2)
  stands shape (Placed out k at ∷ before) fall kept = placed_more before out k at (stands shape before fall.2 kept.2)
  stands shape (Cleared out k at ∷ before) fall kept = cleared_more before out k at fall.1 kept.0 (stands shape before fall.2 kept.2)
  stands shape (line ∷ before) fall kept = spared before before line (λ low. refl) ∙ stands shape before fall.2 kept.2

-- ---- entries that a key matches

record Found (shape : Shape) (c : KeyView) (start : ℕ) (all xs : List Line) : Type 0 where
  key : KeyView
  place : Place
  matches : matches_entry shape c key place ≡ true
  reserved : list_any (reserves start key place all) xs ≡ true
  own : is_place_of shape key place ≡ true

-- the entry that a line reserves
find_reserved : (shape : Shape) (c : KeyView) (start : ℕ) (all xs : List Line) → KeepsPlaces shape xs → list_any (reserves_against shape all c start) xs ≡ true → Found shape c start all xs
find_reserved shape c start all [] kept e = absurd (true≢false (sym e))
find_reserved shape c start all (Reserved out k at ∷ xs) kept e =
    let line : Line = Reserved out k at in
    let left = not (list_any (clears_between k at out start) all) in
    elim (or_cases (reserves_against shape all c start line) (list_any (reserves_against shape all c start) xs) e) [
      | inl here ↦
          let parts = and_parts (matches_entry shape c k at) left here in
          let mine = and_from (same_key k k) (same_place at at) (same_key-self k) (same_place-self at) in
          record {
            key = k;
            place = at;
            matches = parts.0;
            reserved = or_left (reserves start k at all line) (list_any (reserves start k at all) xs) (and_from (same_key k k && same_place at at) left mine parts.1);
            own = kept.1;
          }
      | inr there ↦
          let f = find_reserved shape c start all xs kept.2 there in
          record {
            key = f.key;
            place = f.place;
            matches = f.matches;
            reserved = or_right (reserves start f.key f.place all line) (list_any (reserves start f.key f.place all) xs) f.reserved;
            own = f.own;
          }
    ]
find_reserved shape c start all (line ∷ xs) kept e =
    let f = find_reserved shape c start all xs kept.2 e in
    record { key = f.key; place = f.place; matches = f.matches; reserved = f.reserved; own = f.own }

-- an entry that the key matches, and its line
reserved_against : (shape : Shape) (c key : KeyView) (place : Place) (start : ℕ) (all xs : List Line) → matches_entry shape c key place ≡ true
    → list_any (reserves start key place all) xs ≡ true → list_any (reserves_against shape all c start) xs ≡ true
reserved_against shape c key place start all [] m e = e
reserved_against shape c key place start all (Reserved out k at ∷ xs) m e =
    let line : Line = Reserved out k at in
    let rest = list_any (reserves_against shape all c start) xs in
    elim (or_cases (reserves start key place all line) (list_any (reserves start key place all) xs) e) [
      | inl here ↦
          let parts = and_parts (same_key k key && same_place at place) (not (gone start key place all out)) here in
          let mine = and_parts (same_key k key) (same_place at place) parts.0 in
          let keys : key ≡ k = sym (same_key-true k key mine.0) in
          let places : place ≡ at = sym (same_place-true at place mine.1) in
          let matches : matches_entry shape c k at ≡ true =
          subst (λ x. matches_entry shape c x at ≡ true) keys (subst (λ x. matches_entry shape c key x ≡ true) places m) in
          let left : not (list_any (clears_between k at out start) all) ≡ true =
          subst (λ x. not (list_any (clears_between x at out start) all) ≡ true) keys (subst (λ x. not (list_any (clears_between key x out start) all) ≡ true) places parts.1) in
          or_left (reserves_against shape all c start line) rest (and_from (matches_entry shape c k at) (not (list_any (clears_between k at out start) all)) matches left)
      | inr there ↦ or_right (reserves_against shape all c start line) rest (reserved_against shape c key place start all xs m there)
    ]
reserved_against shape c key place start all (line ∷ xs) m e = reserved_against shape c key place start all xs m e

-- ---- what was cleared lately

abbrev clears_from : Shape → KeyView → ℕ → Line → Bool
clears_from shape c start line = clears_match shape c line && is_out_from start line

cleared_match : (shape : Shape) (c key : KeyView) (place : Place) (start : ℕ) (xs : List Line) → matches_entry shape c key place ≡ true
    → list_any (clears_late start key place) xs ≡ true → list_any (clears_from shape c start) xs ≡ true
cleared_match shape c key place start [] m e = e
cleared_match shape c key place start (Cleared out k at ∷ xs) m e =
    let line : Line = Cleared out k at in
    let rest = list_any (clears_from shape c start) xs in
    elim (or_cases (clears_late start key place line) (list_any (clears_late start key place) xs) e) [
      | inl here ↦
          let parts = and_parts (same_key k key && same_place at place) (nat_le start out) here in
          let mine = and_parts (same_key k key) (same_place at place) parts.0 in
          let matches : matches_entry shape c k at ≡ true =
          subst (λ x. matches_entry shape c x at ≡ true) (sym (same_key-true k key mine.0)) (subst (λ x. matches_entry shape c key x ≡ true) (sym (same_place-true at place mine.1)) m) in
          or_left (clears_from shape c start line) rest (and_from (matches_entry shape c k at) (nat_le start out) matches parts.1)
      | inr there ↦ or_right (clears_from shape c start line) rest (cleared_match shape c key place start xs m there)
    ]
cleared_match shape c key place start (line ∷ xs) m e = cleared_match shape c key place start xs m e

record FoundCleared (shape : Shape) (c : KeyView) (start : ℕ) (xs : List Line) : Type 0 where
  key : KeyView
  place : Place
  matches : matches_entry shape c key place ≡ true
  cleared : list_any (clears_late start key place) xs ≡ true

find_cleared : (shape : Shape) (c : KeyView) (start : ℕ) (xs : List Line) → list_any (clears_from shape c start) xs ≡ true → FoundCleared shape c start xs
find_cleared shape c start [] e = absurd (true≢false (sym e))
find_cleared shape c start (Cleared out k at ∷ xs) e =
    let line : Line = Cleared out k at in
    elim (or_cases (clears_from shape c start line) (list_any (clears_from shape c start) xs) e) [
      | inl here ↦
          let parts = and_parts (matches_entry shape c k at) (nat_le start out) here in
          let mine = and_from (same_key k k) (same_place at at) (same_key-self k) (same_place-self at) in
          record {
            key = k;
            place = at;
            matches = parts.0;
            cleared = or_left (clears_late start k at line) (list_any (clears_late start k at) xs) (and_from (same_key k k && same_place at at) (nat_le start out) mine parts.1);
          }
      | inr there ↦
          let f = find_cleared shape c start xs there in
          record { key = f.key; place = f.place; matches = f.matches; cleared = or_right (clears_late start f.key f.place line) (list_any (clears_late start f.key f.place) xs) f.cleared }
    ]
find_cleared shape c start (line ∷ xs) e =
    let f = find_cleared shape c start xs e in
    record { key = f.key; place = f.place; matches = f.matches; cleared = f.cleared }

out_before : (b : Bool) (start out : ℕ) → out < start → (b && nat_le start out) ≡ false
out_before b start out h = grind (arith, nat_tests, h)

none_from : (shape : Shape) (c : KeyView) (start : ℕ) (xs : List Line) → AreOut start xs → list_any (clears_from shape c start) xs ≡ false
none_from shape c start [] past = refl
none_from shape c start (line ∷ xs) past = rw (none_from shape c start xs past.1, out_before (clears_match shape c line) start (out_of line) past.0) refl

and_true : (b : Bool) → (b && true) ≡ b
and_true true = refl
and_true false = refl

-- the newest lines are those that were out at a tick or later
newest : (shape : Shape) (c : KeyView) (start : ℕ) (xs : List Line) → Falls xs
    → list_any (clears_match shape c) (take_while (is_out_from start) xs) ≡ list_any (clears_from shape c start) xs
newest shape c start [] fall = refl
newest shape c start (line ∷ xs) fall =
    let kept : Bool → Bool = λ b. list_any (clears_match shape c) (cond b (line ∷ take_while (is_out_from start) xs) []) in
    let parted : list_any (clears_match shape c) (take_while (is_out_from start) (line ∷ xs)) ≡ kept (is_out_from start line) =
    ap (list_any (clears_match shape c)) (take_while-cons (is_out_from start) line xs) in
    elim (cases_Bool (is_out_from start line)) [
      | inl t ↦
          parted ∙ ap kept t ∙ ap (λ b. clears_match shape c line || b) (newest shape c start xs fall.2)
          ∙ sym (ap (λ b. (clears_match shape c line && b) || list_any (clears_from shape c start) xs) t
          ∙ ap (λ b. b || list_any (clears_from shape c start) xs) (and_true (clears_match shape c line)))
      | inr f ↦
          let below = leb-false start (out_of line) f in
          parted ∙ ap kept f ∙ sym (none_from shape c start (line ∷ xs) (below, wider xs (out_of line) start (omega (arith, below)) fall.1))
    ]

-- ---- the places at which an entry may stand that a key matches

among : (f : Place → Bool) (p : Place) (ps : List Place) → list_any (same_place p) ps ≡ true → f p ≡ true → list_any f ps ≡ true
among f p [] e h = e
among f p (q ∷ ps) e h = elim (or_cases (same_place p q) (list_any (same_place p) ps) e) [
  | inl here ↦ or_left (f q) (list_any f ps) (subst (λ x. f x ≡ true) (same_place-true p q here) h)
  | inr there ↦ or_right (f q) (list_any f ps) (among f p ps there h)
]

cells_have : (way bucket cell : ℕ) → cell < 4 → list_any (same_place (Slot way bucket cell)) (Slot way bucket 0 ∷ Slot way bucket 1 ∷ Slot way bucket 2 ∷ Slot way bucket 3 ∷ []) ≡ true
cells_have way bucket cell h = grind (arith, nat_tests, h)

rows_have : (row group : ℕ) → row / 4 ≡ group → list_any (same_place (Row row)) (Row (4 * group) ∷ Row (4 * group + 1) ∷ Row (4 * group + 2) ∷ Row (4 * group + 3) ∷ []) ≡ true
rows_have row group h = grind (arith, nat_tests, h)

module _ (shape : Shape) (holds : Place → Option Taking) (c : KeyView) where
  abbrev at_place : Place → Bool
  at_place p = matches_holder shape c p (holds p)

  at_own : (key : KeyView) (p : Place) (o : Option Taking) → has_key key o ≡ true → matches_entry shape c key p ≡ true → matches_holder shape c p o ≡ true
  at_own key p None has m = absurd (true≢false (sym has))
  at_own key p (Some t) has m = subst (λ k. matches_entry shape c k p ≡ true) (sym (same_key-true t.key key has)) m

  at_cell : (key : KeyView) (way bucket cell : ℕ) → is_place_of shape key (Slot way bucket cell) ≡ true → matches_entry shape c key (Slot way bucket cell) ≡ true
      → at_place (Slot way bucket cell) ≡ true → matches_among shape holds c (cells_of shape c way) ≡ true
  at_cell key way bucket cell own m h =
      let parts = and_parts (((way == 1) || (way == 2)) && (bucket == bucket_of way key shape.buckets)) (nat_lt cell 4) own in
      let mine = eqb-true bucket (bucket_of way key shape.buckets) (and_parts ((way == 1) || (way == 2)) (bucket == bucket_of way key shape.buckets) parts.0).1 in
      let clash = (and_parts ((way == 1) || (way == 2)) (clashes shape way key c) m).1 in
      let buckets = bucket_of way key shape.buckets == bucket_of way c shape.buckets in
      let digests = digest_of way key shape.digest_bits == digest_of way c shape.digest_bits in
      let same = eqb-true (bucket_of way key shape.buckets) (bucket_of way c shape.buckets) (and_parts buckets digests (and_parts (key.vip == c.vip) (buckets && digests) clash).1).0 in
      among at_place (Slot way bucket cell) (cells_of shape c way)
      (subst (λ b. list_any (same_place (Slot way bucket cell)) (Slot way b 0 ∷ Slot way b 1 ∷ Slot way b 2 ∷ Slot way b 3 ∷ []) ≡ true) (mine ∙ same) (cells_have way bucket cell (ltb-true cell 4 parts.1))) h

  abbrev first_way : Bool
  first_way = matches_among shape holds c (cells_of shape c 1)

  abbrev second_way : Bool
  second_way = matches_among shape holds c (cells_of shape c 2)

  abbrev full_rows : Bool
  full_rows = matches_among shape holds c (rows_of shape c)

  matched : (key : KeyView) (p : Place) → is_place_of shape key p ≡ true → matches_entry shape c key p ≡ true → has_key key (holds p) ≡ true
      → matches_now shape holds c ≡ true
  matched key (Slot way bucket cell) own m has =
      let h = at_own key (Slot way bucket cell) (holds (Slot way bucket cell)) has m in
      let cell_matches = at_cell key way bucket cell own m h in
      elim (or_cases (way == 1) (way == 2) (and_parts ((way == 1) || (way == 2)) (clashes shape way key c) m).0) [
        | inl one ↦ or_left first_way (second_way || full_rows) (subst (λ w. matches_among shape holds c (cells_of shape c w) ≡ true) (eqb-true way 1 one) cell_matches)
        | inr two ↦ or_right first_way (second_way || full_rows)
            (or_left second_way full_rows (subst (λ w. matches_among shape holds c (cells_of shape c w) ≡ true) (eqb-true way 2 two) cell_matches))
      ]
  matched key (Row row) own m has =
      let h = at_own key (Row row) (holds (Row row)) has m in
      let mine : row / 4 ≡ group_of c shape.full_rows =
      eqb-true (row / 4) (group_of key shape.full_rows) own ∙ ap (λ k. group_of k shape.full_rows) (same_key-true key c m) in
      or_right first_way (second_way || full_rows) (or_right second_way full_rows (among at_place (Row row) (rows_of shape c) (rows_have row (group_of c shape.full_rows) mine) h))

  record Holder : Type 0 where
    key : KeyView
    place : Place
    matches : matches_entry shape c key place ≡ true
    has : has_key key (holds place) ≡ true

  held_by : (p : Place) (o : Option Taking) → holds p ≡ o → matches_holder shape c p o ≡ true → Holder
  held_by p None is e = absurd (true≢false (sym e))
  held_by p (Some t) is e = record { key = t.key; place = p; matches = e; has = ap (has_key t.key) is ∙ same_key-self t.key }

  holder_among : (ps : List Place) → matches_among shape holds c ps ≡ true → Holder
  holder_among [] e = absurd (true≢false (sym e))
  holder_among (p ∷ ps) e = elim (or_cases (at_place p) (list_any at_place ps) e) [
    | inl here ↦ held_by p (holds p) refl here
    | inr there ↦ holder_among ps there
  ]

  holder_now : matches_now shape holds c ≡ true → Holder
  holder_now e = elim (or_cases first_way (second_way || full_rows) e) [
    | inl one ↦ holder_among (cells_of shape c 1) one
    | inr rest ↦ elim (or_cases second_way full_rows rest) [ inl two ↦ holder_among (cells_of shape c 2) two | inr rows ↦ holder_among (rows_of shape c) rows ]
  ]

-- ---- the clause

both_ways : (a b : Bool) → (a ≡ true → b ≡ true) → (b ≡ true → a ≡ true) → a ≡ b
both_ways true b f g = sym (f refl)
both_ways false true f g = g refl
both_ways false false f g = refl

same_holders : (shape : Shape) (f g : Place → Option Taking) (c : KeyView) (ps : List Place) → ((p : Place) → f p ≡ g p) → matches_among shape f c ps ≡ matches_among shape g c ps
same_holders shape f g c [] h = refl
same_holders shape f g c (p ∷ ps) h = rw (h p, same_holders shape f g c ps h) refl

-- an opener may be held by a clash where an entry that it matches stands, or was cleared at its start or later
pub clash_by : (shape : Shape) (before : List Line) (holds : Place → Option Taking) (c : KeyView) (start : ℕ) → Falls before → KeepsPlaces shape before
    → ((p : Place) → holds p ≡ taken before p) → (matches_now shape holds c || clears_lately shape before c start) ≡ may_clash shape before c start
unfolding clears_lately
clash_by shape before holds c start fall kept h =
    let now = matches_now shape (taken before) c in
    let late = list_any (clears_from shape c start) before in
    let same_now : matches_now shape holds c ≡ now = rw (
      same_holders shape holds (taken before) c (cells_of shape c 1) h,
      same_holders shape holds (taken before) c (cells_of shape c 2) h,
      same_holders shape holds (taken before) c (rows_of shape c) h,
    ) refl in
    ap (λ b. b || clears_lately shape before c start) same_now ∙ ap (λ b. now || b) (newest shape c start before fall)
    ∙ both_ways (now || late) (may_clash shape before c start)
    (λ e. elim (or_cases now late e) [
      | inl stood ↦
          let f = holder_now shape (taken before) c stood in
          reserved_against shape c f.key f.place start before before f.matches
          (stands start f.key f.place shape before fall kept ∙ or_left (has_key f.key (taken before f.place)) (list_any (clears_late start f.key f.place) before) f.has)
      | inr cleared ↦
          let f = find_cleared shape c start before cleared in
          reserved_against shape c f.key f.place start before before f.matches
          (stands start f.key f.place shape before fall kept ∙ or_right (has_key f.key (taken before f.place)) (list_any (clears_late start f.key f.place) before) f.cleared)
    ])
    (λ e.
    let f = find_reserved shape c start before before kept e in
    elim (or_cases (has_key f.key (taken before f.place)) (list_any (clears_late start f.key f.place) before) (sym (stands start f.key f.place shape before fall kept) ∙ f.reserved)) [
      | inl has ↦ or_left now late (matched shape (taken before) c f.key f.place f.own f.matches has)
      | inr cleared ↦ or_right now late (cleared_match shape c f.key f.place start before f.matches cleared)
    ])
