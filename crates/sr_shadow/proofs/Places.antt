-- Who holds a place, around an entry; and steps of the table of holders.
use Rattle.std.proofs.Common.{◌≡◌, ℕ, ◌+◌, ◌*◌, ◌-◌, ◌<◌, ◌≤◌, Bool, true, false, cond, List, [], ◌∷◌, ◌++◌, length, set, get_or, find, sum_by, Option, None, Some, is_some, option_map, refl, sym, ◌∙◌, ap, subst, true≢false, eqb, arith}
use Rattle.std.proofs.lemmas.Bool.Decides.{nat_tests}
use Rattle.std.proofs.lemmas.Grind.{common_steps}
use Rattle.std.proofs.lemmas.List.Folds.{find-append}
use Rattle.std.proofs.lemmas.List.Sums.{sum_by-append, sum_by-cons}
use Rattle.sr_base.specs.Key.{KeyView}
use Rattle.sr_base.specs.Layout.{LayoutView}
use Rattle.sr_base.specs.Place.{same_place}
use Rattle.sr_base.specs.WordName.{HasPlace, HasWord, NamesApart, entries_of, entry_number, place_of}
use Rattle.sr_base.specs.declared.place.Place.{Place}
use Rattle.sr_base.specs.declared.place.Place.TheVariants.{Slot, Row}
use Rattle.sr_base.specs.declared.shape.Shape.{Shape}
use Rattle.sr_base.specs.declared.word_name.WordName.{WordName}
use Rattle.sr_base.specs.declared.word_name.WordName.TheVariants as word
use Rattle.sr_shadow.specs.Book.{holder_of, HeldOnce}
use Rattle.sr_shadow.specs.Entry.{holds, times_held, is_at, settled, left_other}
use Rattle.sr_shadow.specs.Holders.{IsHolderTable, name_of}
use Rattle.sr_shadow.specs.declared.entry.Entry.{Entry}
use Rattle.sr_base.proofs.Sameness.{same_place-true, same_place-self}

-- a layout's places have numbers of their own, below the number of them all
slot_below : (buckets way bucket cell : ℕ) → 1 ≤ way → way ≤ 2 → bucket < buckets → cell < 4 → ((way - 1) * buckets + bucket) * 4 + cell < 8 * buckets
slot_below buckets way bucket cell low high hb hc = by (eqb way 1) refl
  where
    by : (b : Bool) → eqb way 1 ≡ b → ((way - 1) * buckets + bucket) * 4 + cell < 8 * buckets
    by true t = let one : way - 1 ≡ 0 = grind (arith, nat_tests) in rw one (omega (arith, hb, hc))
    by false t = let one : way - 1 ≡ 1 = grind (arith, nat_tests) in rw one (omega (arith, hb, hc))

pub number_below : (shape : Shape) (place : Place) → HasPlace shape place → entry_number shape place < entries_of shape
number_below shape (Slot way bucket cell) h = let s = slot_below shape.buckets way bucket cell h.0 h.1 h.2 h.3 in omega (arith, s)
number_below shape (Row row) h = omega (arith, h)

sum_split : (f : Entry → ℕ) (front back : List Entry) (e : Entry) → sum_by f (front ++ e ∷ back) ≡ sum_by f front + (f e + sum_by f back)
sum_split f front back e = sum_by-append f front (e ∷ back) ∙ ap (λ n. sum_by f front + n) (sum_by-cons f e back)

-- nobody holds a place that is held no time, and the other way round
none_found : (place : Place) (es : List Entry) → find (holds place) es ≡ None → sum_by (times_held place) es ≡ 0
none_found place [] h = refl
none_found place (e ∷ es) h = grind (arith, nat_tests, none_found place es, sum_by-cons (times_held place) e es)

none_counted : (place : Place) (es : List Entry) → sum_by (times_held place) es ≡ 0 → find (holds place) es ≡ None
none_counted place [] h = refl
none_counted place (e ∷ es) h = grind (arith, nat_tests, none_counted place es, sum_by-cons (times_held place) e es)

-- where a place is held once, it is held by the entry in the middle or by one of the others
pub holder_split : (place : Place) (front back : List Entry) (e : Entry) → HeldOnce (front ++ e ∷ back)
    → holder_of place (front ++ e ∷ back) ≡ cond (holds place e) (Some e.key) (holder_of place (front ++ back))
holder_split place front back e once = by (holds place e) refl
  where
    by : (b : Bool) → holds place e ≡ b → holder_of place (front ++ e ∷ back) ≡ cond b (Some e.key) (holder_of place (front ++ back))
    by true t =
        let none : find (holds place) front ≡ None = none_counted place front (grind (arith, once place, sum_split (times_held place) front back e, t)) in
        grind (arith, t, none, find-append (holds place) front (e ∷ back))
    by false t = grind (arith, t, find-append (holds place) front (e ∷ back), find-append (holds place) front back)

pub held_elsewhere : (place : Place) (front back : List Entry) (e : Entry) → HeldOnce (front ++ e ∷ back) → holds place e ≡ true → holder_of place (front ++ back) ≡ None
held_elsewhere place front back e once t =
    ap (option_map (λ x. x.key)) (none_counted place (front ++ back) (grind (arith, once place, sum_split (times_held place) front back e, sum_by-append (times_held place) front back, t)))

pub none_holds : (place : Place) (es : List Entry) → holder_of place es ≡ None → sum_by (times_held place) es ≡ 0
none_holds place es h = none_found place es (by (find (holds place) es) h)
  where
    by : (r : Option Entry) → option_map (λ x. x.key) r ≡ None → r ≡ None
    by None p = refl
    by (Some x) p = absurd (true≢false (ap is_some p))

-- a place that nobody held, held by an entry that moves there
pub once_settled : (place : Place) (front back : List Entry) (e : Entry) → HeldOnce (front ++ e ∷ back) → e.also ≡ None → holder_of place (front ++ e ∷ back) ≡ None
    → HeldOnce (front ++ settled place e ∷ back)
once_settled place front back e once alone free other = by (same_place other place) refl
  where
    by : (b : Bool) → same_place other place ≡ b → sum_by (times_held other) (front ++ settled place e ∷ back) ≤ 1
    by true t =
        let it : other ≡ place = same_place-true other place t in
        let zero : sum_by (times_held other) (front ++ e ∷ back) ≡ 0 = subst (λ p. sum_by (times_held p) (front ++ e ∷ back) ≡ 0) (sym it) (none_holds place (front ++ e ∷ back) free) in
        grind (arith, zero, sum_split (times_held other) front back e, sum_split (times_held other) front back (settled place e))
    by false t =
        grind (arith, once other, t, alone, sum_split (times_held other) front back e, sum_split (times_held other) front back (settled place e))

pub holder_settled : (place : Place) (front back : List Entry) (e : Entry) → HeldOnce (front ++ e ∷ back) → e.also ≡ None → holder_of place (front ++ e ∷ back) ≡ None
    → (other : Place) → holder_of other (front ++ settled place e ∷ back) ≡ cond (same_place other place) (Some e.key) (holder_of other (front ++ e ∷ back))
holder_settled place front back e once alone free other =
    grind (arith, holder_split other front back e once, holder_split other front back (settled place e) (once_settled place front back e once alone free), alone)

-- fewer places held
pub once_less : (front back : List Entry) (e f : Entry) → HeldOnce (front ++ e ∷ back) → ((place : Place) → times_held place f ≤ times_held place e) → HeldOnce (front ++ f ∷ back)
once_less front back e f once fewer place = omega (arith, once place, fewer place, sum_split (times_held place) front back e, sum_split (times_held place) front back f)

pub once_without : (front back : List Entry) (e : Entry) → HeldOnce (front ++ e ∷ back) → HeldOnce (front ++ back)
once_without front back e once place = grind (arith, once place, sum_split (times_held place) front back e, sum_by-append (times_held place) front back)

left_holds : (e : Entry) (place : Place) → times_held place (left_other e) ≤ times_held place e
left_holds e place = grind arith

pub once_left : (front back : List Entry) (e : Entry) → HeldOnce (front ++ e ∷ back) → HeldOnce (front ++ left_other e ∷ back)
once_left front back e once = once_less front back e (left_other e) once (left_holds e)

-- an entry that gives up its other place
pub holder_left : (front back : List Entry) (e : Entry) → HeldOnce (front ++ e ∷ back)
    → (other : Place) → holder_of other (front ++ left_other e ∷ back) ≡ cond (is_at other e.also) None (holder_of other (front ++ e ∷ back))
holder_left front back e once other = by (is_at other e.also) refl
  where
    by : (b : Bool) → is_at other e.also ≡ b → holder_of other (front ++ left_other e ∷ back) ≡ cond b None (holder_of other (front ++ e ∷ back))
    by true mine =
        let alone : is_at other e.place ≡ false = grind (arith, once other, mine, sum_split (times_held other) front back e) in
        let gone : holder_of other (front ++ back) ≡ None = held_elsewhere other front back e once (grind (arith, mine)) in
        grind (arith, holder_split other front back (left_other e) (once_left front back e once), alone, gone)
    by false none = grind (arith, none, holder_split other front back e once, holder_split other front back (left_other e) (once_left front back e once))

-- an entry that has left its other place, and goes from its own
pub holder_gone : (e : Entry) (front back : List Entry) → HeldOnce (front ++ e ∷ back)
    → (other : Place) → holder_of other (front ++ back) ≡ cond (is_at other e.place) None (holder_of other (front ++ left_other e ∷ back))
holder_gone e front back once other = by (is_at other e.place) refl
  where
    left : HeldOnce (front ++ left_other e ∷ back)
    left = once_left front back e once

    by : (b : Bool) → is_at other e.place ≡ b → holder_of other (front ++ back) ≡ cond b None (holder_of other (front ++ left_other e ∷ back))
    by true mine = held_elsewhere other front back (left_other e) left (grind (arith, mine))
    by false none = grind (arith, none, holder_split other front back (left_other e) left)

-- an entry in the place of another with the same key and places
pub holder_same : (place : Place) (front back : List Entry) (e f : Entry) → f.key ≡ e.key → f.place ≡ e.place → f.also ≡ e.also
    → holder_of place (front ++ f ∷ back) ≡ holder_of place (front ++ e ∷ back)
holder_same place front back e f key at also = by (find (holds place) front) refl
  where
    mine : holds place f ≡ holds place e
    mine = rw (at, also) refl

    by : (r : Option Entry) → find (holds place) front ≡ r → holder_of place (front ++ f ∷ back) ≡ holder_of place (front ++ e ∷ back)
    by None r = grind (arith, find-append (holds place) front (f ∷ back), find-append (holds place) front (e ∷ back), mine, key, r)
    by (Some x) r = grind (arith, find-append (holds place) front (f ∷ back), find-append (holds place) front (e ∷ back), mine, key, r)

-- a new last entry has no place
pub holder_more : (place : Place) (es : List Entry) (e : Entry) → e.place ≡ None → e.also ≡ None → holder_of place (es ++ e ∷ []) ≡ holder_of place es
holder_more place es e at also = by (find (holds place) es) refl
  where
    by : (r : Option Entry) → find (holds place) es ≡ r → holder_of place (es ++ e ∷ []) ≡ holder_of place es
    by None r = grind (arith, find-append (holds place) es (e ∷ []), at, also, r)
    by (Some x) r = grind (arith, find-append (holds place) es (e ∷ []), at, also, r)

pub once_more : (es : List Entry) (e : Entry) → e.place ≡ None → e.also ≡ None → HeldOnce es → HeldOnce (es ++ e ∷ [])
once_more es e at also once place = grind (arith, once place, sum_split (times_held place) es [] e, at, also)

-- different numbers, different places
apart_places : (shape : Shape) (a b : Place) → eqb (entry_number shape a) (entry_number shape b) ≡ false → same_place a b ≡ false
apart_places shape a b t = by (same_place a b) refl
  where
    by : (r : Bool) → same_place a b ≡ r → r ≡ false
    by true s = let one : entry_number shape a ≡ entry_number shape b = ap (entry_number shape) (same_place-true a b s) in grind (arith, nat_tests, one, t)
    by false s = refl

-- a step of the table at one place
pub held_put : (shape : Shape) (place : Place) (v : Option KeyView) (table : List (Option KeyView)) (old new : List Entry)
    → ((a b : Place) → HasPlace shape a → HasPlace shape b → entry_number shape a ≡ entry_number shape b → a ≡ b)
    → HasPlace shape place → ((other : Place) → holder_of other new ≡ cond (same_place other place) v (holder_of other old))
    → IsHolderTable shape table old → IsHolderTable shape (set table (entry_number shape place) v) new
held_put shape place v table old new apart has step h = record { size = grind (arith, common_steps, h.size); told = told }
  where
    told : (other : Place) → HasPlace shape other → get_or (set table (entry_number shape place) v) (entry_number shape other) None ≡ holder_of other new
    told other is = by (eqb (entry_number shape other) (entry_number shape place)) refl ∙ sym (step other)
      where
        by : (b : Bool) → eqb (entry_number shape other) (entry_number shape place) ≡ b
            → get_or (set table (entry_number shape place) v) (entry_number shape other) None ≡ cond (same_place other place) v (holder_of other old)
        by true t =
            let one : entry_number shape other ≡ entry_number shape place = grind (arith, nat_tests, t) in
            let it : other ≡ place = apart other place is has one in
            let yes : same_place other place ≡ true = subst (λ p. same_place p place ≡ true) (sym it) (same_place-self place) in
            let low : entry_number shape place < length table = omega (arith, h.size, number_below shape place has) in
            grind (arith, common_steps, one, yes, low)
        by false t =
            let two : same_place other place ≡ false = apart_places shape other place t in
            grind (arith, common_steps, nat_tests, t, two, h.told other is)

-- places with one number are one, since the names of their words are
place_in : WordName → Place
place_in (word.Slot way bucket cell) = Slot way bucket cell
place_in (word.Full row) = Row row
place_in word.Tick = Row 0
place_in (word.Note pipe) = Row 0
place_in (word.Ring pipe cell) = Row 0
place_in (word.Hit at) = Row 0
place_in (word.Vip vip) = Row 0
place_in (word.Head vip version) = Row 0
place_in (word.Member vip version index) = Row 0
place_in (word.Down server) = Row 0
place_in (word.Filter index) = Row 0

places_apart : (l : LayoutView) → NamesApart l → (a b : Place) → HasPlace l.shape a → HasPlace l.shape b → entry_number l.shape a ≡ entry_number l.shape b → a ≡ b
unfolding place_in
places_apart l apart (Slot w b c) (Slot v d e) ha hb same = ap place_in (apart (word.Slot w b c) (word.Slot v d e) ha hb same)
places_apart l apart (Slot w b c) (Row r) ha hb same = ap place_in (apart (word.Slot w b c) (word.Full r) ha hb same)
places_apart l apart (Row r) (Slot w b c) ha hb same = ap place_in (apart (word.Full r) (word.Slot w b c) ha hb same)
places_apart l apart (Row r) (Row s) ha hb same = ap place_in (apart (word.Full r) (word.Full s) ha hb same)

-- a step of the table at a place of the layout, and at another
pub put_inside : (l : LayoutView) (place : Place) (at : ℕ) (v : Option KeyView) (table : List (Option KeyView)) (old new : List Entry) → NamesApart l
    → HasPlace l.shape place → at ≡ entry_number l.shape place → ((other : Place) → holder_of other new ≡ cond (same_place other place) v (holder_of other old))
    → IsHolderTable l.shape table old → IsHolderTable l.shape (set table at v) new
put_inside l place at v table old new apart has is step h =
    subst (λ n. IsHolderTable l.shape (set table n v) new) (sym is) (held_put l.shape place v table old new (places_apart l apart) has step h)

pub put_outside : (shape : Shape) (place : Place) (v : Option KeyView) (table : List (Option KeyView)) (old new : List Entry)
    → ¬ (HasPlace shape place) → ((other : Place) → holder_of other new ≡ cond (same_place other place) v (holder_of other old))
    → IsHolderTable shape table old → IsHolderTable shape table new
put_outside shape place v table old new hasnt step h = record { size = h.size; told = λ other is. h.told other is ∙ by other is (same_place other place) refl ∙ sym (step other) }
  where
    by : (other : Place) → HasPlace shape other → (b : Bool) → same_place other place ≡ b → holder_of other old ≡ cond (same_place other place) v (holder_of other old)
    by other is true t = absurd (hasnt (subst (HasPlace shape) (same_place-true other place t) is))
    by other is false t = ap (λ c. cond c v (holder_of other old)) (sym t)

-- where the name of a place's word leads
pub cell_found : (l : LayoutView) (place : Place) (name : WordName) (at : ℕ) → name ≡ name_of place → HasWord l name → at ≡ place_of l name
    → HasPlace l.shape place × (at ≡ entry_number l.shape place) × (at < entries_of l.shape)
cell_found l (Slot way bucket cell) name at named has is =
    let own : HasPlace l.shape (Slot way bucket cell) = subst (HasWord l) named has in
    let one : at ≡ entry_number l.shape (Slot way bucket cell) = is ∙ ap (place_of l) named in
    (own, one, omega (arith, one, number_below l.shape (Slot way bucket cell) own))
cell_found l (Row row) name at named has is =
    let own : HasPlace l.shape (Row row) = subst (HasWord l) named has in
    let one : at ≡ entry_number l.shape (Row row) = is ∙ ap (place_of l) named in
    (own, one, omega (arith, one, number_below l.shape (Row row) own))

-- lists with the same holders have one table
pub held_alike : (shape : Shape) (table : List (Option KeyView)) (old new : List Entry) → ((other : Place) → holder_of other new ≡ holder_of other old) → IsHolderTable shape table old → IsHolderTable shape table new
held_alike shape table old new same h = record { size = h.size; told = λ place has. h.told place has ∙ sym (same place) }
