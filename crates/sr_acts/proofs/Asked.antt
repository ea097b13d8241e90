-- What was asked in vain stays so, as the book changes.
use Rattle.std.proofs.Common.{◌≡◌, ℕ, ◌+◌, ◌<◌, nat_le, Bool, true, false, cond, not, ◌&&◌, ◌||◌, List, [], ◌∷◌, ◌++◌, find, is_some, is_none, IfSome, Option, Some, None, if◌then◌else◌, refl, sym, ◌∙◌, ap, subst, true≢false, arith}
use Rattle.std.proofs.lemmas.Bool.{and_parts}
use Rattle.std.specs.List.{AllByRecursion}
use Rattle.std.specs.Option.{option_or}
use Rattle.std.specs.Prelude.{option_and_then}
use Rattle.sr_acts.proofs.Lists.{all_filter}
use Rattle.sr_acts.specs.Pending.{IsAsked, NoneBefore, SettlesInSlot, awaits, has_put}
use Rattle.sr_acts.specs.declared.awaiting.Awaiting.{Awaiting}
use Rattle.sr_acts.specs.declared.awaiting.Awaiting.TheVariants.{BeforeHold, BeforeFinish}
use Rattle.sr_base.proofs.Sameness.{same_key-true, same_key-self}
use Rattle.sr_base.specs.Key.{KeyView, same_key}
use Rattle.sr_base.specs.Layout.{LayoutView}
use Rattle.sr_base.specs.declared.place.Place.{Place}
use Rattle.sr_base.specs.declared.shape.Shape.{Shape}
use Rattle.sr_machine.specs.Starting.{first_put, pending_put, planned_put, put_of}
use Rattle.sr_machine.specs.declared.put.Aim.TheVariants as aim
use Rattle.sr_machine.specs.declared.put.Put.{Put}
use Rattle.sr_shadow.proofs.Finding.{found_passes}
use Rattle.sr_shadow.proofs.Holding.{found_own}
use Rattle.sr_shadow.proofs.Marking.{marked_plan}
use Rattle.sr_shadow.proofs.NewEntry.{no_room_more}
use Rattle.sr_shadow.proofs.Settling.{no_room_settled}
use Rattle.sr_shadow.specs.Book.{DistinctKeys, IsAlone, is_registered, pending_from, with_changed, with_closed, with_left, with_retired, with_settled, with_swept, with_taken}
use Rattle.sr_shadow.specs.Entry.{closed, fresh, is_of, is_pending, left_other, settled, swept}
use Rattle.sr_shadow.specs.Ledger.{LedgerView}
use Rattle.sr_shadow.specs.Plan.{IsUnplaced, KeepsPlaces, first_plan}
use Rattle.sr_shadow.specs.declared.book.Book.{Book}
use Rattle.sr_shadow.specs.declared.entry.Entry.{Entry}
use Rattle.sr_shadow.specs.declared.plan.Plan.{Plan}
use Rattle.sr_shadow.specs.declared.plan.Plan.TheVariants as plan

-- ---- who passes is pending

pub put_pends : (shape : Shape) (es : List Entry) (e : Entry) → has_put shape es e ≡ true → is_pending e ≡ true
put_pends shape es e = at (is_pending e)
  where
    at : (b : Bool) → is_some (if b then planned_put shape es e.key aim.Pending else None) ≡ true → b ≡ true
    at true h = refl
    at false h = cc

pub awaited_pends : (a : Awaiting) (e : Entry) → awaits a e ≡ true → is_pending e ≡ true
awaited_pends (BeforeHold vip mark) e h = (and_parts (is_pending e) (_) h).0
awaited_pends (BeforeFinish vip replaced) e h = (and_parts (is_pending e) (_) h).0

pub found_pending : (n : ℕ) (es : List Entry) (e : Entry) → pending_from n es ≡ Some e → is_pending e ≡ true
found_pending n es e q =
    (and_parts (nat_le n e.taken) (is_pending e) (found_passes (λ e. nat_le n e.taken && is_pending e) es e q)).1

-- a pending entry that was found is its key's, which has no Live place
pub found_unplaced : (n : ℕ) (es : List Entry) (e : Entry) → DistinctKeys es → pending_from n es ≡ Some e → IsUnplaced e.key es
found_unplaced n es e d q =
    subst (λ o. IfSome o (λ e. e.place ≡ None)) (sym (found_own (λ e. nat_le n e.taken && is_pending e) es e d q)) (at e.place ((and_parts (nat_le n e.taken) (is_pending e) (found_passes (λ e. nat_le n e.taken && is_pending e) es e q)).1))
  where
    at : (o : Option Place) → is_none o ≡ true → o ≡ None
    at None t = refl
    at (Some place) t = cc

-- ---- what a plan has to do with it

-- an entry without a put isn't pending, or its key has no plan
NoPut : Shape → List Entry → Entry → Type 0
NoPut shape es e = has_put shape es e ≡ false

no_plan : (key : KeyView) (pl : Plan) → is_some (put_of key aim.Pending pl) ≡ false → pl ≡ plan.NoRoom
no_plan key (plan.Slot place) h = cc
no_plan key (plan.Move other from to last) h = cc
no_plan key (plan.FullKey row) h = cc
no_plan key plan.NoRoom h = refl

-- a pending entry goes on without a plan, where its key does
still_none : (shape : Shape) (es fs : List Entry) (e f : Entry) → (is_pending f ≡ true → is_pending e ≡ true)
    → (is_pending f ≡ true → first_plan shape es e.key ≡ plan.NoRoom → first_plan shape fs f.key ≡ plan.NoRoom)
    → has_put shape es e ≡ false → has_put shape fs f ≡ false
still_none shape es fs e f pends plans h = at (is_pending f) refl
  where
    at : (b : Bool) → is_pending f ≡ b → is_some (if b then planned_put shape fs f.key aim.Pending else None) ≡ false
    at false q = refl
    at true q =
        let before : is_some (planned_put shape es e.key aim.Pending) ≡ false = subst (λ b. is_some (if b then planned_put shape es e.key aim.Pending else None) ≡ false) (pends q) h in
        ap (λ p. is_some (put_of f.key aim.Pending p)) (plans q (no_plan e.key (first_plan shape es e.key) before))

-- each entry of a changed list, where the facts of an entry go by
module _ (P Q : Entry → Type 0) (change : Entry → Entry) (key : KeyView) (own : (e : Entry) → is_of key e ≡ true → P e → Q (change e)) (other : (e : Entry) → is_of key e ≡ false → P e → Q e) where
  changed_each : (es : List Entry) → AllByRecursion P es → AllByRecursion Q (with_changed change key es)
  changed_each [] a = tt
  changed_each (e ∷ es) a = (at (is_of key e) refl, changed_each es a.1)
    where
      at : (b : Bool) → is_of key e ≡ b → Q (if b then change e else e)
      at true q = own e q a.0
      at false q = other e q a.0

-- ---- a key is taken

module _ (test more : Entry → Bool) (n : ℕ) (key : KeyView) (version : ℕ) (b : Book) (a : IsAsked test n b) (each : is_registered key b.entries ≡ false → AllByRecursion (λ e. test e ≡ false → more e ≡ false) b.entries) (same : is_registered key b.entries ≡ true → (e : Entry) → test e ≡ false → more e ≡ false) where
  both : (es : List Entry) → NoneBefore test n es → AllByRecursion (λ e. test e ≡ false → more e ≡ false) es → NoneBefore more n es
  both [] x y = tt
  both (e ∷ es) x y = (λ h. y.0 (x.0 h), both es x.1 y.1)

  keeps : (es : List Entry) → NoneBefore test n es → ((e : Entry) → test e ≡ false → more e ≡ false) → NoneBefore more n es
  keeps [] x y = tt
  keeps (e ∷ es) x y = (λ h. y e (x.0 h), keeps es x.1 y)

  one_more : (es : List Entry) → NoneBefore more n es → NoneBefore more n (es ++ fresh key version b.taken ∷ [])
  one_more [] x = (λ h. absurd (omega (arith, h, a.within)), tt)
  one_more (e ∷ es) x = (x.0, one_more es x.1)

  asked_taken : IsAsked more n (with_taken key version b)
  asked_taken = at (is_registered key b.entries) refl
    where
      at : (r : Bool) → is_registered key b.entries ≡ r
          → IsAsked more n (record { entries = if r then b.entries else (b.entries ++ fresh key version b.taken ∷ []); taken = if r then b.taken else (b.taken + 1) })
      at true q = record { within = a.within; none = keeps b.entries a.none (same q) }
      at false q = record { within = omega (arith, a.within); none = one_more b.entries (both b.entries a.none (each q)) }

-- a key that isn't registered is no entry's
none_of : (key : KeyView) (es : List Entry) → is_registered key es ≡ false → AllByRecursion (λ e. same_key e.key key ≡ false) es
none_of key [] h = tt
none_of key (e ∷ es) h = at (is_of key e) refl h (none_of key es)
  where
    turned : (a b : KeyView) → same_key a b ≡ false → same_key b a ≡ false
    turned a b q = by (same_key b a) refl
      where
        by : (r : Bool) → same_key b a ≡ r → same_key b a ≡ false
        by false t = t
        by true t = absurd (true≢false (sym (subst (λ z. same_key a z ≡ true) (sym (same_key-true b a t)) (same_key-self a)) ∙ q))

    at : (b : Bool) → is_of key e ≡ b → (b || is_registered key es) ≡ false
        → (is_registered key es ≡ false → AllByRecursion (λ e. same_key e.key key ≡ false) es)
        → AllByRecursion (λ e. same_key e.key key ≡ false) (e ∷ es)
    at true q r more = cc
    at false q r more = (turned key e.key q, more r)

each_of : (P Q : Entry → Type 0) → ((e : Entry) → P e → Q e) → (es : List Entry) → AllByRecursion P es → AllByRecursion Q es
each_of P Q h [] a = tt
each_of P Q h (e ∷ es) a = (h e a.0, each_of P Q h es a.1)

with_taken_entries : (key : KeyView) (version : ℕ) (b : Book) → List Entry
with_taken_entries key version b = (with_taken key version b).entries

pub planned_taken : (shape : Shape) (n : ℕ) (key : KeyView) (version : ℕ) (b : Book) → IsAsked (has_put shape b.entries) n b
    → IsAsked (has_put shape (with_taken key version b).entries) n (with_taken key version b)
planned_taken shape n key version b a =
    asked_taken (has_put shape b.entries) (has_put shape (with_taken key version b).entries) n key version b a each same
  where
    each : is_registered key b.entries ≡ false
        → AllByRecursion (λ e. has_put shape b.entries e ≡ false → has_put shape (with_taken key version b).entries e ≡ false) b.entries
    each q =
        subst (λ r. AllByRecursion (λ e. has_put shape b.entries e ≡ false → has_put shape (if r then b.entries else (b.entries ++ fresh key version b.taken ∷ [])) e ≡ false) b.entries) (sym q)
        (each_of (λ e. same_key e.key key ≡ false) (λ e. has_put shape b.entries e ≡ false → has_put shape (b.entries ++ fresh key version b.taken ∷ []) e ≡ false)
        (λ e apart. still_none shape b.entries (b.entries ++ fresh key version b.taken ∷ []) e e (λ p. p) (λ p none. no_room_more shape b.entries e.key key version b.taken apart q none)) b.entries (none_of key b.entries q))

    same : is_registered key b.entries ≡ true → (e : Entry) → has_put shape b.entries e ≡ false → has_put shape (with_taken key version b).entries e ≡ false
    same q e h = subst (λ r. has_put shape (if r then b.entries else (b.entries ++ fresh key version b.taken ∷ [])) e ≡ false) (sym q) h

pub awaited_taken : (t : Awaiting) (n : ℕ) (key : KeyView) (version : ℕ) (b : Book) → IsAsked (awaits t) n b → IsAsked (awaits t) n (with_taken key version b)
awaited_taken t n key version b a =
    asked_taken (awaits t) (awaits t) n key version b a (λ q. each_of (λ e. Unit {0}) (λ e. awaits t e ≡ false → awaits t e ≡ false) (λ e u h. h) b.entries (units b.entries)) (λ q e h. h)
  where
    units : (es : List Entry) → AllByRecursion (λ e. Unit {0}) es
    units [] = tt
    units (e ∷ es) = (tt, units es)

-- ---- the key's entry changes

-- what a change leaves of an entry
pub record Leaves (e f : Entry) : Type 0 where
  pub places : KeepsPlaces e f
  pub version : f.version ≡ e.version
  pub taken : f.taken ≡ e.taken

pub planned_changed : (shape : Shape) (n : ℕ) (change : Entry → Entry) (key : KeyView) (b : Book) → ((e : Entry) → Leaves e (change e))
    → IsAsked (has_put shape b.entries) n b
    → IsAsked (has_put shape (with_changed change key b.entries)) n (record b { entries = with_changed change key b.entries })
planned_changed shape n change key b same a = record {
  within = a.within;
  none = changed_each (λ e. e.taken < n → has_put shape b.entries e ≡ false) (λ e. e.taken < n → has_put shape (with_changed change key b.entries) e ≡ false) change key
      (λ e q h g. still_none shape b.entries (with_changed change key b.entries) e (change e) (λ p. sym (ap is_none (same e).places.place) ∙ p) (λ p none. ap (first_plan shape (with_changed change key b.entries)) (same e).places.key ∙ (marked_plan shape b.entries change key e.key (λ e. (same e).places) ∙ none)) (h (subst (λ m. m < n) (same e).taken g)))
      (λ e q h g. still_none shape b.entries (with_changed change key b.entries) e e (λ p. p) (λ p none. marked_plan shape b.entries change key e.key (λ e. (same e).places) ∙ none) (h g))
      b.entries a.none;
}

-- a pending key settles in a slot
pub planned_settled : (shape : Shape) (n : ℕ) (key : KeyView) (place : Place) (b : Book) → DistinctKeys b.entries → IsAlone key b.entries
    → SettlesInSlot key place b.entries → IsAsked (has_put shape b.entries) n b
    → IsAsked (has_put shape (with_settled key place b).entries) n (with_settled key place b)
planned_settled shape n key place b d alone s a = record {
  within = a.within;
  none = changed_each (λ e. e.taken < n → has_put shape b.entries e ≡ false) (λ e. e.taken < n → has_put shape (with_changed (settled place) key b.entries) e ≡ false) (settled place) key
      (λ e q h g. refl)
      (λ e q h g. still_none shape b.entries (with_changed (settled place) key b.entries) e e (λ p. p) (λ p none. no_room_settled shape b.entries key e.key place s.0 d s.1 s.2 (alone s.0 s.1) s.3 q none) (h g))
      b.entries a.none;
}

-- an update waits for no more keys than before
module _ (t : Awaiting) (n : ℕ) (change : Entry → Entry) (key : KeyView) (b : Book) (fewer : (e : Entry) → awaits t e ≡ false → awaits t (change e) ≡ false) (numbers : (e : Entry) → (change e).taken ≡ e.taken) (a : IsAsked (awaits t) n b) where
  pub awaited_changed : IsAsked (awaits t) n (record b { entries = with_changed change key b.entries })
  awaited_changed = record {
    within = a.within;
    none = changed_each (λ e. e.taken < n → awaits t e ≡ false) (λ e. e.taken < n → awaits t e ≡ false) change key (λ e q h g. fewer e (h (subst (λ m. m < n) (numbers e) g))) (λ e q h g. h g) b.entries a.none;
  }

pub awaited_closed : (t : Awaiting) (n : ℕ) (key : KeyView) (b : Book) → IsAsked (awaits t) n b → IsAsked (awaits t) n (with_closed key b)
awaited_closed t n key b a = awaited_changed t n closed key b (fewer t) (λ e. refl) a
  where
    fewer : (t : Awaiting) (e : Entry) → awaits t e ≡ false → awaits t (closed e) ≡ false
    fewer (BeforeHold vip mark) e h = h
    fewer (BeforeFinish vip replaced) e h = h

pub awaited_swept : (t : Awaiting) (n : ℕ) (key : KeyView) (hit : Bool) (b : Book) → IsAsked (awaits t) n b → IsAsked (awaits t) n (with_swept key hit b)
awaited_swept t n key hit b a = awaited_changed t n (swept hit) key b (fewer t) (λ e. refl) a
  where
    fewer : (t : Awaiting) (e : Entry) → awaits t e ≡ false → awaits t (swept hit e) ≡ false
    fewer (BeforeHold vip mark) e h = h
    fewer (BeforeFinish vip replaced) e h = h

pub awaited_left : (t : Awaiting) (n : ℕ) (key : KeyView) (b : Book) → IsAsked (awaits t) n b → IsAsked (awaits t) n (with_left key b)
awaited_left t n key b a = awaited_changed t n left_other key b (fewer t) (λ e. refl) a
  where
    fewer : (t : Awaiting) (e : Entry) → awaits t e ≡ false → awaits t (left_other e) ≡ false
    fewer (BeforeHold vip mark) e h = h
    fewer (BeforeFinish vip replaced) e h = h

pub awaited_settled : (t : Awaiting) (n : ℕ) (key : KeyView) (place : Place) (b : Book) → IsAsked (awaits t) n b → IsAsked (awaits t) n (with_settled key place b)
awaited_settled t n key place b a = awaited_changed t n (settled place) key b (fewer t) (λ e. refl) a
  where
    fewer : (t : Awaiting) (e : Entry) → awaits t e ≡ false → awaits t (settled place e) ≡ false
    fewer (BeforeHold vip mark) e h = refl
    fewer (BeforeFinish vip replaced) e h = refl

pub awaited_retired : (t : Awaiting) (n : ℕ) (key : KeyView) (b : Book) → IsAsked (awaits t) n b → IsAsked (awaits t) n (with_retired key b)
awaited_retired t n key b a = record {
  within = a.within;
  none = all_filter (λ e. e.taken < n → awaits t e ≡ false) (λ e. not (is_of key e)) b.entries a.none;
}

-- ---- the first put

-- the first put is that of the first entry that has one
pub first_put_found : (shape : Shape) (es xs : List Entry) → first_put shape es xs ≡ option_and_then (pending_put shape es) (find (has_put shape es) xs)
first_put_found shape es [] = refl
first_put_found shape es (e ∷ xs) = at (pending_put shape es e) refl (first_put_found shape es xs)
  where
    at : (o : Option Put) → pending_put shape es e ≡ o
        → first_put shape es xs ≡ option_and_then (pending_put shape es) (find (has_put shape es) xs)
        → option_or o (first_put shape es xs) ≡ option_and_then (pending_put shape es) (cond (is_some o) (Some e) (find (has_put shape es) xs))
    at None q more = more
    at (Some p) q more = sym q

-- and the put of a pending entry that of its key
pub put_of_found : (shape : Shape) (es : List Entry) (e : Entry) → is_pending e ≡ true → pending_put shape es e ≡ planned_put shape es e.key aim.Pending
put_of_found shape es e q = ap (λ b. if b then planned_put shape es e.key aim.Pending else None) q

-- ---- the planned book

-- the ledger has this book now, of which the same was asked in vain
pub planned_still : (old new : LedgerView) (layout : LayoutView) (n u : ℕ) (t : Awaiting) (b : Book) → old.layout ≡ layout → new.layout ≡ old.layout
    → new.book ≡ b → IsAsked (has_put layout.shape b.entries) n b → IsAsked (awaits t) u b
    → (new.layout ≡ layout) × IsAsked (has_put layout.shape new.book.entries) n new.book × IsAsked (awaits t) u new.book
planned_still old new layout n u t b made same is p a =
    (same ∙ made, subst (λ (z : Book). IsAsked (has_put layout.shape z.entries) n z) (sym is) p, subst (λ (z : Book). IsAsked (awaits t) u z) (sym is) a)
