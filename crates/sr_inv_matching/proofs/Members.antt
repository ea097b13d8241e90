-- The entries of a book as members of a list, and where they stood before it changed.
use Rattle.std.proofs.Common.{◌≡◌, ℕ, Bool, true, false, true≢false, cond, not, ◌||◌, ◌⊎◌, List, [], ◌∷◌, ◌++◌, map, filter, find, if◌then◌else◌, Some, None, Option, sym, refl, ap, ◌∙◌, subst, inl, inr}
use Rattle.std.proofs.lemmas.Option.{same_Some}
use Rattle.sr_base.proofs.Sameness.{same_key-self, same_key-true}
use Rattle.sr_base.specs.Key.{KeyView, same_key}
use Rattle.sr_base.specs.Layout.{LayoutView}
use Rattle.sr_base.specs.declared.place.Place.{Place}
use Rattle.std.specs.List.{list_any}
use Rattle.sr_inv_facts.proofs.Books.{field_kept, found_key}
use Rattle.sr_inv_facts.proofs.Taking.{TakesBook, closed_book, learned_book, same_book}
use Rattle.sr_inv_facts.specs.Readings.{In}
use Rattle.sr_shadow.specs.Book.{DistinctKeys, entries_with, entry_for, is_registered, with_changed, without_key}
use Rattle.sr_shadow.specs.Entry.{closed, fresh, is_of, settled}
use Rattle.sr_shadow.specs.declared.book.Book.{Book}
use Rattle.sr_shadow.specs.declared.entry.Entry.{Entry}
use Rattle.sr_update.specs.Numbers.{NumberRows}

-- ---- members

pub in_found : (test : Entry → Bool) (es : List Entry) (e : Entry) → find test es ≡ Some e → In e es
in_found test [] e q = cc
in_found test (x ∷ es) e q = at (test x) q (in_found test es e)
  where
    at : (b : Bool) → cond b (Some x) (find test es) ≡ Some e → (find test es ≡ Some e → In e es) → In e (x ∷ es)
    at true f more = inl (sym (same_Some x e f))
    at false f more = inr (more f)

in_registered : (es : List Entry) (e : Entry) → In e es → is_registered e.key es ≡ true
in_registered [] e i = absurd i
in_registered (x ∷ es) e (inl q) = ap (λ y. same_key e.key y.key || is_registered e.key es) (sym q) ∙ ap (λ b. b || is_registered e.key es) (same_key-self e.key)
in_registered (x ∷ es) e (inr i) = ap (λ b. is_of e.key x || b) (in_registered es e i) ∙ by (is_of e.key x)
  where
    by : (b : Bool) → (b || true) ≡ true
    by true = refl
    by false = refl

-- where keys differ, a member is its key's entry
pub in_own : (es : List Entry) (e : Entry) → DistinctKeys es → In e es → entry_for e.key es ≡ Some e
in_own [] e d i = absurd i
in_own (x ∷ es) e d (inl q) =
    ap (λ b. cond b (Some x) (entry_for e.key es)) (ap (λ y. same_key e.key y.key) (sym q) ∙ same_key-self e.key) ∙ ap Some (sym q)
in_own (x ∷ es) e d (inr i) = at (is_of e.key x) refl (in_own es e d.1 i)
  where
    at : (b : Bool) → is_of e.key x ≡ b → entry_for e.key es ≡ Some e → cond b (Some x) (entry_for e.key es) ≡ Some e
    at true t r =
        let same : e.key ≡ x.key = same_key-true e.key x.key t in
        absurd (true≢false (sym (in_registered es e i) ∙ (ap (λ k. is_registered k es) same ∙ d.0)))
    at false t r = r

pub in_mapped : (g : Entry → Entry) (es : List Entry) (f : Entry) → In f (map g es) → (e : Entry) × In e es × (f ≡ g e)
in_mapped g [] f i = absurd i
in_mapped g (x ∷ es) f (inl q) = (x, inl refl, q)
in_mapped g (x ∷ es) f (inr i) = let r = in_mapped g es f i in (r.0, inr r.1, r.2)

pub in_filtered : (test : Entry → Bool) (es : List Entry) (f : Entry) → In f (filter test es) → In f es
in_filtered test [] f i = absurd i
in_filtered test (x ∷ es) f i = at (test x) i (in_filtered test es f)
  where
    at : (b : Bool) → In f (cond b (x ∷ filter test es) (filter test es)) → (In f (filter test es) → In f es) → In f (x ∷ es)
    at true (inl q) more = inl q
    at true (inr j) more = inr (more j)
    at false j more = inr (more j)

pub in_parts : (xs ys : List Entry) (f : Entry) → In f (xs ++ ys) → In f xs ⊎ In f ys
in_parts [] ys f i = inr i
in_parts (x ∷ xs) ys f (inl q) = inl (inl q)
in_parts (x ∷ xs) ys f (inr i) = at (in_parts xs ys f i)
  where
    at : In f xs ⊎ In f ys → In f (x ∷ xs) ⊎ In f ys
    at (inl j) = inl (inr j)
    at (inr j) = inr j

-- ---- where an entry stood

-- an entry of the key stood there
pub record Stood (es : List Entry) (key : KeyView) (place : Place) : Type 0 where
  pub entry : Entry
  pub member : In entry es
  pub own : entry.key ≡ key
  pub stands : entry.place ≡ Some place

-- each entry that stands somewhere stood there before
abbrev pub Stays : List Entry → List Entry → Type 0
Stays es fs = (f : Entry) → In f fs → (place : Place) → f.place ≡ Some place → Stood es f.key place

pub stays_self : (es : List Entry) → Stays es es
stays_self es f i place q = record { entry = f; member = i; own = refl; stands = q }

pub stays_changed : (change : Entry → Entry) → ((e : Entry) → (change e).key ≡ e.key) → ((e : Entry) → (change e).place ≡ e.place)
    → (key : KeyView) (es : List Entry) → Stays es (with_changed change key es)
stays_changed change keys places key es f i place q =
    let r = in_mapped (λ e. if is_of key e then change e else e) es f i in
    record {
      entry = r.0;
      member = r.1;
      own = sym (ap (λ e. e.key) r.2 ∙ field_kept (λ e. e.key) change keys key r.0);
      stands = sym (ap (λ e. e.place) r.2 ∙ field_kept (λ e. e.place) change places key r.0) ∙ q;
    }

pub stays_without : (key : KeyView) (es : List Entry) → Stays es (without_key key es)
stays_without key es f i place q =
    record { entry = f; member = in_filtered (λ e. not (is_of key e)) es f i; own = refl; stands = q }

pub stays_new : (key : KeyView) (version taken : ℕ) (es : List Entry) → Stays es (es ++ fresh key version taken ∷ [])
stays_new key version taken es f i place q = at (in_parts es (fresh key version taken ∷ []) f i)
  where
    none : (f : Entry) → f ≡ fresh key version taken → f.place ≡ Some place → ⊥
    none f e t = let n : None ≡ Some place = sym (ap (λ z. z.place) e) ∙ t in cc n

    at : In f es ⊎ In f (fresh key version taken ∷ []) → Stood es f.key place
    at (inl j) = record { entry = f; member = j; own = refl; stands = q }
    at (inr (inl e)) = absurd (none f e q)
    at (inr (inr e)) = absurd e

pub stays_take : (l : LayoutView) (numbers : NumberRows) (ended : Option KeyView) (x : ℕ) (b d : Book) → TakesBook l numbers ended x b d
    → Stays b.entries d.entries
stays_take l numbers ended x b d (same_book u) = stays_self b.entries
stays_take l numbers ended x b d (learned_book w q r s f) = stays_new w.key w.version b.taken b.entries
stays_take l numbers ended x b d (closed_book w q r s) = stays_changed closed (λ e. refl) (λ e. refl) w.key b.entries

-- once a key is made live somewhere, the others stand where they stood
pub stays_judged : (key : KeyView) (at : Place) (version taken : ℕ) (es : List Entry) (f : Entry)
    → In f (with_changed (settled at) key (entries_with key version taken es)) → (place : Place) → f.place ≡ Some place
    → Stood es f.key place ⊎ (f.key ≡ key)
stays_judged key at version taken es f i place q = by (in_mapped (λ e. if is_of key e then settled at e else e) (entries_with key version taken es) f i)
  where
    two : (b : Bool) (e : Entry) → In e (if b then es else (es ++ fresh key version taken ∷ [])) → e.key ≡ f.key → e.place ≡ Some place → Stood es f.key place
    two true e m o t = record { entry = e; member = m; own = o; stands = t }
    two false e m o t = subst (λ k. Stood es k place) o (stays_new key version taken es e m place t)

    turn : (e : Entry) (b : Bool) → is_of key e ≡ b → In e (entries_with key version taken es) → f ≡ (if b then settled at e else e) → Stood es f.key place ⊎ (f.key ≡ key)
    turn e true t m r = inr (ap (λ z. z.key) r ∙ sym (same_key-true key e.key t))
    turn e false t m r = inl (two (is_registered key es) e m (sym (ap (λ z. z.key) r)) (sym (ap (λ z. z.place) r) ∙ q))

    by : (e : Entry) × In e (entries_with key version taken es) × (f ≡ (if is_of key e then settled at e else e)) → Stood es f.key place ⊎ (f.key ≡ key)
    by (e, m, r) = turn e (is_of key e) refl m r

-- ---- what some member passes

pub any_in : (test : Entry → Bool) (es : List Entry) (e : Entry) → In e es → test e ≡ true → list_any test es ≡ true
any_in test [] e i t = absurd i
any_in test (x ∷ es) e (inl q) t = ap (λ y. test y || list_any test es) (sym q) ∙ ap (λ b. b || list_any test es) t
any_in test (x ∷ es) e (inr i) t = ap (λ b. test x || b) (any_in test es e i t) ∙ by (test x)
  where
    by : (b : Bool) → (b || true) ≡ true
    by true = refl
    by false = refl

pub in_front : (xs ys : List Entry) (e : Entry) → In e xs → In e (xs ++ ys)
in_front [] ys e i = absurd i
in_front (x ∷ xs) ys e (inl q) = inl q
in_front (x ∷ xs) ys e (inr i) = inr (in_front xs ys e i)

-- a key that has an entry is registered
pub registered_found : (key : KeyView) (es : List Entry) (e : Entry) → entry_for key es ≡ Some e → is_registered key es ≡ true
registered_found key es e q =
    ap (λ k. is_registered k es) (found_key key es e q) ∙ in_registered es e (in_found (is_of key) es e q)

-- a member is of no key that isn't registered
pub member_other : (key : KeyView) (es : List Entry) (e : Entry) → is_registered key es ≡ false → In e es → is_of key e ≡ false
member_other key es e n i = at (is_of key e) refl
  where
    at : (b : Bool) → is_of key e ≡ b → b ≡ false
    at false t = refl
    at true t = absurd (true≢false (sym (any_in (is_of key) es e i t) ∙ n))
