-- How the entries of a book follow one another, as words are taken and sweeps go by.
use Rattle.std.proofs.Common.{◌≡◌, ℕ, ◌≤◌, Bool, true, false, cond, List, [], ◌∷◌, ◌++◌, map, IfSome, if◌then◌else◌, Some, None, sum_by, Option, option_map, find, sym, refl, ap, ◌∙◌, subst}
use Rattle.std.proofs.lemmas.List.Sums.{sum_by-cons}
use Rattle.sr_base.specs.Key.{KeyView, same_key}
use Rattle.sr_base.specs.Layout.{LayoutView}
use Rattle.sr_base.specs.declared.place.Place.{Place}
use Rattle.sr_inv_facts.proofs.Taking.{TakesBook, same_book, learned_book, closed_book}
use Rattle.sr_inv_facts.specs.InJobs.{HasNoPlace}
use Rattle.sr_shadow.proofs.Places.{holder_more, once_more}
use Rattle.sr_shadow.specs.Book.{HeldOnce, entry_for, holder_entry, holder_of, with_changed}
use Rattle.sr_shadow.specs.Entry.{closed, holds, is_at, is_of, swept, times_held, fresh}
use Rattle.sr_shadow.specs.declared.book.Book.{Book}
use Rattle.sr_shadow.specs.declared.entry.Entry.{Entry}
use Rattle.sr_update.specs.Numbers.{NumberRows}

module _ {X : Type 0} (p : X → Bool) where
  pub find_more : (xs ys : List X) (x : X) → find p xs ≡ Some x → find p (xs ++ ys) ≡ Some x
  find_more [] ys x e = cc
  find_more (y ∷ xs) ys x e = at (p y) e (find_more xs ys x)
    where
      at : (b : Bool) → cond b (Some y) (find p xs) ≡ Some x → (find p xs ≡ Some x → find p (xs ++ ys) ≡ Some x)
          → cond b (Some y) (find p (xs ++ ys)) ≡ Some x
      at true q more = q
      at false q more = more q

  pub find_later : (xs ys : List X) → find p xs ≡ None → find p (xs ++ ys) ≡ find p ys
  find_later [] ys e = refl
  find_later (y ∷ xs) ys e = at (p y) e (find_later xs ys)
    where
      at : (b : Bool) → cond b (Some y) (find p xs) ≡ None → (find p xs ≡ None → find p (xs ++ ys) ≡ find p ys)
          → cond b (Some y) (find p (xs ++ ys)) ≡ find p ys
      at true q more = cc
      at false q more = more q

  pub find_mapped : (g : X → X) → ((x : X) → p (g x) ≡ p x) → (xs : List X) → find p (map g xs) ≡ option_map g (find p xs)
  find_mapped g same [] = refl
  find_mapped g same (y ∷ xs) = ap (λ b. cond b (Some (g y)) (find p (map g xs))) (same y) ∙ at (p y) (find_mapped g same xs)
    where
      at : (b : Bool) → find p (map g xs) ≡ option_map g (find p xs)
          → cond b (Some (g y)) (find p (map g xs)) ≡ option_map g (cond b (Some y) (find p xs))
      at true q = refl
      at false q = q

-- one entry comes after another: nothing that tells where it stands has changed
pub record Same (e f : Entry) : Type 0 where
  pub key : f.key ≡ e.key
  pub version : f.version ≡ e.version
  pub place : f.place ≡ e.place
  pub also : f.also ≡ e.also
  pub taken : f.taken ≡ e.taken

-- every entry stays where it stands, and what comes stands nowhere
pub record Succeeds (es fs : List Entry) : Type 0 where
  pub stays : (key : KeyView) (e : Entry) → entry_for key es ≡ Some e → (f : Entry) × (entry_for key fs ≡ Some f) × Same e f
  pub unplaced : (key : KeyView) → HasNoPlace key es → HasNoPlace key fs
  pub holders : (place : Place) → holder_of place fs ≡ holder_of place es
  pub once : HeldOnce es → HeldOnce fs

pub succeeds_self : (es : List Entry) → Succeeds es es
succeeds_self es = record {
  stays = λ key e q. (e, q, record { key = refl; version = refl; place = refl; also = refl; taken = refl });
  unplaced = λ key h. h;
  holders = λ place. refl;
  once = λ h. h;
}

-- a key that wasn't registered comes
pub succeeds_new : (es : List Entry) (key : KeyView) (version taken : ℕ) → Succeeds es (es ++ fresh key version taken ∷ [])
succeeds_new es key version taken = record {
  stays = λ other e q.
      (e, find_more (is_of other) es (fresh key version taken ∷ []) e q, record { key = refl; version = refl; place = refl; also = refl; taken = refl });
  unplaced = λ other h. at other (entry_for other es) refl h;
  holders = λ place. holder_more place es (fresh key version taken) refl refl;
  once = λ h. once_more es (fresh key version taken) refl refl h;
}
  where
    new : (other : KeyView) (b : Bool) → IfSome (cond b (Some (fresh key version taken)) None) (λ e. e.place ≡ None)
    new other true = refl
    new other false = tt

    at : (other : KeyView) (o : Option Entry) → entry_for other es ≡ o → IfSome (entry_for other es) (λ e. e.place ≡ None)
        → HasNoPlace other (es ++ fresh key version taken ∷ [])
    at other None q h =
        subst (λ o. IfSome o (λ e. e.place ≡ None)) (sym (find_later (is_of other) es (fresh key version taken ∷ []) q)) (new other (is_of other (fresh key version taken)))
    at other (Some e) q h =
        subst (λ o. IfSome o (λ e. e.place ≡ None)) (q ∙ sym (find_more (is_of other) es (fresh key version taken ∷ []) e q)) h

-- entries change in what doesn't tell where they stand
module _ (g : Entry → Entry) (same : (e : Entry) → Same e (g e)) where
  of_same : (key : KeyView) (e : Entry) → is_of key (g e) ≡ is_of key e
  of_same key e = ap (same_key key) (same e).key

  holds_same : (place : Place) (e : Entry) → holds place (g e) ≡ holds place e
  holds_same place e = cc (ap (is_at place) (same e).place, ap (is_at place) (same e).also)

  times_same : (place : Place) (e : Entry) → times_held place (g e) ≡ times_held place e
  times_same place e = cc (ap (is_at place) (same e).place, ap (is_at place) (same e).also)

  keys_same : (o : Option Entry) → option_map (λ e. e.key) (option_map g o) ≡ option_map (λ e. e.key) o
  keys_same None = refl
  keys_same (Some e) = ap Some (same e).key

  sums_same : (place : Place) (es : List Entry) → sum_by (times_held place) (map g es) ≡ sum_by (times_held place) es
  sums_same place [] = refl
  sums_same place (e ∷ es) =
      sum_by-cons (times_held place) (g e) (map g es) ∙ (cc (times_same place e, sums_same place es) ∙ sym (sum_by-cons (times_held place) e es))

  pub holder_mapped : (place : Place) (es : List Entry) → holder_of place (map g es) ≡ holder_of place es
  holder_mapped place es =
      ap (option_map (λ e. e.key)) (find_mapped (holds place) g (holds_same place) es) ∙ keys_same (holder_entry place es)

  pub entry_mapped : (key : KeyView) (es : List Entry) → entry_for key (map g es) ≡ option_map g (entry_for key es)
  entry_mapped key es = find_mapped (is_of key) g (of_same key) es

  pub succeeds_mapped : (es : List Entry) → Succeeds es (map g es)
  succeeds_mapped es = record {
    stays = λ key e q. (g e, entry_mapped key es ∙ ap (option_map g) q, same e);
    unplaced = λ key h. subst (λ o. IfSome o (λ e. e.place ≡ None)) (sym (entry_mapped key es)) (at (entry_for key es) h);
    holders = λ place. holder_mapped place es;
    once = λ h place. subst (λ n. n ≤ 1) (sym (sums_same place es)) (h place);
  }
    where
      at : (o : Option Entry) → IfSome o (λ e. e.place ≡ None) → IfSome (option_map g o) (λ e. e.place ≡ None)
      at None h = tt
      at (Some e) h = (same e).place ∙ h

same_if : (change : Entry → Entry) → ((e : Entry) → Same e (change e)) → (key : KeyView) (e : Entry)
    → Same e (if is_of key e then change e else e)
same_if change same key e = at (is_of key e)
  where
    at : (b : Bool) → Same e (if b then change e else e)
    at true = same e
    at false = record { key = refl; version = refl; place = refl; also = refl; taken = refl }

-- the key's entry changes so
pub succeeds_changed : (change : Entry → Entry) → ((e : Entry) → Same e (change e)) → (key : KeyView) (es : List Entry)
    → Succeeds es (with_changed change key es)
succeeds_changed change same key es = succeeds_mapped (λ e. if is_of key e then change e else e) (same_if change same key) es

pub closed_same : (e : Entry) → Same e (closed e)
closed_same e = record { key = refl; version = refl; place = refl; also = refl; taken = refl }

pub swept_same : (hit : Bool) (e : Entry) → Same e (swept hit e)
swept_same hit e = record { key = refl; version = refl; place = refl; also = refl; taken = refl }

-- what a take makes of the book
pub succeeds_take : (l : LayoutView) (numbers : NumberRows) (ended : Option KeyView) (x : ℕ) (b d : Book)
    → TakesBook l numbers ended x b d → Succeeds b.entries d.entries
succeeds_take l numbers ended x b d (same_book u) = succeeds_self b.entries
succeeds_take l numbers ended x b d (learned_book w q r s f) = succeeds_new b.entries w.key w.version b.taken
succeeds_take l numbers ended x b d (closed_book w q r s) = succeeds_changed closed closed_same w.key b.entries
