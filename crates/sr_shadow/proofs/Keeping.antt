-- The indexes stay those of the entries.
use Rattle.std.proofs.Common.{◌≡◌, ℕ, zero, suc, ◌+◌, ◌<◌, ◌≤◌, Bool, true, false, List, [], ◌∷◌, ◌++◌, length, drop, Option, None, Some, is_some, refl, sym, ap, ◌∙◌, subst, true≢false, arith}
use Rattle.std.specs.Prelude.{slice_get, option_to_list}
use Rattle.sr_base.specs.Key.{KeyView, IsKey}
use Rattle.sr_base.specs.Layout.{LayoutView}
use Rattle.sr_base.specs.declared.place.Place.{Place}
use Rattle.sr_shadow.specs.Book.{is_registered, holder_of, most_taken, IsBook}
use Rattle.sr_shadow.specs.VersionCounts.{Counted}
use Rattle.sr_shadow.specs.Entry.{holds, is_outside, stands_in, settled, left_other}
use Rattle.sr_shadow.specs.Holders.{IsHolderTable}
use Rattle.sr_shadow.specs.KeyNumbers.{Numbered}
use Rattle.sr_shadow.specs.Rivals.{Tallied}
use Rattle.sr_shadow.specs.IndexedBook.{IsIndexed}
use Rattle.sr_shadow.specs.declared.book.Book.{Book}
use Rattle.sr_shadow.specs.declared.entry.Entry.{Entry}
use Rattle.sr_shadow.specs.declared.tally.Tally.{Tally}
use Rattle.sr_shadow.proofs.Books.{distinct_more, distinct_swap, distinct_less, keys_more, keys_swap, keys_less, leave_more, leave_swap, leave_less, taken_more, taken_swap, taken_less, few_taken}
use Rattle.sr_shadow.proofs.Classes.{tallied_same}
use Rattle.sr_shadow.proofs.Lookups.{numbered_same}
use Rattle.sr_shadow.proofs.Places.{holder_more, holder_same, held_alike, once_less, once_more, once_settled, once_left, once_without}
use Rattle.sr_shadow.proofs.Tables.{counted_same}

-- no more entries than numbers, and far fewer than 64 bits count
pub few_entries : (es : List Entry) (taken : ℕ) → IsBook es taken → length es ≤ most_taken
few_entries es taken b = omega (arith, few_taken 0 taken es b.rising, b.most)

-- one entry more
pub indexed_more : (l : LayoutView) (es new : List Entry) (taken next : ℕ) (numbers numbers2 : ℕ → Option ℕ) (counts counts2 : List ℕ) (one one2 two two2 : ℕ → Option Tally) (table : List (Option KeyView)) (e : Entry)
    → new ≡ es ++ e ∷ [] → next ≡ taken + 1 → IsKey e.key → is_registered e.key es ≡ false → e.taken ≡ taken → e.place ≡ None → e.also ≡ None → taken < most_taken
    → Numbered numbers2 (es ++ e ∷ []) → Counted counts2 (es ++ e ∷ []) → Tallied l.shape 1 one2 (es ++ e ∷ []) → Tallied l.shape 2 two2 (es ++ e ∷ [])
    → IsIndexed l es taken numbers counts one two table → IsIndexed l new next numbers2 counts2 one2 two2 table
indexed_more l es new taken next numbers numbers2 counts counts2 one one2 two two2 table e is after key none told at also most n c f s h =
    subst (λ ys. IsIndexed l ys next numbers2 counts2 one2 two2 table) (sym is) (subst (λ t. IsIndexed l (es ++ e ∷ []) t numbers2 counts2 one2 two2 table) (sym after) (record {
      book = record {
        distinct = distinct_more es e none h.book.distinct;
        once = once_more es e at also h.book.once;
        leave = leave_more es e (λ none. also) h.book.leave;
        keys = keys_more es e key h.book.keys;
        rising = taken_more 0 taken es e told h.book.rising;
        most = omega (arith, most);
      };
      numbered = n;
      counted = c;
      first = f;
      second = s;
      held = held_alike l.shape table es (es ++ e ∷ []) (λ place. holder_more place es e at also) h.held;
    }))

-- one that the indexes can't tell from the other
pub indexed_same : (l : LayoutView) (front back : List Entry) (e f : Entry) (taken : ℕ) (numbers : ℕ → Option ℕ) (counts : List ℕ) (one two : ℕ → Option Tally) (table : List (Option KeyView))
    → f.key ≡ e.key → f.version ≡ e.version → f.place ≡ e.place → f.also ≡ e.also → f.taken ≡ e.taken
    → IsIndexed l (front ++ e ∷ back) taken numbers counts one two table → IsIndexed l (front ++ f ∷ back) taken numbers counts one two table
indexed_same l front back e f taken numbers counts one two table own version at also told h =
    let out : is_outside f ≡ is_outside e = rw at refl in
    let stands : (way : ℕ) → stands_in way f ≡ stands_in way e = λ way. rw at refl in
    record {
      book = record {
        distinct = distinct_swap front back e f own h.book.distinct;
        once = once_less front back e f h.book.once (λ place. rw (at, also) (omega arith));
        leave = leave_swap front back e f (λ old none. also ∙ old (sym at ∙ none)) h.book.leave;
        keys = keys_swap front back e f own h.book.keys;
        rising = taken_swap 0 taken front back e f told h.book.rising;
        most = h.book.most;
      };
      numbered = numbered_same numbers front back e f own told h.numbered;
      counted = counted_same counts front back e f own version h.counted;
      first = tallied_same l.shape 1 one front back e f own out (stands 1) h.first;
      second = tallied_same l.shape 2 two front back e f own out (stands 2) h.second;
      held = held_alike l.shape table (front ++ e ∷ back) (front ++ f ∷ back) (λ place. holder_same place front back e f own at also) h.held;
    }

-- one that has moved
pub indexed_settled : (l : LayoutView) (front back : List Entry) (e : Entry) (place : Place) (taken : ℕ) (numbers : ℕ → Option ℕ) (counts : List ℕ) (one one2 two two2 : ℕ → Option Tally) (table table2 : List (Option KeyView))
    → e.also ≡ None → holder_of place (front ++ e ∷ back) ≡ None → Tallied l.shape 1 one2 (front ++ settled place e ∷ back) → Tallied l.shape 2 two2 (front ++ settled place e ∷ back)
    → IsHolderTable l.shape table2 (front ++ settled place e ∷ back)
    → IsIndexed l (front ++ e ∷ back) taken numbers counts one two table → IsIndexed l (front ++ settled place e ∷ back) taken numbers counts one2 two2 table2
indexed_settled l front back e place taken numbers counts one one2 two two2 table table2 alone free f s held h = record {
  book = record {
    distinct = distinct_swap front back e (settled place e) refl h.book.distinct;
    once = once_settled place front back e h.book.once alone free;
    leave = leave_swap front back e (settled place e) (λ old none. absurd (true≢false (ap is_some none))) h.book.leave;
    keys = keys_swap front back e (settled place e) refl h.book.keys;
    rising = taken_swap 0 taken front back e (settled place e) refl h.book.rising;
    most = h.book.most;
  };
  numbered = numbered_same numbers front back e (settled place e) refl refl h.numbered;
  counted = counted_same counts front back e (settled place e) refl refl h.counted;
  first = f;
  second = s;
  held = held;
}

-- one that has left its other place
pub indexed_left : (l : LayoutView) (front back : List Entry) (e : Entry) (taken : ℕ) (numbers : ℕ → Option ℕ) (counts : List ℕ) (one two : ℕ → Option Tally) (table table2 : List (Option KeyView))
    → IsHolderTable l.shape table2 (front ++ left_other e ∷ back)
    → IsIndexed l (front ++ e ∷ back) taken numbers counts one two table → IsIndexed l (front ++ left_other e ∷ back) taken numbers counts one two table2
indexed_left l front back e taken numbers counts one two table table2 held h = record {
  book = record {
    distinct = distinct_swap front back e (left_other e) refl h.book.distinct;
    once = once_left front back e h.book.once;
    leave = leave_swap front back e (left_other e) (λ old none. refl) h.book.leave;
    keys = keys_swap front back e (left_other e) refl h.book.keys;
    rising = taken_swap 0 taken front back e (left_other e) refl h.book.rising;
    most = h.book.most;
  };
  numbered = numbered_same numbers front back e (left_other e) refl refl h.numbered;
  counted = counted_same counts front back e (left_other e) refl refl h.counted;
  first = tallied_same l.shape 1 one front back e (left_other e) refl refl refl h.first;
  second = tallied_same l.shape 2 two front back e (left_other e) refl refl refl h.second;
  held = held;
}

-- one less
pub indexed_less : (l : LayoutView) (front back : List Entry) (e : Entry) (taken : ℕ) (numbers numbers2 : ℕ → Option ℕ) (counts counts2 : List ℕ) (one one2 two two2 : ℕ → Option Tally) (table table2 : List (Option KeyView))
    → Numbered numbers2 (front ++ back) → Counted counts2 (front ++ back) → Tallied l.shape 1 one2 (front ++ back) → Tallied l.shape 2 two2 (front ++ back) → IsHolderTable l.shape table2 (front ++ back)
    → IsIndexed l (front ++ e ∷ back) taken numbers counts one two table → IsIndexed l (front ++ back) taken numbers2 counts2 one2 two2 table2
indexed_less l front back e taken numbers numbers2 counts counts2 one one2 two two2 table table2 n c f s held h = record {
  book = record {
    distinct = distinct_less front back e h.book.distinct;
    once = once_without front back e h.book.once;
    leave = leave_less front back e h.book.leave;
    keys = keys_less front back e h.book.keys;
    rising = taken_less 0 taken front back e h.book.rising;
    most = h.book.most;
  };
  numbered = n;
  counted = c;
  first = f;
  second = s;
  held = held;
}

-- a place looked for entry by entry
pub scan_found : (place : Place) (es : List Entry) (i : ℕ) (key : KeyView) → holder_of place (option_to_list (slice_get es i)) ≡ Some key → holder_of place (drop i es) ≡ Some key
scan_found place [] i key h = absurd (true≢false (sym (ap is_some h)))
scan_found place (e ∷ es) zero key h = by (holds place e) refl
  where
    by : (b : Bool) → holds place e ≡ b → holder_of place (e ∷ es) ≡ Some key
    by true t = grind (arith, h, t)
    by false t = grind (arith, h, t)
scan_found place (e ∷ es) (suc i) key h = scan_found place es i key h

pub scan_on : (place : Place) (es : List Entry) (i : ℕ) → holder_of place (option_to_list (slice_get es i)) ≡ None → holder_of place (drop i es) ≡ holder_of place (drop (suc i) es)
scan_on place [] zero h = refl
scan_on place [] (suc i) h = refl
scan_on place (e ∷ es) zero h = grind (arith, h)
scan_on place (e ∷ es) (suc i) h = scan_on place es i h

-- books with equal parts
pub book_is : (es fs : List Entry) (t u : ℕ) → es ≡ fs → t ≡ u
    → ◌≡◌ {A = Book} (record { entries = es; taken = t }) (record { entries = fs; taken = u })
book_is es fs t u p q = λ i. record { entries = p i; taken = q i }

pub indexed_conv : (l : LayoutView) (es ys : List Entry) (t u : ℕ) (numbers : ℕ → Option ℕ) (counts : List ℕ) (one two : ℕ → Option Tally) (table : List (Option KeyView))
    → es ≡ ys → t ≡ u → IsIndexed l es t numbers counts one two table → IsIndexed l ys u numbers counts one two table
indexed_conv l es ys t u numbers counts one two table p q h = subst (λ n. IsIndexed l ys n numbers counts one two table) q (subst (λ zs. IsIndexed l zs t numbers counts one two table) p h)
