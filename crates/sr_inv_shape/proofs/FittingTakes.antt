-- A word that is taken from a ring keeps the controller's lists in range.
use Rattle.std.proofs.Common.{◌≡◌, ℕ, zero, suc, ◌+◌, ◌<◌, ◌≤◌, Bool, true, false, List, [], ◌∷◌, ◌++◌, length, if◌then◌else◌, ◌==◌, Some, None, Option, refl, ◌∙◌, arith}
use Rattle.std.proofs.lemmas.Option.{slice_get_within}
use Rattle.std.specs.List.{AllByRecursion}
use Rattle.sr_base.specs.Key.{IsKey, KeyView}
use Rattle.sr_base.specs.Layout.{LayoutView}
use Rattle.sr_base.specs.RingWord.{IsRingWord}
use Rattle.sr_base.specs.declared.ring_word.RingKind.{RingKind}
use Rattle.sr_base.specs.declared.ring_word.RingKind.TheVariants.{Learn, Punt, Close}
use Rattle.sr_base.specs.declared.ring_word.RingWord.{RingWord}
use Rattle.sr_inv_facts.proofs.Books.{changed_all, distinct_mapped, field_kept, taken_mapped}
use Rattle.sr_inv_facts.proofs.Lists.{all_more, length_set}
use Rattle.sr_inv_facts.proofs.Reading.{report_fits}
use Rattle.sr_inv_facts.specs.InShape.{BookFits, ControllerFits, EntryFits, OpenerFits}
use Rattle.sr_machine.specs.Config.{Config}
use Rattle.sr_machine.specs.Deciding.{ring_count}
use Rattle.sr_machine.specs.Reads.{read_report}
use Rattle.sr_machine.specs.Taking.{Taken, book_by, held_after, is_current_at, is_ended, is_punt, taken_report, taking, untaken}
use Rattle.sr_machine.specs.declared.controller_view.ControllerView.{ControllerView}
use Rattle.sr_machine.specs.declared.held_opener.HeldOpener.{HeldOpener}
use Rattle.sr_shadow.proofs.Books.{distinct_more, taken_more}
use Rattle.sr_shadow.specs.Book.{is_registered, with_changed, with_closed, with_taken}
use Rattle.sr_shadow.specs.Entry.{fresh, is_of, closed}
use Rattle.sr_shadow.specs.declared.book.Book.{Book}
use Rattle.sr_shadow.specs.declared.entry.Entry.{Entry}
use Rattle.sr_update.specs.Numbers.{NumberRows, state_of}
use Rattle.sr_update.specs.declared.number_state.NumberState.{NumberState}

module _ (l : LayoutView) where
  fresh_fits : (key : KeyView) (version taken : ℕ) → IsKey key → key.vip < l.vips → version < l.shape.versions
      → EntryFits l (fresh key version taken)
  fresh_fits key version taken k v n = record { key = k; vip = v; version = n; place = tt; also = tt }

  -- a key that is taken is in range
  pub taken_fits : (key : KeyView) (version : ℕ) (book : Book) → IsKey key → key.vip < l.vips → version < l.shape.versions
      → BookFits l book → BookFits l (with_taken key version book)
  taken_fits key version book k v n h = at (is_registered key book.entries) refl
    where
      at : (b : Bool) → is_registered key book.entries ≡ b → BookFits l (record {
        entries = if b then book.entries else (book.entries ++ fresh key version book.taken ∷ []);
        taken = if b then book.taken else (book.taken + 1);
      })
      at true q = h
      at false q = record {
        entries =
            all_more (EntryFits l) book.entries (fresh key version book.taken ∷ []) h.entries (fresh_fits key version book.taken k v n, tt);
        distinct = distinct_more book.entries (fresh key version book.taken) q h.distinct;
        rising = taken_more 0 book.taken book.entries (fresh key version book.taken) refl h.rising;
      }

  -- a change of an entry that keeps its key, its version and its number
  pub changed_fits : (change : Entry → Entry) (key : KeyView) (book : Book) → ((e : Entry) → (change e).key ≡ e.key)
      → ((e : Entry) → (change e).taken ≡ e.taken)
      → ((e : Entry) → is_of key e ≡ true → EntryFits l e → EntryFits l (change e)) → BookFits l book
      → BookFits l (record book { entries = with_changed change key book.entries })
  changed_fits change key book keys numbers turn h = record {
    entries = changed_all (EntryFits l) (EntryFits l) change key turn (λ e q f. f) book.entries h.entries;
    distinct = distinct_mapped (λ e. if is_of key e then change e else e) (field_kept (λ e. e.key) change keys key) (field_kept (λ e. e.taken) change numbers key) book.entries h.distinct;
    rising = taken_mapped (λ e. if is_of key e then change e else e) (field_kept (λ e. e.key) change keys key) (field_kept (λ e. e.taken) change numbers key) 0 book.taken book.entries h.rising;
  }

  closed_fits : (key : KeyView) (book : Book) → BookFits l book → BookFits l (with_closed key book)
  closed_fits key book h =
      changed_fits closed key book (λ e. refl) (λ e. refl) (λ e q f. record { key = f.key; vip = f.vip; version = f.version; place = f.place; also = f.also }) h

  -- a number that has a state is one of the layout
  pub state_below : (numbers : NumberRows) (vip n : ℕ) (is : NumberState) → AllByRecursion (λ row. length row ≡ l.shape.versions) numbers
      → state_of vip n numbers ≡ Some is → n < l.shape.versions
  state_below [] vip n is a e = cc
  state_below (row ∷ rows) zero n is a e = omega (arith, slice_get_within row n is e, a.0)
  state_below (row ∷ rows) (suc vip) n is a e = state_below rows vip n is a.1 e

  current_below : (numbers : NumberRows) (vip n : ℕ) → AllByRecursion (λ row. length row ≡ l.shape.versions) numbers
      → is_current_at (state_of vip n numbers) ≡ true → n < l.shape.versions
  current_below numbers vip n a e = at (state_of vip n numbers) refl e
    where
      at : (o : Option NumberState) → state_of vip n numbers ≡ o → is_current_at o ≡ true → n < l.shape.versions
      at None q e = cc
      at (Some is) q e = state_below numbers vip n is a q

  book_fits_by : (numbers : NumberRows) (ended : Option KeyView) (book : Book) (w : RingWord) → IsRingWord w → w.key.vip < l.vips
      → AllByRecursion (λ row. length row ≡ l.shape.versions) numbers → BookFits l book → (kind : RingKind)
      → BookFits l (book_by numbers ended book w.key w.version kind)
  book_fits_by numbers ended book w i v a h Learn = at (is_current_at (state_of w.key.vip w.version numbers)) refl
    where
      at : (b : Bool) → is_current_at (state_of w.key.vip w.version numbers) ≡ b
          → BookFits l (if b then with_taken w.key w.version book else book)
      at true q = taken_fits w.key w.version book i.key v (current_below numbers w.key.vip w.version a q) h
      at false q = h
  book_fits_by numbers ended book w i v a h Punt = h
  book_fits_by numbers ended book w i v a h Close = at (is_ended w.key ended)
    where
      at : (b : Bool) → BookFits l (if b then book else with_closed w.key book)
      at true = h
      at false = closed_fits w.key book h

  held_fits : (pipe punts : ℕ) (held : List HeldOpener) (w : RingWord) → IsRingWord w → w.key.vip < l.vips → pipe < l.shape.pipes
      → AllByRecursion (OpenerFits l) held → AllByRecursion (OpenerFits l) (held_after pipe punts held (Some w))
  held_fits pipe punts held w i v p h = at (is_punt w.kind punts)
    where
      at : (b : Bool)
          → AllByRecursion (OpenerFits l) (if b then (held ++ record { pipe = pipe; nth = punts + 1; key = w.key } ∷ []) else held)
      at true =
          all_more (OpenerFits l) held (record { pipe = pipe; nth = punts + 1; key = w.key } ∷ []) h (record { pipe = p; key = i.key; vip = v }, tt)
      at false = h

-- how many were taken never falls
pub taken_grows : (key : KeyView) (version : ℕ) (book : Book) → book.taken ≤ (with_taken key version book).taken
taken_grows key version book = at (is_registered key book.entries)
  where
    at : (b : Bool) → book.taken ≤ (if b then book.taken else (book.taken + 1))
    at true = omega arith
    at false = omega arith

book_grows : (numbers : NumberRows) (ended : Option KeyView) (book : Book) (key : KeyView) (version : ℕ) (kind : RingKind)
    → book.taken ≤ (book_by numbers ended book key version kind).taken
book_grows numbers ended book key version Learn = at (is_current_at (state_of key.vip version numbers))
  where
    at : (b : Bool) → book.taken ≤ (if b then with_taken key version book else book).taken
    at true = taken_grows key version book
    at false = omega arith
book_grows numbers ended book key version Punt = omega arith
book_grows numbers ended book key version Close = at (is_ended key ended)
  where
    at : (b : Bool) → book.taken ≤ (if b then book else with_closed key book).taken
    at true = omega arith
    at false = omega arith

-- what a take keeps
pub record TakeFits (k : Config) (c : ControllerView) (t : Taken) : Type 0 where
  pub book : BookFits k.layout t.book
  pub held : AllByRecursion (OpenerFits k.layout) t.held
  pub rings : length t.rings ≡ k.layout.shape.pipes
  pub grows : c.book.taken ≤ t.book.taken

module _ (k : Config) (c : ControllerView) (b : BookFits k.layout c.book) (h : ControllerFits k c) (ended : Option KeyView) (pipe x : ℕ) (p : pipe < k.layout.shape.pipes) where
  report_taken : (o : Option RingWord) → read_report k.layout x ≡ o → TakeFits k c (taken_report c ended pipe o)
  report_taken None q = record { book = b; held = h.held; rings = length_set c.rings pipe _ ∙ h.rings; grows = omega arith }
  report_taken (Some w) q =
      let r = report_fits k.layout x w q in
      record {
        book = book_fits_by k.layout c.numbers ended c.book w r.0 r.1 h.numbers.each b w.kind;
        held = held_fits k.layout pipe (ring_count c.rings pipe).punts c.held w r.0 r.1 p h.held;
        rings = length_set c.rings pipe _ ∙ h.rings;
        grows = book_grows c.numbers ended c.book w.key w.version w.kind;
      }

  pub take_fits : TakeFits k c (taking k c ended pipe x)
  unfolding taking
  take_fits = at (x == 0)
    where
      at : (t : Bool) → TakeFits k c (if t then untaken c else taken_report c ended pipe (read_report k.layout x))
      at true = record { book = b; held = h.held; rings = h.rings; grows = omega arith }
      at false = report_taken (read_report k.layout x) refl
