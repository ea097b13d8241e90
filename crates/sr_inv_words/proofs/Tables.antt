-- Who holds a place in the book, and with what word, as the book changes.
use Rattle.std.proofs.Common.{◌≡◌, ℕ, Bool, true, false, cond, ◌||◌, List, [], ◌∷◌, ◌++◌, map, if◌then◌else◌, ◌==◌, Some, None, Option, option_map, find, unwrap_or, sym, refl, ap, ◌∙◌, true≢false}
use Rattle.std.proofs.lemmas.Option.{same_Some}
use Rattle.std.specs.List.{AllByRecursion}
use Rattle.sr_base.proofs.Sameness.{same_key-true, same_key-self, same_place-self}
use Rattle.sr_base.specs.Key.{KeyView}
use Rattle.sr_base.specs.Layout.{LayoutView}
use Rattle.sr_base.specs.Place.{same_place}
use Rattle.sr_base.specs.declared.place.Place.{Place}
use Rattle.sr_base.specs.declared.ring_word.RingKind.{RingKind}
use Rattle.sr_base.specs.declared.ring_word.RingKind.TheVariants.{Learn, Punt, Close}
use Rattle.sr_base.specs.declared.ring_word.RingWord.{RingWord}
use Rattle.sr_base.specs.declared.vip_word.VipWord.{VipWord}
use Rattle.sr_inv_facts.proofs.Lists.{all_of, all_then}
use Rattle.sr_inv_facts.specs.InWords.{held_word}
use Rattle.sr_machine.proofs.Following.{found}
use Rattle.sr_machine.specs.Config.{Config}
use Rattle.sr_machine.specs.Deciding.{learned, version_for}
use Rattle.sr_machine.specs.Reads.{live_word, read_report}
use Rattle.sr_machine.specs.Taking.{book_by, is_current_at, is_ended, taken_report, taking, untaken}
use Rattle.sr_machine.specs.declared.controller_view.ControllerView.{ControllerView}
use Rattle.sr_shadow.proofs.Splits.{registered_none}
use Rattle.sr_shadow.specs.Book.{entry_for, holder_entry, holder_of, is_registered, with_changed, with_closed, with_swept, with_taken}
use Rattle.sr_shadow.specs.Entry.{fresh, closed, swept, settled, holds, is_at, is_of}
use Rattle.sr_shadow.specs.declared.book.Book.{Book}
use Rattle.sr_shadow.specs.declared.entry.Entry.{Entry}
use Rattle.sr_update.specs.Numbers.{NumberRows, state_of}

module _ (l : LayoutView) (place : Place) where
  -- the word of an entry at the place
  abbrev word_by : Entry → ℕ
  word_by e = live_word l place e.key e.version

  found_alike : (a b : Bool) (e f : Entry) (after before : Option Entry) → a ≡ b → word_by f ≡ word_by e
      → option_map word_by after ≡ option_map word_by before
      → option_map word_by (cond a (Some f) after) ≡ option_map word_by (cond b (Some e) before)
  found_alike true true e f after before t w more = ap Some w
  found_alike false false e f after before t w more = more
  found_alike true false e f after before t w more = cc
  found_alike false true e f after before t w more = cc

  held_mapped : (change : Entry → Entry) (es : List Entry) → ((e : Entry) → word_by (change e) ≡ word_by e)
      → AllByRecursion (λ e. holds place (change e) ≡ holds place e) es
      → held_word l place (map change es) ≡ held_word l place es
  held_mapped change [] w a = refl
  held_mapped change (e ∷ es) w a =
      found_alike (holds place (change e)) (holds place e) e (change e) (find (holds place) (map change es)) (find (holds place) es) a.0 (w e)
      (held_mapped change es w a.1)

  -- a change of the key's entry that keeps its word, and whether it holds the place
  pub held_changed : (change : Entry → Entry) (key : KeyView) (es : List Entry) → ((e : Entry) → word_by (change e) ≡ word_by e)
      → AllByRecursion (λ e. is_of key e ≡ true → holds place (change e) ≡ holds place e) es
      → held_word l place (with_changed change key es) ≡ held_word l place es
  held_changed change key es w a =
      held_mapped (λ e. if is_of key e then change e else e) es (λ e. word e (is_of key e))
      (all_then (λ e. is_of key e ≡ true → holds place (change e) ≡ holds place e)
      (λ e. holds place (if is_of key e then change e else e) ≡ holds place e) (λ e h. at e (is_of key e) refl h) es a)
    where
      word : (e : Entry) (b : Bool) → word_by (if b then change e else e) ≡ word_by e
      word e true = w e
      word e false = refl

      at : (e : Entry) (b : Bool) → is_of key e ≡ b → (is_of key e ≡ true → holds place (change e) ≡ holds place e)
          → holds place (if b then change e else e) ≡ holds place e
      at e true q h = h q
      at e false q h = refl

-- an entry without a place isn't found
pub holder_more : (place : Place) (es : List Entry) (e : Entry) → holds place e ≡ false → holder_entry place (es ++ e ∷ []) ≡ holder_entry place es
holder_more place [] e h = ap (λ b. cond b (Some e) None) h
holder_more place (x ∷ es) e h = ap (λ r. cond (holds place x) (Some x) r) (holder_more place es e h)

-- nor does it stand before others
pub holder_skip : (place : Place) (front back : List Entry) (e : Entry) → holds place e ≡ false
    → holder_entry place (front ++ e ∷ back) ≡ holder_entry place (front ++ back)
holder_skip place [] back e h = ap (λ b. cond b (Some e) (find (holds place) back)) h
holder_skip place (x ∷ front) back e h = ap (λ r. cond (holds place x) (Some x) r) (holder_skip place front back e h)

-- the entry that holds a place that no other holds
pub holder_mine : (place : Place) (front back : List Entry) (e : Entry) → holds place e ≡ true → holder_entry place (front ++ back) ≡ None
    → holder_entry place (front ++ e ∷ back) ≡ Some e
holder_mine place [] back e h none = ap (λ b. cond b (Some e) (find (holds place) back)) h
holder_mine place (x ∷ front) back e h none = at (holds place x) none (holder_mine place front back e h)
  where
    at : (b : Bool) → cond b (Some x) (holder_entry place (front ++ back)) ≡ None
        → (holder_entry place (front ++ back) ≡ None → holder_entry place (front ++ e ∷ back) ≡ Some e)
        → cond b (Some x) (holder_entry place (front ++ e ∷ back)) ≡ Some e
    at true q more = cc
    at false q more = more q

-- nobody's key is no one
pub nobody : (place : Place) (es : List Entry) → holder_of place es ≡ None → holder_entry place es ≡ None
nobody place es = at (holder_entry place es)
  where
    at : (o : Option Entry) → option_map (λ e. e.key) o ≡ None → o ≡ None
    at None h = refl
    at (Some e) h = cc

-- a key that is taken leaves who holds a place
pub taken_holder : (place : Place) (key : KeyView) (version : ℕ) (book : Book)
    → holder_entry place (with_taken key version book).entries ≡ holder_entry place book.entries
taken_holder place key version book = at (is_registered key book.entries)
  where
    at : (b : Bool) → holder_entry place (if b then book.entries else (book.entries ++ fresh key version book.taken ∷ [])) ≡ holder_entry place book.entries
    at true = refl
    at false = holder_more place book.entries (fresh key version book.taken) refl

-- so does a connection that is over
pub closed_held : (l : LayoutView) (place : Place) (key : KeyView) (book : Book)
    → held_word l place (with_closed key book).entries ≡ held_word l place book.entries
closed_held l place key book =
    held_changed l place closed key book.entries (λ e. refl) (all_of (λ e. is_of key e ≡ true → holds place (closed e) ≡ holds place e) (λ e h. refl) book.entries)

-- and a sweep
pub swept_held : (l : LayoutView) (place : Place) (key : KeyView) (hit : Bool) (book : Book)
    → held_word l place (with_swept key hit book).entries ≡ held_word l place book.entries
swept_held l place key hit book =
    held_changed l place (swept hit) key book.entries (λ e. refl) (all_of (λ e. is_of key e ≡ true → holds place (swept hit e) ≡ holds place e) (λ e h. refl) book.entries)

-- and a taken word
book_held : (l : LayoutView) (place : Place) (numbers : NumberRows) (ended : Option KeyView) (book : Book) (key : KeyView) (version : ℕ)
    (kind : RingKind) → held_word l place (book_by numbers ended book key version kind).entries ≡ held_word l place book.entries
book_held l place numbers ended book key version Learn = at (is_current_at (state_of key.vip version numbers))
  where
    at : (b : Bool) → held_word l place (if b then with_taken key version book else book).entries ≡ held_word l place book.entries
    at true = ap (option_map (λ e. live_word l place e.key e.version)) (taken_holder place key version book)
    at false = refl
book_held l place numbers ended book key version Punt = refl
book_held l place numbers ended book key version Close = at (is_ended key ended)
  where
    at : (b : Bool) → held_word l place (if b then book else with_closed key book).entries ≡ held_word l place book.entries
    at true = refl
    at false = closed_held l place key book

report_held : (k : Config) (c : ControllerView) (ended : Option KeyView) (pipe : ℕ) (place : Place) (o : Option RingWord)
    → held_word k.layout place (taken_report c ended pipe o).book.entries ≡ held_word k.layout place c.book.entries
report_held k c ended pipe place None = refl
report_held k c ended pipe place (Some w) = book_held k.layout place c.numbers ended c.book w.key w.version w.kind

pub take_held : (k : Config) (c : ControllerView) (ended : Option KeyView) (pipe x : ℕ) (place : Place)
    → held_word k.layout place (taking k c ended pipe x).book.entries ≡ held_word k.layout place c.book.entries
unfolding taking
take_held k c ended pipe x place = at (x == 0)
  where
    at : (t : Bool) → held_word k.layout place (if t then untaken c else taken_report c ended pipe (read_report k.layout x)).book.entries
        ≡ held_word k.layout place c.book.entries
    at true = refl
    at false = report_held k c ended pipe place (read_report k.layout x)

-- ---- an entry settles

none_at : (place : Place) (e : Entry) (r : Option Entry) → cond (holds place e) (Some e) r ≡ None → (holds place e ≡ false) × (r ≡ None)
none_at place e r h = at (holds place e) h
  where
    at : (b : Bool) → cond b (Some e) r ≡ None → (b ≡ false) × (r ≡ None)
    at true q = cc
    at false q = (refl, q)

-- at a place that nobody held it is found
pub settled_here : (place : Place) (key : KeyView) (es : List Entry) (e : Entry) → holder_entry place es ≡ None → entry_for key es ≡ Some e
    → holder_entry place (with_changed (settled place) key es) ≡ Some (settled place e)
settled_here place key [] e none h = cc
settled_here place key (x ∷ es) e none h =
    let n = none_at place x (find (holds place) es) none in
    at (is_of key x) n.0 h (settled_here place key es e n.1)
  where
    at : (b : Bool) → holds place x ≡ false → cond b (Some x) (entry_for key es) ≡ Some e
        → (entry_for key es ≡ Some e → holder_entry place (with_changed (settled place) key es) ≡ Some (settled place e))
        → cond (holds place (if b then settled place x else x)) (Some (if b then settled place x else x)) (holder_entry place (with_changed (settled place) key es))
        ≡ Some (settled place e)
    at true f q more =
        ap (λ t. cond (t || is_at place x.place) (Some (settled place x)) (holder_entry place (with_changed (settled place) key es))) (same_place-self place)
        ∙ ap (λ y. Some (settled place y)) (same_Some x e q)
    at false f q more =
        ap (λ t. cond t (Some x) (holder_entry place (with_changed (settled place) key es))) f ∙ more q

-- and other places are held as they were
pub settled_else : (l : LayoutView) (place other : Place) (key : KeyView) (es : List Entry) → same_place other place ≡ false
    → AllByRecursion (λ e. e.also ≡ None) es → held_word l other (with_changed (settled place) key es) ≡ held_word l other es
settled_else l place other key es apart none =
    held_changed l other (settled place) key es (λ e. refl)
    (all_then (λ e. e.also ≡ None) (λ e. is_of key e ≡ true → holds other (settled place e) ≡ holds other e) (λ e h q. at e h) es none)
  where
    at : (e : Entry) → e.also ≡ None → holds other (settled place e) ≡ holds other e
    at e h =
        ap (λ t. t || is_at other e.place) apart ∙ (by (is_at other e.place) ∙ ap (λ o. is_at other e.place || is_at other o) (sym h))
      where
        by : (b : Bool) → b ≡ (b || false)
        by true = refl
        by false = refl

-- the entry of a key that was just taken
pub record TakenEntry (key : KeyView) (version : ℕ) (es : List Entry) : Type 0 where
  pub entry : Entry
  pub found : entry_for key es ≡ Some entry
  pub own : entry.key ≡ key
  pub with_version : entry.version ≡ version

found_last : (key : KeyView) (es : List Entry) (e : Entry) → is_registered key es ≡ false → is_of key e ≡ true
    → entry_for key (es ++ e ∷ []) ≡ Some e
found_last key [] e none h = ap (λ b. cond b (Some e) None) h
found_last key (x ∷ es) e none h = at (is_of key x) none (found_last key es e)
  where
    at : (b : Bool) → (b || is_registered key es) ≡ false → (is_registered key es ≡ false → is_of key e ≡ true → entry_for key (es ++ e ∷ []) ≡ Some e)
        → cond b (Some x) (entry_for key (es ++ e ∷ [])) ≡ Some e
    at true q more = cc
    at false q more = more q h

pub taken_entry : (vips : List VipWord) (key : KeyView) (book : Book)
    → TakenEntry key (version_for vips book.entries key) (with_taken key (version_for vips book.entries key) book).entries
taken_entry vips key book = at (is_registered key book.entries) refl (entry_for key book.entries) refl
  where
    version : ℕ
    version = version_for vips book.entries key

    at : (b : Bool) → is_registered key book.entries ≡ b → (o : Option Entry) → entry_for key book.entries ≡ o
        → TakenEntry key version (if b then book.entries else (book.entries ++ fresh key version book.taken ∷ []))
    at true q None r = absurd (true≢false (sym q ∙ registered_none key book.entries r))
    at true q (Some e) r = record {
      entry = e;
      found = r;
      own = sym (same_key-true key e.key (found (is_of key) book.entries e r));
      with_version = sym (ap (λ o. unwrap_or (option_map (λ x. x.version) o) (learned vips key.vip)) r);
    }
    at false q o r = record {
      entry = fresh key version book.taken;
      found = found_last key book.entries (fresh key version book.taken) q (same_key-self key);
      own = refl;
      with_version = refl;
    }
