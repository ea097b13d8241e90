-- What a word that is taken from a ring makes of the book and of the held openers, by its cases.
use Rattle.std.proofs.Common.{◌≡◌, ℕ, ◌+◌, ◌^◌, ◌≤◌, Bool, true, false, ◌⊎◌, List, [], ◌∷◌, ◌++◌, if◌then◌else◌, nat_lt, ◌==◌, Some, None, Option, sym, refl, ◌∙◌, subst, inl, inr, arith}
use Rattle.std.proofs.lemmas.Bool.Decides.{nat_tests}
use Rattle.std.proofs.lemmas.Option.{same_Some}
use Rattle.sr_base.specs.Key.{KeyView}
use Rattle.sr_base.specs.Layout.{LayoutView}
use Rattle.sr_base.specs.RingWord.{kind_number}
use Rattle.sr_base.specs.declared.ring_word.RingKind.{RingKind}
use Rattle.sr_base.specs.declared.ring_word.RingKind.TheVariants.{Learn, Punt, Close}
use Rattle.sr_base.specs.declared.ring_word.RingWord.{RingWord}
use Rattle.sr_inv_facts.proofs.Reading.{report_fits}
use Rattle.sr_inv_facts.specs.Readings.{IfLearn, OnReport}
use Rattle.sr_machine.specs.Config.{Config}
use Rattle.sr_machine.specs.Deciding.{ring_count}
use Rattle.sr_machine.specs.Reads.{read_report}
use Rattle.sr_machine.specs.Taking.{Taken, book_by, is_current_at, is_ended, is_punt, taken_report, taking, untaken}
use Rattle.sr_machine.specs.declared.controller_view.ControllerView.{ControllerView}
use Rattle.sr_machine.specs.declared.held_opener.HeldOpener.{HeldOpener}
use Rattle.sr_shadow.specs.Book.{is_registered, with_closed, with_new, with_taken}
use Rattle.sr_shadow.specs.Entry.{fresh}
use Rattle.sr_shadow.specs.declared.book.Book.{Book}
use Rattle.sr_shadow.specs.declared.entry.Entry.{Entry}
use Rattle.sr_update.specs.Numbers.{NumberRows, state_of}
use Rattle.sr_update.specs.declared.number_state.NumberState.{NumberState}
use Rattle.sr_update.specs.declared.number_state.NumberState.TheVariants.{Free, Current, Draining}

-- what a report tells is registered, or of a version that is no longer learned
abbrev pub IsOld : NumberRows → List Entry → RingWord → Type 0
IsOld numbers entries w = (is_registered w.key entries ≡ true) ⊎ (is_current_at (state_of w.key.vip w.version numbers) ≡ false)

abbrev pub Untold : NumberRows → List Entry → RingWord → Type 0
Untold numbers entries w = IfLearn w.kind (IsOld numbers entries w)

-- the book after it: a key is registered, or marked as closed, or nothing changes; then what was learned, if something was, is registered
-- or of a version that is no longer learned
pub data TakesBook (l : LayoutView) (numbers : NumberRows) (ended : Option KeyView) (x : ℕ) (b : Book) : Book → Type 0 where
  same_book :
      OnReport l x (Untold numbers b.entries)
      → TakesBook l numbers ended x b b
  learned_book : (w : RingWord) → read_report l x ≡ Some w → w.kind ≡ Learn → state_of w.key.vip w.version numbers ≡ Some Current
      → is_registered w.key b.entries ≡ false
      → TakesBook l numbers ended x b (with_new w.key w.version b)
  closed_book : (w : RingWord) → read_report l x ≡ Some w → w.kind ≡ Close → is_ended w.key ended ≡ false
      → TakesBook l numbers ended x b (with_closed w.key b)

-- the held openers after it
pub data TakesHeld (l : LayoutView) (pipe punts x : ℕ) (held : List HeldOpener) : List HeldOpener → Type 0 where
  same_held : TakesHeld l pipe punts x held held
  told_held : (w : RingWord) → read_report l x ≡ Some w → w.kind ≡ Punt
      → TakesHeld l pipe punts x held (held ++ record { pipe = pipe; nth = punts + 1; key = w.key } ∷ [])

kind_some : (kind : RingKind) → 1 ≤ kind_number kind
kind_some Learn = omega arith
kind_some Punt = omega arith
kind_some Close = omega arith

-- 0 is no report
pub none_reported : (l : LayoutView) (x : ℕ) (w : RingWord) → (x == 0) ≡ true → read_report l x ≡ Some w → ⊥
none_reported l x w z e =
    let zero_is : x ≡ 0 = grind (arith, nat_tests) in
    omega (arith, (report_fits l x w e).2, kind_some w.kind)

current_is : (o : Option NumberState) → is_current_at o ≡ true → o ≡ Some Current
current_is None e = cc
current_is (Some Free) e = cc
current_is (Some Current) e = refl
current_is (Some Draining) e = cc

module _ (l : LayoutView) (numbers : NumberRows) (ended : Option KeyView) (x : ℕ) (b : Book) (w : RingWord) (is : read_report l x ≡ Some w) where
  one_report : (P : RingWord → Type 0) → P w → OnReport l x P
  one_report P h u e = subst P (same_Some w u (sym is ∙ e)) h

  registers : w.kind ≡ Learn → is_current_at (state_of w.key.vip w.version numbers) ≡ true → (r : Bool) → is_registered w.key b.entries ≡ r
      → TakesBook l numbers ended x b (record {
        entries = if r then b.entries else (b.entries ++ fresh w.key w.version b.taken ∷ []);
        taken = if r then b.taken else (b.taken + 1);
      })
  registers q c true r =
      same_book (one_report (Untold numbers b.entries) (subst (λ m. IfLearn m (IsOld numbers b.entries w)) (sym q) (inl r)))
  registers q c false r = learned_book w is q (current_is (state_of w.key.vip w.version numbers) c) r

  kind_takes : (kind : RingKind) → w.kind ≡ kind → TakesBook l numbers ended x b (book_by numbers ended b w.key w.version kind)
  kind_takes Learn q = at (is_current_at (state_of w.key.vip w.version numbers)) refl
    where
      at : (c : Bool) → is_current_at (state_of w.key.vip w.version numbers) ≡ c
          → TakesBook l numbers ended x b (if c then with_taken w.key w.version b else b)
      at true e = registers q e (is_registered w.key b.entries) refl
      at false e =
          same_book (one_report (Untold numbers b.entries) (subst (λ m. IfLearn m (IsOld numbers b.entries w)) (sym q) (inr e)))
  kind_takes Punt q =
      same_book (one_report (Untold numbers b.entries) (subst (λ m. IfLearn m (IsOld numbers b.entries w)) (sym q) tt))
  kind_takes Close q = at (is_ended w.key ended) refl
    where
      at : (c : Bool) → is_ended w.key ended ≡ c → TakesBook l numbers ended x b (if c then b else with_closed w.key b)
      at true e =
          same_book (one_report (Untold numbers b.entries) (subst (λ m. IfLearn m (IsOld numbers b.entries w)) (sym q) tt))
      at false e = closed_book w is q e

  held_takes : (pipe punts : ℕ) (held : List HeldOpener) (kind : RingKind) → w.kind ≡ kind
      → TakesHeld l pipe punts x held (if is_punt kind punts then (held ++ record { pipe = pipe; nth = punts + 1; key = w.key } ∷ []) else held)
  held_takes pipe punts held Learn q = same_held
  held_takes pipe punts held Close q = same_held
  held_takes pipe punts held Punt q = at (nat_lt (punts + 1) (2 ^ 32))
    where
      at : (c : Bool)
          → TakesHeld l pipe punts x held (if c then (held ++ record { pipe = pipe; nth = punts + 1; key = w.key } ∷ []) else held)
      at true = told_held w is q
      at false = same_held

-- what a take makes of both
pub record Takes (k : Config) (c : ControllerView) (ended : Option KeyView) (pipe x : ℕ) (t : Taken) : Type 0 where
  pub book : TakesBook k.layout c.numbers ended x c.book t.book
  pub held : TakesHeld k.layout pipe (ring_count c.rings pipe).punts x c.held t.held

report_takes : (k : Config) (c : ControllerView) (ended : Option KeyView) (pipe x : ℕ) (o : Option RingWord) → read_report k.layout x ≡ o
    → Takes k c ended pipe x (taken_report c ended pipe o)
report_takes k c ended pipe x None e = record { book = same_book (λ w q. absurd cc); held = same_held }
report_takes k c ended pipe x (Some w) e = record {
  book = kind_takes k.layout c.numbers ended x c.book w e w.kind refl;
  held = held_takes k.layout c.numbers ended x c.book w e pipe (ring_count c.rings pipe).punts c.held w.kind refl;
}

pub takes : (k : Config) (c : ControllerView) (ended : Option KeyView) (pipe x : ℕ) → Takes k c ended pipe x (taking k c ended pipe x)
unfolding taking
takes k c ended pipe x = at (x == 0) refl
  where
    at : (z : Bool) → (x == 0) ≡ z
        → Takes k c ended pipe x (if z then untaken c else taken_report c ended pipe (read_report k.layout x))
    at true e = record { book = same_book (λ w q. absurd (none_reported k.layout x w e q)); held = same_held }
    at false e = report_takes k c ended pipe x (read_report k.layout x) refl
