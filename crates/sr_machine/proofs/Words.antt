-- Words as a function of their names.
use Rattle.std.proofs.Common.{◌≡◌, ℕ, Bool, true, false, refl, ap, arith, if◌then◌else◌}
use Rattle.std.proofs.lemmas.Bool.Decides.{nat_tests}
use Rattle.sr_base.proofs.Sameness.{same_place-self, same_place-true}
use Rattle.sr_base.specs.declared.place.Place.TheVariants.{Slot, Row}
use Rattle.sr_base.specs.declared.word_name.WordName.{WordName}
use Rattle.sr_base.specs.declared.word_name.WordName.TheVariants as word
use Rattle.sr_machine.specs.Names.{name_for, rewritten, same_name, word_name}
use Rattle.sr_machine.specs.declared.name.Name.{Name}
use Rattle.sr_machine.specs.declared.name.Name.TheVariants.{Tick, Note, Ring, Entry, Hit, Vip, Head, Member, Down, Filter}

-- each name here has one there, and the other way round
pub named_back : (name : Name) → name_for (word_name name) ≡ name
named_back Tick = refl
named_back (Note pipe) = refl
named_back (Ring pipe cell) = refl
named_back (Entry (Slot way bucket cell)) = refl
named_back (Entry (Row row)) = refl
named_back (Hit place) = refl
named_back (Vip vip) = refl
named_back (Head vip version) = refl
named_back (Member vip version index) = refl
named_back (Down server) = refl
named_back (Filter index) = refl

pub named_there : (at : WordName) → word_name (name_for at) ≡ at
named_there word.Tick = refl
named_there (word.Note pipe) = refl
named_there (word.Ring pipe cell) = refl
named_there (word.Slot way bucket cell) = refl
named_there (word.Full row) = refl
named_there (word.Hit place) = refl
named_there (word.Vip vip) = refl
named_there (word.Head vip version) = refl
named_there (word.Member vip version index) = refl
named_there (word.Down server) = refl
named_there (word.Filter index) = refl

-- equal names are one
pub same_name-self : (a : Name) → same_name a a ≡ true
same_name-self Tick = refl
same_name-self (Note pipe) = grind (arith, nat_tests)
same_name-self (Ring pipe cell) = grind (arith, nat_tests)
same_name-self (Entry place) = same_place-self place
same_name-self (Hit place) = same_place-self place
same_name-self (Vip vip) = grind (arith, nat_tests)
same_name-self (Head vip version) = grind (arith, nat_tests)
same_name-self (Member vip version index) = grind (arith, nat_tests)
same_name-self (Down server) = grind (arith, nat_tests)
same_name-self (Filter index) = grind (arith, nat_tests)

pub same_name-true : (a b : Name) → same_name a b ≡ true → a ≡ b
same_name-true Tick Tick h = refl
same_name-true (Note pipe) (Note other) h = grind (arith, nat_tests)
same_name-true (Ring pipe cell) (Ring other at) h = grind (arith, nat_tests)
same_name-true (Entry place) (Entry other) h = ap Entry (same_place-true place other h)
same_name-true (Hit place) (Hit other) h = ap Hit (same_place-true place other h)
same_name-true (Vip vip) (Vip other) h = grind (arith, nat_tests)
same_name-true (Head vip version) (Head other at) h = grind (arith, nat_tests)
same_name-true (Member vip version index) (Member other at i) h = grind (arith, nat_tests)
same_name-true (Down server) (Down other) h = grind (arith, nat_tests)
same_name-true (Filter index) (Filter other) h = grind (arith, nat_tests)
same_name-true a b h = cc

module _ (words : Name → ℕ) where
  -- a store is found at its name
  pub rewritten_here : (a : Name) (x : ℕ) → rewritten words a x a ≡ x
  rewritten_here a x = ap (λ t. if t then x else words a) (same_name-self a)

  -- and leaves the words of other names
  pub rewritten_else : (a b : Name) (x : ℕ) → same_name a b ≡ false → rewritten words a x b ≡ words b
  rewritten_else a b x h = ap (λ t. if t then x else words b) h

  -- to store the word that was there changes nothing
  pub rewritten_same : (a b : Name) → rewritten words a (words a) b ≡ words b
  rewritten_same a b = at (same_name a b) refl
    where
      at : (t : Bool) → same_name a b ≡ t → (if t then words a else words b) ≡ words b
      at true h = ap words (same_name-true a b h)
      at false h = refl
