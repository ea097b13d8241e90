-- The walk gives a value exactly where the schema has it: the words.
use Rattle.std.proofs.Common.{◌≡◌, ℕ, ◌≤◌, Bool, true, false, ℤ, pos, negsuc, List, [], ◌∷◌, ◌++◌, length, nat_le, le-leb, append-nil, Option, Some, None, Result, Ok, Err, refl, sym, ap, ◌∙◌, arith, append_assoc}
use Rattle.std.proofs.lemmas.Bool.Decides.{nat_tests}
use Rattle.std.proofs.Common.{cond, ok_or}
use Rattle.std.specs.List.{list_any, AllByRecursion}
use Rattle.std.specs.Str.{bytes_eq}
use Rattle.toml.specs.Data.{Data, as_integer}
use Rattle.sr_script.specs.declared.why.Why.{Why}
use Rattle.sr_script.specs.declared.why.Why.TheVariants.{WrongType, Repeated}
use Rattle.sr_script.specs.declared.section.Section.{Section}
use Rattle.sr_script.specs.declared.rule.Rule.{Rule}
use Rattle.sr_script.specs.Fault.{Judgement, Reading, ◌>>=◌, at_path, each_after}
use Rattle.sr_script.specs.Judge.{fits, by_rule, number, some, at_most, fresh}
use Rattle.sr_script.specs.Walk.{only_known}
use Rattle.sr_script.specs.Schema.{IsAmong, SpellAll, EachAfter, SpellsNumber, IsNew}

-- what a chain gives comes from what its first part gives
pub bound : {A B E : Type 0} (r : Result A E) (f : A → Result B E) (y : B) → (r >>= f) ≡ Ok y → (x : A) × (r ≡ Ok x) × (f x ≡ Ok y)
bound (Ok x) f y h = (x, refl, h)
bound (Err e) f y h = cc

-- the same, with what follows from it
pub chain : {A B E : Type 0} {P : Type 0} (r : Result A E) (f : A → Result B E) (y : B) → (r >>= f) ≡ Ok y → ((x : A) → r ≡ Ok x → f x ≡ Ok y → P) → P
chain (Ok x) f y h so = so x refl h
chain (Err e) f y h so = absurd (cc)

pub ok_same : {A : Type 0} (x y : A) → ◌≡◌ {A = Reading A} (Ok x) (Ok y) → y ≡ x
ok_same x y h = cc

pub at_path_ok : {A : Type 0} (path : List ℕ) (j : Judgement A) (x : A) → at_path path j ≡ Ok x → j ≡ Ok x
at_path_ok path (Ok x) y h = cc
at_path_ok path (Err why) y h = cc

pub ok_or_ok : {A E : Type 0} (o : Option A) (e : E) (x : A) → ok_or o e ≡ Ok x → o ≡ Some x
ok_or_ok None e x h = cc
ok_or_ok (Some y) e x h = cc

-- a test that lets a value through
pub tested : {A E : Type 0} (b : Bool) (r : Result A E) (e : E) (x : A) → cond b r (Err e) ≡ Ok x → (b ≡ true) × (r ≡ Ok x)
tested true r e x h = (refl, h)
tested false r e x h = cc

by_rule_to : (rule : Rule) (why : Why) (z : ℤ) (n : ℕ) → by_rule rule why z ≡ Ok n → (z ≡ pos n) × (fits rule n ≡ true)
by_rule_to rule why (pos m) n h =
    let t = tested (fits rule m) (Ok m) why n h in
    let same : m ≡ n = cc in
    (ap pos same, rw (← same) t.0)
by_rule_to rule why (negsuc m) n h = cc

-- a whole number of a rule
pub number_to : (rule : Rule) (why : Why) (d : Data) (n : ℕ) → number rule why d ≡ Ok n → SpellsNumber rule d n
number_to rule why d n h =
    let b = bound (ok_or (as_integer d) WrongType) (by_rule rule why) n h in
    let w : as_integer d ≡ Some b.0 = ok_or_ok (as_integer d) WrongType b.0 b.1 in
    let r = by_rule_to rule why b.0 n b.2 in
    (w ∙ ap Some r.0, r.1)

pub number_from : (rule : Rule) (why : Why) (d : Data) (n : ℕ) → SpellsNumber rule d n → number rule why d ≡ Ok n
number_from rule why d n h = rw (h.0, h.1)

-- an array of some elements
pub some_to : {A : Type 0} (why : Why) (xs ys : List A) → some why xs ≡ Ok ys → (ys ≡ xs) × (1 ≤ length xs)
some_to why [] ys h = cc
some_to why (x ∷ xs) ys h = (cc, omega arith)

pub some_from : {A : Type 0} (why : Why) (xs : List A) → 1 ≤ length xs → some why xs ≡ Ok xs
some_from why [] h = absurd (omega arith)
some_from why (x ∷ xs) h = refl

pub at_most_to : {A : Type 0} (most : ℕ) (why : Why) (xs ys : List A) → at_most most why xs ≡ Ok ys → (ys ≡ xs) × (length xs ≤ most)
at_most_to most why xs ys h =
    let t = tested (nat_le (length xs) most) (Ok xs) why ys h in
    let le : length xs ≤ most = grind (arith, nat_tests, t.0) in
    (cc, le)

pub at_most_from : {A : Type 0} (most : ℕ) (why : Why) (xs : List A) → length xs ≤ most → at_most most why xs ≡ Ok xs
at_most_from most why xs h = rw (le-leb (length xs) most h)

pub fresh_cases : {A : Type 0} (b : Bool) (x y : A) → cond b (Err Repeated) (Ok x) ≡ Ok y → (y ≡ x) × (b ≡ false)
fresh_cases true x y h = cc
fresh_cases false x y h = (cc, refl)

pub fresh_to : {A : Type 0} (same : A → A → Bool) (before : List A) (x y : A) → fresh same before x ≡ Ok y → (y ≡ x) × IsNew same before x
fresh_to same before x y h = fresh_cases (list_any (λ z. same z x) before) x y h

pub fresh_from : {A : Type 0} (same : A → A → Bool) (before : List A) (x : A) → IsNew same before x → fresh same before x ≡ Ok x
fresh_from same before x new = rw new

-- known keys alone
pub known_to : (section : Section) (known keys : List (List ℕ)) → only_known section known keys ≡ Ok tt → AllByRecursion (IsAmong known) keys
unfolding only_known
known_to section known [] h = tt
known_to section known (key ∷ keys) h =
    let t = tested (list_any (bytes_eq key) known) (only_known section known keys) _ tt h in
    (t.0, known_to section known keys t.1)

pub known_from : (section : Section) (known keys : List (List ℕ)) → AllByRecursion (IsAmong known) keys → only_known section known keys ≡ Ok tt
unfolding only_known
known_from section known [] h = refl
known_from section known (key ∷ keys) h = rw h.0 (known_from section known keys h.1)

-- the elements of an array, by what the step means for one
pub each_to : {A : Type 0} (R : Data → A → Type 0) (Q : List A → A → Type 0) (step : List A → Data → Reading A)
    → ((before : List A) (d : Data) (x : A) → step before d ≡ Ok x → R d x × Q before x)
    → (before : List A) (ds : List Data) (ys : List A) → each_after step before ds ≡ Ok ys → (xs : List A) × (ys ≡ before ++ xs) × SpellAll R ds xs × EachAfter Q before xs
unfolding each_after
each_to R Q step means before [] ys h =
    let same : ys ≡ before = cc in
    ([], same ∙ sym (append-nil before), tt, tt)
each_to R Q step means before (d ∷ ds) ys h =
    let b = bound (step before d) (λ x. each_after step (before ++ x ∷ []) ds) ys h in
    let m = means before d b.0 b.1 in
    let rest = each_to R Q step means (before ++ b.0 ∷ []) ds ys b.2 in
    (b.0 ∷ rest.0, rest.1 ∙ append_assoc before (b.0 ∷ []) rest.0, (m.0, rest.2), (m.1, rest.3))

pub each_from : {A : Type 0} (R : Data → A → Type 0) (Q : List A → A → Type 0) (step : List A → Data → Reading A)
    → ((before : List A) (d : Data) (x : A) → R d x → Q before x → step before d ≡ Ok x)
    → (before : List A) (ds : List Data) (xs : List A) → SpellAll R ds xs → EachAfter Q before xs → each_after step before ds ≡ Ok (before ++ xs)
unfolding each_after
each_from R Q step means before [] [] r q = ap Ok (sym (append-nil before))
each_from R Q step means before [] (x ∷ xs) r q = absurd r
each_from R Q step means before (d ∷ ds) [] r q = absurd r
each_from R Q step means before (d ∷ ds) (x ∷ xs) r q =
    rw (means before d x r.0 q.0) (each_from R Q step means (before ++ x ∷ []) ds xs r.1 q.1 ∙ ap Ok (append_assoc before (x ∷ []) xs))

-- they are as many
pub SpellAll-length : {A : Type 0} (R : Data → A → Type 0) (ds : List Data) (xs : List A) → SpellAll R ds xs → length xs ≡ length ds
SpellAll-length R [] [] h = refl
SpellAll-length R [] (x ∷ xs) h = absurd h
SpellAll-length R (d ∷ ds) [] h = absurd h
SpellAll-length R (d ∷ ds) (x ∷ xs) h = let more = SpellAll-length R ds xs h.1 in omega arith
