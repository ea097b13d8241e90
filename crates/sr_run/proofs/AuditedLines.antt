-- What judging a log needs to know of pools and of what the auditor of lists names.
use Rattle.std.proofs.Common.{◌≡◌, ℕ, ◌+◌, ◌≤◌, Bool, true, false, cond, List, [], ◌∷◌, length, reverse, Option, Some, None, inl, inr, ◌⊎◌, refl, sym, ap, ◌∙◌, subst, arith}
use Rattle.std.specs.Option.{option_or}
use Rattle.std.proofs.lemmas.List.{length-reverse}
use Rattle.sr_base.specs.Limit.{limit_of}
use Rattle.sr_base.specs.declared.change.Change.{Change}
use Rattle.sr_base.specs.declared.shape.Shape.{Shape}
use Rattle.sr_law.specs.declared.check_refusal.CheckRefusal.{CheckRefusal}
use Rattle.sr_law.specs.declared.check_refusal.CheckRefusal.TheVariants.{Breach, Memory}
use Rattle.sr_law.specs.declared.clause.Clause.{Clause}
use Rattle.sr_law.specs.declared.clause.Clause.TheVariants as C
use Rattle.sr_law.specs.declared.line.Line.{Line}
use Rattle.sr_law.specs.Final.{meets_final}
use Rattle.sr_law.specs.Lawful.{broken, breach_at, first_broken, breach_of}
use Rattle.sr_law.specs.Pools.{pools_from}
use Rattle.sr_law.specs.Retire.{EndingPacket, endings_of}
use Rattle.sr_law.specs.Setup.{SetupView}

pub pools_counted : (vip : ℕ) (first : List (List ℕ)) (changes : List Change) → length (pools_from vip first changes) ≡ length first
pools_counted vip [] changes = refl
pools_counted vip (pool ∷ rest) changes = let more = pools_counted (vip + 1) rest changes in omega arith

pub fits_pools : (shape : Shape) (first : List (List ℕ)) (changes : List Change) (servers : ℕ) → limit_of shape (length first) servers ≡ None → limit_of shape (length (pools_from 0 first changes)) servers ≡ None
fits_pools shape first changes servers fits = ap (λ n. limit_of shape n servers) (pools_counted 0 first changes) ∙ fits

-- ---- a breach is at a line that is there, or one past the last

abbrev IsWithin : ℕ → Option CheckRefusal → Type 0
IsWithin most None = Unit {0}
IsWithin most (Some (Breach line what)) = line ≤ most
IsWithin most (Some Memory) = Unit {0}

within_more : (most later : ℕ) (o : Option CheckRefusal) → most ≤ later → IsWithin most o → IsWithin later o
within_more most later None le within = tt
within_more most later (Some (Breach line what)) le within = omega arith
within_more most later (Some Memory) le within = tt

within_first : (most : ℕ) (a b : Option CheckRefusal) → IsWithin most a → IsWithin most b → IsWithin most (option_or a b)
within_first most None b first second = second
within_first most (Some breach) b first second = first

within_at : (most : ℕ) (o : Option Clause) → IsWithin most (breach_at most o)
within_at most None = tt
within_at most (Some what) = omega arith

first_within : (setup : SetupView) (endings : List EndingPacket) (before : List Line) → IsWithin (length before) (first_broken setup endings before)
unfolding first_broken
first_within setup endings [] = tt
first_within setup endings (line ∷ before) =
    let e : length before + 1 ≡ length (line ∷ before) = omega arith in
    subst (λ n. IsWithin n (option_or (first_broken setup endings before) (breach_at (length before + 1) (broken setup endings before line)))) e
    (within_first (length before + 1) (first_broken setup endings before) _
    (within_more (length before) (length before + 1) (first_broken setup endings before) (omega arith) (first_within setup endings before))
    (within_at (length before + 1) (broken setup endings before line)))

final_within : (most : ℕ) (met : Bool) → IsWithin most (cond met None (Some (Breach most C.Final)))
final_within most true = tt
final_within most false = omega arith

breach_within : (setup : SetupView) (lines : List Line) → IsWithin (length lines + 1) (breach_of setup lines)
unfolding breach_of
breach_within setup lines =
    let size : length (reverse lines) ≡ length lines = length-reverse lines in
    let found = first_broken setup (endings_of (reverse lines)) (reverse lines) in
    within_first (length lines + 1) found _
    (within_more (length (reverse lines)) (length lines + 1) found (omega arith) (first_within setup (endings_of (reverse lines)) (reverse lines)))
    (final_within (length lines + 1) (meets_final setup (reverse lines)))

-- the line that is named is one of the list, or one past its last
pub named_within : (setup : SetupView) (lines : List Line) (line : ℕ) (what : Clause) → breach_of setup lines ≡ Some (Breach line what) → line ≤ length lines + 1
named_within setup lines line what e = subst (IsWithin (length lines + 1)) e (breach_within setup lines)

-- the same of a refusal that names a line
pub refusal_within : (setup : SetupView) (lines : List Line) (refusal : CheckRefusal) (line : ℕ) (what : Clause) → refusal ≡ Breach line what → (refusal ≡ Memory) ⊎ (breach_of setup lines ≡ Some refusal) → line ≤ length lines + 1
refusal_within setup lines refusal line what is (inl none) = let bad : Memory ≡ Breach line what = sym none ∙ is in absurd cc
refusal_within setup lines refusal line what is (inr found) = named_within setup lines line what (found ∙ ap Some is)
