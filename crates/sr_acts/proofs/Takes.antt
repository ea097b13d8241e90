-- One word more was taken.
use Rattle.std.proofs.Common.{◌≡◌, ℕ, zero, suc, ◌+◌, ◌<◌, ◌≤◌, List, [], ◌∷◌, length, set, get_or, arith}
use Rattle.std.proofs.lemmas.List.Sums.{sum_by-cons}
use Rattle.sr_machine.specs.Deciding.{words_taken}
use Rattle.sr_machine.specs.declared.ring_count.RingCount.{RingCount}

pub words_more : (rings : List RingCount) (pipe : ℕ) (r d : RingCount) → pipe < length rings → r.words ≡ (get_or rings pipe d).words + 1
    → words_taken (set rings pipe r) ≡ words_taken rings + 1
words_more [] pipe r d h e = absurd (omega (arith, h))
words_more (x ∷ rings) zero r d h e =
    let a = sum_by-cons (λ (c : RingCount). c.words) r rings in
    let b = sum_by-cons (λ (c : RingCount). c.words) x rings in
    omega (arith, a, b, e)
words_more (x ∷ rings) (suc pipe) r d h e =
    let a = sum_by-cons (λ (c : RingCount). c.words) x (set rings pipe r) in
    let b = sum_by-cons (λ (c : RingCount). c.words) x rings in
    let rest = words_more rings pipe r d (omega (arith, h)) e in
    omega (arith, a, b, rest)

-- a ring has no more words than all have
pub words_least : (rings : List RingCount) (pipe : ℕ) (d : RingCount) → pipe < length rings → (get_or rings pipe d).words ≤ words_taken rings
words_least [] pipe d h = absurd (omega (arith, h))
words_least (x ∷ rings) zero d h = let b = sum_by-cons (λ (c : RingCount). c.words) x rings in omega (arith, b)
words_least (x ∷ rings) (suc pipe) d h =
    let b = sum_by-cons (λ (c : RingCount). c.words) x rings in
    let rest = words_least rings pipe d (omega (arith, h)) in
    omega (arith, b, rest)
