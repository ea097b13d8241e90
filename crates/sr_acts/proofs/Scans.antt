-- Pending entries that are asked one after another, in the order of taking.
use Rattle.std.proofs.Common.{◌≡◌, ℕ, ◌+◌, ◌<◌, ◌≤◌, nat_le, Bool, true, false, cond, ◌&&◌, List, [], ◌∷◌, find, Some, None, refl, sym, ◌∙◌, ap, subst, true≢false, arith}
use Rattle.std.proofs.lemmas.Bool.{and_parts}
use Rattle.std.proofs.lemmas.Bool.Decides.{nat_tests}
use Rattle.sr_acts.specs.Pending.{IsAsked, NoneBefore, number_of}
use Rattle.sr_shadow.proofs.Finding.{found_passes, some_is}
use Rattle.sr_shadow.specs.Book.{TakenFrom, pending_from}
use Rattle.sr_shadow.specs.Entry.{is_pending}
use Rattle.sr_shadow.specs.declared.book.Book.{Book}
use Rattle.sr_shadow.specs.declared.entry.Entry.{Entry}

-- nothing was asked yet
pub none_yet : (test : Entry → Bool) (es : List Entry) → NoneBefore test 0 es
none_yet test [] = tt
none_yet test (e ∷ es) = (λ h. absurd (omega (arith, h)), none_yet test es)

-- numbers that rise from one are not before it
none_later : (test : Entry → Bool) (low high number : ℕ) (es : List Entry) → TakenFrom low es high → number ≤ low → NoneBefore test number es
none_later test low high number [] t h = tt
none_later test low high number (e ∷ es) t h =
    (λ g. absurd (omega (arith, g, h, t.0)), none_later test (e.taken + 1) high number es t.1 (omega (arith, h, t.0)))

module _ (test : Entry → Bool) (pends : (e : Entry) → test e ≡ true → is_pending e ≡ true) where
  -- one that isn't pending or was asked doesn't pass
  refused : (n : ℕ) (e : Entry) → (e.taken < n → test e ≡ false) → (nat_le n e.taken && is_pending e) ≡ false → test e ≡ false
  refused n e asked h = at (test e) refl
    where
      here : (a : Bool) → nat_le n e.taken ≡ a → (a && true) ≡ false → test e ≡ true → true ≡ false
      here true q f t = f
      here false q f t = sym t ∙ asked (grind (arith, nat_tests))

      at : (b : Bool) → test e ≡ b → test e ≡ false
      at false t = t
      at true t = absurd (true≢false (here (nat_le n e.taken) refl (subst (λ p. (nat_le n e.taken && p) ≡ false) (pends e t) h) t))

  -- the first that passes is found
  pub scan_found : (n : ℕ) (es : List Entry) (e : Entry) → NoneBefore test n es → pending_from n es ≡ Some e → test e ≡ true
      → find test es ≡ Some e
  scan_found n [] e a q t = cc
  scan_found n (x ∷ es) e a q t = at (nat_le n x.taken && is_pending x) refl q (scan_found n es e a.1)
    where
      at : (b : Bool) → (nat_le n x.taken && is_pending x) ≡ b → cond b (Some x) (pending_from n es) ≡ Some e
          → (pending_from n es ≡ Some e → test e ≡ true → find test es ≡ Some e) → cond (test x) (Some x) (find test es) ≡ Some e
      at true h f more = ap (λ b. cond b (Some x) (find test es)) (ap test (some_is x e f) ∙ t) ∙ f
      at false h f more = ap (λ b. cond b (Some x) (find test es)) (refused n x a.0 h) ∙ more f t

  -- nothing passes
  pub scan_none : (n : ℕ) (es : List Entry) → NoneBefore test n es → pending_from n es ≡ None → find test es ≡ None
  scan_none n [] a q = refl
  scan_none n (x ∷ es) a q = at (nat_le n x.taken && is_pending x) refl q (scan_none n es a.1)
    where
      at : (b : Bool) → (nat_le n x.taken && is_pending x) ≡ b → cond b (Some x) (pending_from n es) ≡ None
          → (pending_from n es ≡ None → find test es ≡ None) → cond (test x) (Some x) (find test es) ≡ None
      at true h f more = cc
      at false h f more = ap (λ b. cond b (Some x) (find test es)) (refused n x a.0 h) ∙ more f

  -- one more was asked
  pub scan_on : (n low high : ℕ) (es : List Entry) (e : Entry) → TakenFrom low es high → NoneBefore test n es → pending_from n es ≡ Some e
      → test e ≡ false → NoneBefore test (e.taken + 1) es
  scan_on n low high [] e r a q t = tt
  scan_on n low high (x ∷ es) e r a q t = at (nat_le n x.taken && is_pending x) refl q (scan_on n (x.taken + 1) high es e r.1 a.1)
    where
      at : (b : Bool) → (nat_le n x.taken && is_pending x) ≡ b → cond b (Some x) (pending_from n es) ≡ Some e
          → (pending_from n es ≡ Some e → test e ≡ false → NoneBefore test (e.taken + 1) es) → NoneBefore test (e.taken + 1) (x ∷ es)
      at true h f more =
          let same : x ≡ e = some_is x e f in
          (λ g. ap test same ∙ t, none_later test (x.taken + 1) high (e.taken + 1) es r.1 (subst (λ (z : Entry). z.taken + 1 ≤ x.taken + 1) same (omega arith)))
      at false h f more = (λ g. refused n x a.0 h, more f t)

-- before the first that passes none does, and where none does at all
pub none_before : (test : Entry → Bool) (low high : ℕ) (es : List Entry) → TakenFrom low es high → NoneBefore test (number_of (find test es) high) es
none_before test low high [] r = tt
none_before test low high (x ∷ es) r = at (test x) refl (none_before test (x.taken + 1) high es r.1)
  where
    at : (b : Bool) → test x ≡ b → NoneBefore test (number_of (find test es) high) es
        → NoneBefore test (number_of (cond b (Some x) (find test es)) high) (x ∷ es)
    at true t more = (λ g. absurd (omega (arith, g)), none_later test (x.taken + 1) high x.taken es r.1 (omega arith))
    at false t more = (λ g. t, more)

-- the number is among those that were taken
rises : (low high : ℕ) (es : List Entry) → TakenFrom low es high → low ≤ high
rises low high [] r = r
rises low high (x ∷ es) r = let more : x.taken + 1 ≤ high = rises (x.taken + 1) high es r.1 in omega (arith, more, r.0)

pub number_within : (test : Entry → Bool) (low high : ℕ) (es : List Entry) → TakenFrom low es high → number_of (find test es) high ≤ high
number_within test low high [] r = omega arith
number_within test low high (x ∷ es) r = at (test x) (number_within test (x.taken + 1) high es r.1)
  where
    at : (b : Bool) → number_of (find test es) high ≤ high → number_of (cond b (Some x) (find test es)) high ≤ high
    at true more = let past : x.taken + 1 ≤ high = rises (x.taken + 1) high es r.1 in omega (arith, past)
    at false more = more

pub asked_to : (test : Entry → Bool) (b : Book) (n : ℕ) → TakenFrom 0 b.entries b.taken → n ≡ number_of (find test b.entries) b.taken → IsAsked test n b
asked_to test b n r q = record {
  within = subst (λ m. m ≤ b.taken) (sym q) (number_within test 0 b.taken b.entries r);
  none = subst (λ m. NoneBefore test m b.entries) (sym q) (none_before test 0 b.taken b.entries r);
}

pub asked_none : (test : Entry → Bool) (b : Book) → IsAsked test 0 b
asked_none test b = record { within = omega arith; none = none_yet test b.entries }

-- how far the next one is
pub scan_further : (n : ℕ) (es : List Entry) (e : Entry) → pending_from n es ≡ Some e → n ≤ e.taken
scan_further n es e q =
    let t : nat_le n e.taken ≡ true = (and_parts (nat_le n e.taken) (is_pending e) (found_passes (λ e. nat_le n e.taken && is_pending e) es e q)).0 in
    grind (arith, nat_tests)
