-- What an auditor names, and lawful lists: none is named exactly where the list is lawful.
use Rattle.std.proofs.Common.{◌≡◌, ℕ, zero, suc, ◌+◌, ◌<◌, ◌≤◌, ◌↔◌, Bool, true, false, cond, refl, sym, ap, subst, ◌∙◌, List, [], length, get_or, take, reverse, Option, Some, None, inl, inr, arith}
use Rattle.std.specs.List.{slice_get}
use Rattle.std.specs.Option.{option_or}
use Rattle.std.proofs.Math.Numerals.{add-one}
use Rattle.std.proofs.Math.Seq.{take-length}
use Rattle.std.proofs.lemmas.Bool.{cases_lt}
use Rattle.std.proofs.lemmas.Option.{none-some, slice_get_within, get_or_from_slice_get, slice_get-get_or}
use Rattle.std.proofs.lemmas.List.{length-reverse, length-take-le}
use Rattle.sr_law.proofs.Newest.{newest_more}
use Rattle.sr_law.specs.declared.clause.Clause.{Clause}
use Rattle.sr_law.specs.declared.clause.Clause.TheVariants as C
use Rattle.sr_law.specs.declared.check_refusal.CheckRefusal.{CheckRefusal}
use Rattle.sr_law.specs.declared.check_refusal.CheckRefusal.TheVariants.{Breach}
use Rattle.sr_law.specs.declared.line.Line.{Line}
use Rattle.sr_law.specs.declared.line.Line.TheVariants.{Recorded}
use Rattle.sr_law.specs.Final.{meets_final}
use Rattle.sr_law.specs.Lawful.{broken, NoLineBreaks, IsLawful, breach_at, first_broken, breach_of}
use Rattle.sr_law.specs.Retire.{EndingPacket, endings_of}
use Rattle.sr_law.specs.Setup.{SetupView}

pub first_parts : (a b : Option CheckRefusal) → option_or a b ≡ None → (a ≡ None) × (b ≡ None)
first_parts None b e = (refl, e)
first_parts (Some breach) b e = absurd (none-some breach (sym e))

pub first_none : (a b : Option CheckRefusal) → a ≡ None → b ≡ None → option_or a b ≡ None
first_none None b p q = q
first_none (Some breach) b p q = absurd (none-some breach (sym p))

pub at_none : (n : ℕ) (clause : Option Clause) → breach_at n clause ≡ None → clause ≡ None
at_none n None e = refl
at_none n (Some clause) e = absurd (none-some (Breach n clause) (sym e))

pub none_at : (n : ℕ) (clause : Option Clause) → clause ≡ None → breach_at n clause ≡ None
none_at n None e = refl
none_at n (Some clause) e = absurd (none-some clause (sym e))

-- one line more is named by its own position, where none before it is
pub first_more : (setup : SetupView) (endings : List EndingPacket) (lines : List Line) (i : ℕ) (d : Line) → i < length lines → first_broken setup endings (reverse (take (i + 1) lines)) ≡ option_or (first_broken setup endings (reverse (take i lines))) (breach_at (i + 1) (broken setup endings (reverse (take i lines)) (get_or lines i d)))
unfolding first_broken
first_more setup endings lines i d h =
    let before = reverse (take i lines) in
    let size : length before ≡ i = length-reverse (take i lines) ∙ length-take-le i lines (omega arith) in
    ap (first_broken setup endings) (newest_more lines i d h)
    ∙ ap (λ n. option_or (first_broken setup endings before) (breach_at (n + 1) (broken setup endings before (get_or lines i d)))) size

-- of no lines none is named
pub first_zero : (setup : SetupView) (endings : List EndingPacket) → first_broken setup endings [] ≡ None
unfolding first_broken
first_zero setup endings = refl

module _ (setup : SetupView) (endings : List EndingPacket) (lines : List Line) where
  -- among the first n
  named : ℕ → Option CheckRefusal
  named n = first_broken setup endings (reverse (take n lines))

  more : (n : ℕ) (d : Line) → n < length lines → named (suc n) ≡ option_or (named n) (breach_at (n + 1) (broken setup endings (reverse (take n lines)) (get_or lines n d)))
  unfolding named
  more n d h = ap (λ k. first_broken setup endings (reverse (take k lines))) (sym (add-one n)) ∙ first_more setup endings lines n d h

  -- where none of the first n is named, none of them breaks a clause
  none_breaks : (n : ℕ) → n ≤ length lines → named n ≡ None → (i : ℕ) (line : Line) → i < n → slice_get lines i ≡ Some line → broken setup endings (reverse (take i lines)) line ≡ None
  none_breaks zero h e i line below is = absurd (omega (arith, below))
  none_breaks (suc n) h e i line below is =
      let parts = first_parts (named n) (breach_at (n + 1) (broken setup endings (reverse (take n lines)) (get_or lines n line))) (sym (more n line (omega arith)) ∙ e) in
      elim (cases_lt i n) [
        | inl earlier ↦ none_breaks n (omega arith) parts.0 i line earlier is
        | inr late ↦
            let same : i ≡ n = omega arith in
            let at : get_or lines n line ≡ line = get_or_from_slice_get lines n line line (subst (λ k. slice_get lines k ≡ Some line) same is) in
            let met : broken setup endings (reverse (take n lines)) (get_or lines n line) ≡ None =
            at_none (n + 1) (broken setup endings (reverse (take n lines)) (get_or lines n line)) parts.1 in
            subst (λ k. broken setup endings (reverse (take k lines)) line ≡ None) (sym same) (subst (λ x. broken setup endings (reverse (take n lines)) x ≡ None) at met)
      ]

  zero_named : named zero ≡ None
  unfolding named first_broken
  zero_named = refl

  -- where none breaks a clause, none is named
  none_named : NoLineBreaks setup endings lines → (n : ℕ) → n ≤ length lines → named n ≡ None
  none_named met zero h = zero_named
  none_named met (suc n) h =
      let d : Line = Recorded 0 0 in
      more n d (omega arith)
      ∙ first_none (named n) (breach_at (n + 1) (broken setup endings (reverse (take n lines)) (get_or lines n d)))
      (none_named met n (omega arith))
      (none_at (n + 1) (broken setup endings (reverse (take n lines)) (get_or lines n d))
      (met n (get_or lines n d) (slice_get-get_or lines n d (omega arith))))

  all_named : first_broken setup endings (reverse lines) ≡ named (length lines)
  unfolding named
  all_named = ap (λ x. first_broken setup endings (reverse x)) (sym (take-length lines))

-- no line is named exactly where none breaks a clause
pub first_broken-none : (setup : SetupView) (endings : List EndingPacket) (lines : List Line) → (first_broken setup endings (reverse lines) ≡ None) ↔ NoLineBreaks setup endings lines
first_broken-none setup endings lines = (
  λ e i line is. none_breaks setup endings lines (length lines) (omega arith) (sym (all_named setup endings lines) ∙ e) i line (slice_get_within lines i line is) is,
  λ met. all_named setup endings lines ∙ none_named setup endings lines met (length lines) (omega arith),
)

final_none : (met : Bool) (n : ℕ) → cond met None (Some (Breach n C.Final)) ≡ None → met ≡ true
final_none true n e = refl
final_none false n e = absurd (none-some (Breach n C.Final) (sym e))

none_final : (met : Bool) (n : ℕ) → met ≡ true → ◌≡◌ {A = Option CheckRefusal} (cond met None (Some (Breach n C.Final))) None
none_final true n e = refl
none_final false n e = ap (λ b. cond b None (Some (Breach n C.Final))) e

-- nothing is named exactly where the list is lawful
pub breach_of-none : (setup : SetupView) (lines : List Line) → (breach_of setup lines ≡ None) ↔ IsLawful setup lines
unfolding breach_of
breach_of-none setup lines =
    let endings = endings_of (reverse lines) in
    let final : Option CheckRefusal = cond (meets_final setup (reverse lines)) None (Some (Breach (length lines + 1) C.Final)) in (
      λ e.
          let parts = first_parts (first_broken setup endings (reverse lines)) final e in
          ((first_broken-none setup endings lines).0 parts.0, final_none (meets_final setup (reverse lines)) (length lines + 1) parts.1),
      λ lawful. first_none (first_broken setup endings (reverse lines)) final ((first_broken-none setup endings lines).1 lawful.0) (none_final (meets_final setup (reverse lines)) (length lines + 1) lawful.1),
    )
