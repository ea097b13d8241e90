-- Steps of what pairs answers and held openers.
use Rattle.std.proofs.Common.{◌≡◌, ℕ, suc, ◌+◌, ◌≤◌, Bool, true, false, ◌&&◌, ◌||◌, cond, List, [], ◌∷◌, length, Option, Some, None, refl, sym, ap, subst, ◌∙◌, inl, inr, true≢false, arith}
use Rattle.std.specs.List.{list_any, count_by}
use Rattle.std.specs.Prelude.{nat_eq, nat_lt, is_none}
use Rattle.std.specs.BTreeMap.{is_at}
use Rattle.std.proofs.lemmas.Bool.{and_parts, cases_Bool, eqb-true}
use Rattle.std.proofs.lemmas.Grind.{common_steps}
use Rattle.std.proofs.lemmas.Bool.Decides.{nat_tests}
use Rattle.std.proofs.lemmas.List.Sums.{sum_by-cons}
use Rattle.std.proofs.lemmas.Option.{none-some, same_Some}
use Rattle.sr_base.specs.Key.{KeyView, same_key}
use Rattle.sr_law.specs.declared.line.Line.{Line}
use Rattle.sr_law.specs.declared.line.Line.TheVariants.{Answer}
use Rattle.sr_law.specs.declared.verdict.Verdict.{Verdict}
use Rattle.sr_law.specs.Final.{answers, answers_rightly, is_answered}
use Rattle.sr_law.specs.Full.{is_held_in, held_count}
use Rattle.sr_audit.specs.declared.answers.Answered.{Answered}
use Rattle.sr_audit.specs.Answers.{nth_cmp, answer_by, one_more, answered_by, answers_it}

few : (b : Bool) (count size : ℕ) → count ≤ size → cond b 1 0 + count ≤ suc size
few true count size h = omega arith
few false count size h = omega arith

-- a pipe held no more openers than there are lines
pub held_few : (pipe : ℕ) (before : List Line) → held_count pipe before ≤ length before
held_few pipe [] = omega arith
held_few pipe (line ∷ before) = few (is_held_in pipe line) (held_count pipe before) (length before) (held_few pipe before)

-- ---- one answer more in the index

same_nth : (at n pipe nth : ℕ) → is_at (nth_cmp (at, n)) (pipe, nth) ≡ (nat_eq at pipe && nat_eq n nth)
same_nth at n pipe nth = grind (arith, common_steps, nat_tests)

first_or_not : (key : KeyView) (out : ℕ) (once : Bool) (older : Option Answered) → once ≡ is_none older → ◌≡◌ {A = Option Answered} (Some (record { once = once; key = key; out = out })) (one_more (Some (record { once = true; key = key; out = out })) older)
first_or_not key out once None e = ap (λ b. Some (record { once = b; key = key; out = out })) e
first_or_not key out once (Some older) e = ap (λ b. Some (record { once = b; key = key; out = out })) e

pub answered_more : (old new : ℕ × ℕ → Option Answered) (before : List Line) (out at n : ℕ) (key : KeyView) (verdict : Verdict) (once : Bool) → once ≡ is_none (old (at, n))
    → ((q : ℕ × ℕ) → new q ≡ cond (is_at (nth_cmp (at, n)) q) (Some (record { once = once; key = key; out = out })) (old q))
    → ((pipe nth : ℕ) → old (pipe, nth) ≡ answered_by before pipe nth)
    → (pipe nth : ℕ) → new (pipe, nth) ≡ answered_by (Answer out at n key verdict ∷ before) pipe nth
answered_more old new before out at n key verdict once first step h pipe nth =
    let mine = nat_eq at pipe && nat_eq n nth in
    let now : Option Answered = Some (record { once = once; key = key; out = out }) in
    let one : Option Answered = Some (record { once = true; key = key; out = out }) in
    step (pipe, nth) ∙ ap (λ b. cond b now (old (pipe, nth))) (same_nth at n pipe nth)
    ∙ elim (cases_Bool mine) [
      | inl t ↦
          let parts = and_parts (nat_eq at pipe) (nat_eq n nth) t in
          let pipes : at ≡ pipe = eqb-true at pipe parts.0 in
          let nths : n ≡ nth = eqb-true n nth parts.1 in
          let mine_first : once ≡ is_none (answered_by before pipe nth) =
          first ∙ ap is_none (h at n ∙ ap (λ p. answered_by before p n) pipes ∙ ap (answered_by before pipe) nths) in
          ap (λ b. cond b now (old (pipe, nth))) t ∙ first_or_not key out once (answered_by before pipe nth) mine_first
          ∙ sym (ap (λ b. one_more (cond b one None) (answered_by before pipe nth)) t)
      | inr f ↦ ap (λ b. cond b now (old (pipe, nth))) f ∙ h pipe nth ∙ sym (ap (λ b. one_more (cond b one None) (answered_by before pipe nth)) f)
    ]

-- what is told of an opener says how many answers it has, and whether some answer is right for a key and a tick
record Tally (told : Option Answered) (count : ℕ) (rightly : KeyView → ℕ → Bool) : Type 0 where
  none : told ≡ None → (count ≡ 0) × ((key : KeyView) (entered : ℕ) → rightly key entered ≡ false)
  once : (a : Answered) → told ≡ Some a → a.once ≡ true → (count ≡ 1) × ((key : KeyView) (entered : ℕ) → rightly key entered ≡ (same_key a.key key && nat_lt entered a.out))
  often : (a : Answered) → told ≡ Some a → a.once ≡ false → 2 ≤ count

moved : (told now : Option Answered) (count size : ℕ) (rightly right : KeyView → ℕ → Bool) → now ≡ told → size ≡ count → ((key : KeyView) (entered : ℕ) → right key entered ≡ rightly key entered) → Tally told count rightly → Tally now size right
moved told now count size rightly right e f g t = record {
  none = λ n. let old = t.none (sym e ∙ n) in (f ∙ old.0, λ key entered. g key entered ∙ old.1 key entered);
  once = λ a is one. let old = t.once a (sym e ∙ is) one in (f ∙ old.0, λ key entered. g key entered ∙ old.1 key entered);
  often = λ a is more. subst (λ n. 2 ≤ n) (sym f) (t.often a (sym e ∙ is) more);
}

or_false : (b : Bool) → (b || false) ≡ b
or_false true = refl
or_false false = refl

-- an answer more
counted : (key : KeyView) (out : ℕ) (told : Option Answered) (count : ℕ) (rightly : KeyView → ℕ → Bool) → Tally told count rightly
    → Tally (one_more (Some (record { once = true; key = key; out = out })) told) (1 + count) (λ k e. (same_key key k && nat_lt e out) || rightly k e)
counted key out None count rightly t =
    let new : Answered = record { once = true; key = key; out = out } in
    let old = t.none refl in
    record {
      none = λ n. absurd (none-some new (sym n));
      once = λ a is one.
          let same : new ≡ a = same_Some new a is in
          (omega (arith, old.0), λ k e. ap (λ b. (same_key key k && nat_lt e out) || b) (old.1 k e) ∙ or_false (same_key key k && nat_lt e out) ∙ ap (λ x. same_key x.key k && nat_lt e x.out) same);
      often = λ a is more. absurd (true≢false (ap (λ x. x.once) (same_Some new a is) ∙ more));
    }
counted key out (Some older) count rightly t =
    let new : Answered = record { once = false; key = key; out = out } in
    let some : 1 ≤ count = elim (cases_Bool older.once) [
      | inl one ↦ omega (arith, (t.once older refl one).0)
      | inr more ↦ omega (arith, t.often older refl more)
    ] in
    record {
      none = λ n. absurd (none-some new (sym n));
      once = λ a is one. absurd (true≢false (sym one ∙ sym (ap (λ x. x.once) (same_Some new a is))));
      often = λ a is more. omega (arith, some);
    }

module _ (pipe nth : ℕ) where
  -- how many answers there are
  answers_in : List Line → ℕ
  answers_in before = count_by (answers pipe nth) before

  more : (line : Line) (before : List Line) → answers_in (line ∷ before) ≡ cond (answers pipe nth line) 1 0 + answers_in before
  unfolding answers_in
  more line before = sum_by-cons (λ l. cond (answers pipe nth l) 1 0) line before

  none : answers_in [] ≡ 0
  unfolding answers_in
  none = refl

  unread : (line : Line) (before : List Line) → answers pipe nth line ≡ false → answer_by line pipe nth ≡ None → ((key : KeyView) (entered : ℕ) → answers_rightly pipe nth key entered line ≡ false)
      → Tally (answered_by before pipe nth) (answers_in before) (λ key entered. list_any (answers_rightly pipe nth key entered) before)
      → Tally (answered_by (line ∷ before) pipe nth) (answers_in (line ∷ before)) (λ key entered. list_any (answers_rightly pipe nth key entered) (line ∷ before))
  unread line before other nothing wrong t =
      moved (answered_by before pipe nth) (answered_by (line ∷ before) pipe nth) (answers_in before) (answers_in (line ∷ before))
      (λ key entered. list_any (answers_rightly pipe nth key entered) before) (λ key entered. list_any (answers_rightly pipe nth key entered) (line ∷ before))
      (ap (λ o. one_more o (answered_by before pipe nth)) nothing)
      (let step = more line before ∙ ap (λ b. cond b 1 0 + answers_in before) other in omega (arith, step))
      (λ key entered. ap (λ b. b || list_any (answers_rightly pipe nth key entered) before) (wrong key entered))
      t

  and_false : (a b c : Bool) → a ≡ false → (a && b && c) ≡ false
  and_false a b c e = rw e refl

  tallies : (before : List Line) → Tally (answered_by before pipe nth) (answers_in before) (λ key entered. list_any (answers_rightly pipe nth key entered) before)
  tallies [] = record {
    none = λ n. (none, λ key entered. refl);
    once = λ a is one. absurd (none-some a is);
    often = λ a is more. absurd (none-some a is);
  }
  tallies (Answer out at n key verdict ∷ before) =
      let line : Line = Answer out at n key verdict in
      let mine = nat_eq at pipe && nat_eq n nth in
      let new : Option Answered = Some (record { once = true; key = key; out = out }) in
      elim (cases_Bool mine) [
        | inl t ↦ moved (one_more new (answered_by before pipe nth)) (answered_by (line ∷ before) pipe nth) (1 + answers_in before) (answers_in (line ∷ before))
            (λ k e. (same_key key k && nat_lt e out) || list_any (answers_rightly pipe nth k e) before) (λ k e. list_any (answers_rightly pipe nth k e) (line ∷ before))
            (ap (λ b. one_more (cond b new None) (answered_by before pipe nth)) t)
            (more line before ∙ ap (λ b. cond b 1 0 + answers_in before) t)
            (λ k e. ap (λ b. (b && same_key key k && nat_lt e out) || list_any (answers_rightly pipe nth k e) before) t)
            (counted key out (answered_by before pipe nth) (answers_in before) (λ k e. list_any (answers_rightly pipe nth k e) before) (tallies before))
        | inr f ↦ unread line before f (ap (λ b. cond b new None) f) (λ k e. and_false mine (same_key key k) (nat_lt e out) f) (tallies before)
      ]
  tallies (line ∷ before) = unread line before refl refl (λ key entered. refl) (tallies before)

  judged : (told : Option Answered) (count : ℕ) (rightly : KeyView → ℕ → Bool) (key : KeyView) (entered : ℕ) → Tally told count rightly → (nat_eq count 1 && rightly key entered) ≡ answers_it key entered told
  judged None count rightly key entered t = ap (λ n. nat_eq n 1 && rightly key entered) (t.none refl).0
  judged (Some a) count rightly key entered t = elim (cases_Bool a.once) [
    | inl one ↦
        let old = t.once a refl one in
        ap (λ n. nat_eq n 1 && rightly key entered) old.0 ∙ old.1 key entered ∙ sym (ap (λ b. b && same_key a.key key && nat_lt entered a.out) one)
    | inr more ↦
        let apart : nat_eq count 1 ≡ false = grind (arith, nat_tests, t.often a refl more) in
        ap (λ b. b && rightly key entered) apart ∙ sym (and_false a.once (same_key a.key key) (nat_lt entered a.out) more)
  ]

  -- the opener is answered as it is told
  pub answered_once : (all : List Line) (key : KeyView) (entered : ℕ) → is_answered all pipe nth key entered ≡ answers_it key entered (answered_by all pipe nth)
  unfolding is_answered answers_in
  answered_once all key entered =
      judged (answered_by all pipe nth) (answers_in all) (λ k e. list_any (answers_rightly pipe nth k e) all) key entered (tallies all)
