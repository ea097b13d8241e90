-- Steps of the index of rings.
use Rattle.std.proofs.Common.{◌≡◌, ℕ, ◌+◌, ◌-◌, ◌<◌, ◌≤◌, Bool, true, false, ◌&&◌, ◌||◌, cond, List, [], ◌∷◌, ◌++◌, length, reverse, Option, Some, None, refl, sym, ap, subst, ◌∙◌, inl, inr, true≢false, arith}
use Rattle.std.specs.BTreeMap.{get, is_at}
use Rattle.std.specs.List.{find, list_any}
use Rattle.std.specs.Option.{option_or}
use Rattle.std.specs.Ordering.{nat_cmp}
use Rattle.std.specs.Prelude.{nat_eq, nat_lt, option_map, unwrap_or}
use Rattle.std.proofs.lemmas.Bool.{and_from, cases_Bool, eqb-true, ltb-true}
use Rattle.std.proofs.lemmas.Bool.Decides.{nat_tests}
use Rattle.std.proofs.lemmas.List.{reverse-append}
use Rattle.std.proofs.lemmas.Option.{none-some, same_Some}
use Rattle.sr_base.specs.Key.{KeyView}
use Rattle.sr_base.specs.declared.kind.Kind.{Kind}
use Rattle.sr_law.specs.declared.line.Line.{Line}
use Rattle.sr_law.specs.declared.line.Line.TheVariants.{Packet, Answer}
use Rattle.sr_law.specs.declared.verdict.Verdict.{Verdict}
use Rattle.sr_law.specs.declared.verdict.Verdict.TheVariants.{Held}
use Rattle.sr_law.specs.Full.{is_held_in, held_count, answers_before, leaves_word, may_push, words_since}
use Rattle.sr_law.specs.Server.{is_number}
use Rattle.sr_law.specs.Ticks.{out_of}
use Rattle.sr_audit.specs.declared.ring.Mark.{Mark}
use Rattle.sr_audit.specs.declared.ring.Ring.{Ring}
use Rattle.sr_audit.specs.Lately.{AreOut, Falls, was_before}
use Rattle.sr_audit.specs.Rings.{push_count, held_at, answer_tick, first_answer, counted_in, marked_before, greater, is_held, Pushed, HoldsOne, marked_after, AnswersOne, TellsRing, TellsPipe}
use Rattle.sr_audit.proofs.Answering.{held_few}
use Rattle.sr_audit.proofs.Greatest.{same_number}
use Rattle.sr_audit.proofs.Known.{or_none}

marked : (b : Bool) (mark : Mark) (older : Option Mark)
    → unwrap_or (option_map (λ m. m.pushes) (cond b (Some mark) older)) 0 ≡ cond b mark.pushes (unwrap_or (option_map (λ m. m.pushes) older) 0)
marked true mark older = refl
marked false mark older = refl

-- a mark more
pub mark_more : (marks : List Mark) (mark : Mark) (tick : ℕ) → marked_before (reverse (marks ++ mark ∷ [])) tick ≡ cond (nat_lt mark.out tick) mark.pushes (marked_before (reverse marks) tick)
mark_more marks mark tick =
    ap (λ l. marked_before l tick) (reverse-append marks (mark ∷ []))
    ∙ marked (nat_lt mark.out tick) mark (find (λ m. nat_lt m.out tick) (reverse marks))

few : (b : Bool) (count size : ℕ) → count ≤ size → cond b 1 0 + count ≤ size + 1
few true count size h = omega arith
few false count size h = omega arith

-- a ring may have got no more words than there are lines
push_few : (pipe : ℕ) (before : List Line) → push_count pipe before ≤ length before
push_few pipe [] = omega arith
push_few pipe (line ∷ before) =
    let h = few (may_push pipe line) (push_count pipe before) (length before) (push_few pipe before) in omega (arith, h)

pick : (b : Bool) (out t : ℕ) → ◌≡◌ {A = Option ℕ} (cond b (Some out) None) (Some t) → t ≡ out
pick true out t e = sym (same_Some out t e)
pick false out t e = absurd (none-some t e)

one_of : (older now : Option ℕ) (a low : ℕ) → (older ≡ Some a → a < low) → (now ≡ Some a → a < low) → option_or older now ≡ Some a → a < low
one_of None now a low f g e = g e
one_of (Some b) now a low f g e = f e

and_true : (b : Bool) → (b && true) ≡ b
and_true true = refl
and_true false = refl

and_none : (b : Bool) → (b && false) ≡ false
and_none true = refl
and_none false = refl

same_number_self : (n : ℕ) → nat_eq n n ≡ true
same_number_self n = grind (arith, nat_tests)

within : (held mine pushes : Bool) (at : Option ℕ) (words v : ℕ) → (held ≡ true → pushes ≡ true) → (at ≡ Some v → v ≤ words)
    → cond (held && mine) (Some (1 + words)) at ≡ Some v → v ≤ cond pushes 1 0 + words
within true true true at words v f h e = let z = same_Some (1 + words) v e in omega (arith, z)
within true true false at words v f h e = absurd (true≢false (sym (f refl)))
within true false pushes at words v f h e = let z = h e in omega (arith, z)
within false mine pushes at words v f h e = let z = h e in omega (arith, z)

-- an opener is answered, or was before, and the words up to its own are taken
taken_more : (held mine any pushes : Bool) (at : Option ℕ) (words now all v x : ℕ) → (held ≡ true → pushes ≡ true) → (at ≡ Some v → v ≤ all)
    → (at ≡ Some v → words + x ≡ all → now + greater x v ≡ all)
    → cond (held && mine) (Some (1 + all)) at ≡ Some v → cond (held && any) 0 (cond pushes 1 0 + words) + x ≡ cond pushes 1 0 + all
    → cond (held && (mine || any)) 0 (cond pushes 1 0 + now) + greater x v ≡ cond pushes 1 0 + all
taken_more false mine any pushes at words now all v x f bound ih told h = (let z = ih told (omega (arith, h)) in omega (arith, z))
taken_more true mine any false at words now all v x f bound ih told h = absurd (true≢false (sym (f refl)))
taken_more true true true true at words now all v x f bound ih told h = (let z = same_Some (1 + all) v told in grind (arith, nat_tests, z, h))
taken_more true true false true at words now all v x f bound ih told h = (let z = same_Some (1 + all) v told in grind (arith, nat_tests, z, h))
taken_more true false true true at words now all v x f bound ih told h = (let z = bound told in grind (arith, nat_tests, z, h))
taken_more true false false true at words now all v x f bound ih told h = (let z = ih told (omega (arith, h)) in omega (arith, z))

not_told : (held mine : Bool) (n : ℕ) (at : Option ℕ) → cond (held && mine) (Some n) at ≡ None → ((held && mine) ≡ false) × (at ≡ None)
not_told true true n at e = absurd (none-some n (sym e))
not_told true false n at e = (refl, e)
not_told false mine n at e = (refl, e)

not_answered : (held self mine early any : Bool) → (held && mine) ≡ false → (held && (((self && mine) && early) || any)) ≡ (held && any)
not_answered true self true early any e = absurd (true≢false e)
not_answered true true false early any e = refl
not_answered true false false early any e = refl
not_answered false self mine early any e = refl

turned : (a b : ℕ) → nat_eq a b ≡ nat_eq b a
turned a b = grind (arith, nat_tests)

taken_now : (known : Bool) (words older pushes all : ℕ) → pushes ≡ 1 + all → words + older ≡ all → cond known 0 (1 + words) + cond known pushes older ≡ all + 1
taken_now true words older pushes all p h = omega (arith, p)
taken_now false words older pushes all p h = omega (arith, h)

module _ (pipe : ℕ) where
  -- an answer is one before a tick where its own tick is
  answer_by : (b : Bool) (out tick : ℕ) → (b && nat_lt out tick) ≡ was_before (cond b (Some out) None) tick
  answer_by true out tick = refl
  answer_by false out tick = refl

  by_tick : (line : Line) (nth tick : ℕ) → answers_before pipe nth tick line ≡ was_before (answer_tick line pipe nth) tick
  by_tick (Answer out at n key verdict) nth tick = answer_by (nat_eq at pipe && nat_eq n nth) out tick
  by_tick line nth tick = refl

  -- a line that answers none
  abbrev Unread : Line → Type 0
  Unread line = (nth : ℕ) → answer_tick line pipe nth ≡ None

  unread_any : (line : Line) (all : List Line) (nth tick : ℕ) → Unread line → list_any (answers_before pipe nth tick) (line ∷ all) ≡ list_any (answers_before pipe nth tick) all
  unread_any line all nth tick unread = ap (λ b. b || list_any (answers_before pipe nth tick) all) (by_tick line nth tick ∙ ap (λ o. was_before o tick) (unread nth))

  -- how words are counted on, over a line of an opener that was answered, or was not
  abbrev words_by : Bool → Bool → ℕ → ℕ
  words_by answered pushes rest = cond answered 0 (cond pushes 1 0 + rest)

  same_words : (all now : List Line) (tick at : ℕ) (older : List Line)
      → ((nth : ℕ) → list_any (answers_before pipe nth tick) now ≡ list_any (answers_before pipe nth at) all)
      → words_since now pipe tick older ≡ words_since all pipe at older
  same_words all now tick at [] h = refl
  same_words all now tick at (line ∷ older) h =
      ap (λ b. words_by (is_held_in pipe line && b) (may_push pipe line) (words_since now pipe tick older)) (h (1 + held_count pipe older))
      ∙ ap (words_by (is_held_in pipe line && list_any (answers_before pipe (1 + held_count pipe older) at) all) (may_push pipe line)) (same_words all now tick at older h)

  unread_words : (line : Line) (all older : List Line) (tick : ℕ) → Unread line → words_since (line ∷ all) pipe tick older ≡ words_since all pipe tick older
  unread_words line all older tick unread = same_words all (line ∷ all) tick tick older (λ nth. unread_any line all nth tick unread)

  late_by : (o : Option ℕ) (low tick : ℕ) → ((t : ℕ) → o ≡ Some t → t < low) → low < tick → was_before o tick ≡ was_before o low
  late_by None low tick h past = refl
  late_by (Some t) low tick h past = grind (arith, nat_tests, h t refl, past)

  tick_out : (line : Line) (nth t : ℕ) → answer_tick line pipe nth ≡ Some t → t ≡ out_of line
  tick_out (Answer out at n key verdict) nth t e = pick (nat_eq at pipe && nat_eq n nth) out t e
  tick_out line nth t e = absurd (none-some t e)

  -- all answers were before both ticks
  late_any : (all : List Line) (nth low tick : ℕ) → AreOut low all → low < tick → list_any (answers_before pipe nth tick) all ≡ list_any (answers_before pipe nth low) all
  late_any [] nth low tick out past = refl
  late_any (line ∷ all) nth low tick out past =
      let now : answers_before pipe nth tick line ≡ answers_before pipe nth low line =
      by_tick line nth tick
      ∙ late_by (answer_tick line pipe nth) low tick (λ t e. subst (λ x. x < low) (sym (tick_out line nth t e)) out.0) past
      ∙ sym (by_tick line nth low) in
      rw (now, late_any all nth low tick out.1 past) refl

  late_words : (all older : List Line) (low tick : ℕ) → AreOut low all → low < tick → words_since all pipe tick older ≡ words_since all pipe low older
  late_words all older low tick out past = same_words all all tick low older (λ nth. late_any all nth low tick out past)

  -- the first answer decides whether there is one before a tick
  first_more : (older now : Option ℕ) (tick : ℕ) → ((a t : ℕ) → older ≡ Some a → now ≡ Some t → a < t)
      → (was_before now tick || was_before older tick) ≡ was_before (option_or older now) tick
  first_more None None tick h = refl
  first_more None (Some t) tick h = grind (arith, nat_tests)
  first_more (Some a) None tick h = refl
  first_more (Some a) (Some t) tick h = grind (arith, nat_tests, h a t refl refl)

  first_out : (before : List Line) (nth low a : ℕ) → AreOut low before → first_answer before pipe nth ≡ Some a → a < low
  first_out [] nth low a out e = absurd (none-some a e)
  first_out (line ∷ before) nth low a out e =
      one_of (first_answer before pipe nth) (answer_tick line pipe nth) a low (first_out before nth low a out.1)
      (λ is. subst (λ x. x < low) (sym (tick_out line nth a is)) out.0) e

  first_by : (before : List Line) (nth tick : ℕ) → Falls before → list_any (answers_before pipe nth tick) before ≡ was_before (first_answer before pipe nth) tick
  first_by [] nth tick fall = refl
  first_by (line ∷ before) nth tick fall =
      ap (λ b. b || list_any (answers_before pipe nth tick) before) (by_tick line nth tick)
      ∙ ap (λ b. was_before (answer_tick line pipe nth) tick || b) (first_by before nth tick fall.2)
      ∙ first_more (first_answer before pipe nth) (answer_tick line pipe nth) tick
      (λ a t was is. subst (λ x. a < x) (sym (tick_out line nth t is)) (first_out before nth (out_of line) a fall.1 was))

  -- ---- words up to an opener that was answered

  -- an opener that was held left a word
  held_pushes : (line : Line) → is_held_in pipe line ≡ true → may_push pipe line ≡ true
  held_pushes (Packet number entered out at key kind (Held why)) e = and_from (nat_eq at pipe) (leaves_word kind (Held why)) e refl
  held_pushes line e = absurd (true≢false (sym e))

  held_within : (older : List Line) (nth v : ℕ) → held_at pipe nth older ≡ Some v → v ≤ push_count pipe older
  held_within [] nth v e = absurd (none-some v e)
  held_within (line ∷ older) nth v e =
      within (is_held_in pipe line) (nat_eq nth (1 + held_count pipe older)) (may_push pipe line) (held_at pipe nth older) (push_count pipe older) v
      (held_pushes line) (held_within older nth v) e

  answered_words : (all older : List Line) (out nth : ℕ) (key : KeyView) (verdict : Verdict) (tick v x : ℕ) → nat_lt out tick ≡ true
      → held_at pipe nth older ≡ Some v → words_since all pipe tick older + x ≡ push_count pipe older
      → words_since (Answer out pipe nth key verdict ∷ all) pipe tick older + greater x v ≡ push_count pipe older
  answered_words all [] out nth key verdict tick v x past told h = absurd (none-some v told)
  answered_words all (line ∷ older) out nth key verdict tick v x past told h =
      let number = 1 + held_count pipe older in
      let any = list_any (answers_before pipe number tick) all in
      let now : (((nat_eq pipe pipe && nat_eq nth number) && nat_lt out tick) || any) ≡ (nat_eq nth number || any) =
      ap (λ b. ((b && nat_eq nth number) && nat_lt out tick) || any) (same_number_self pipe) ∙ ap (λ b. ((true && nat_eq nth number) && b) || any) past
      ∙ ap (λ b. b || any) (and_true (nat_eq nth number)) in
      ap (λ b. words_by (is_held_in pipe line && b) (may_push pipe line) (words_since (Answer out pipe nth key verdict ∷ all) pipe tick older) + greater x v) now
      ∙ taken_more (is_held_in pipe line) (nat_eq nth number) any (may_push pipe line) (held_at pipe nth older) (words_since all pipe tick older)
      (words_since (Answer out pipe nth key verdict ∷ all) pipe tick older) (push_count pipe older) v x (held_pushes line) (held_within older nth v)
      (λ is e. answered_words all older out nth key verdict tick v x past is e) told h

  untold_words : (all older : List Line) (out nth : ℕ) (key : KeyView) (verdict : Verdict) (tick : ℕ) → held_at pipe nth older ≡ None
      → words_since (Answer out pipe nth key verdict ∷ all) pipe tick older ≡ words_since all pipe tick older
  untold_words all [] out nth key verdict tick told = refl
  untold_words all (line ∷ older) out nth key verdict tick told =
      let number = 1 + held_count pipe older in
      let any = list_any (answers_before pipe number tick) all in
      let parts = not_told (is_held_in pipe line) (nat_eq nth number) (1 + push_count pipe older) (held_at pipe nth older) told in
      ap (λ b. words_by b (may_push pipe line) (words_since (Answer out pipe nth key verdict ∷ all) pipe tick older))
      (not_answered (is_held_in pipe line) (nat_eq pipe pipe) (nat_eq nth number) (nat_lt out tick) any parts.0)
      ∙ ap (words_by (is_held_in pipe line && any) (may_push pipe line)) (untold_words all older out nth key verdict tick parts.1)

  early_words : (all older : List Line) (out nth : ℕ) (key : KeyView) (verdict : Verdict) (tick : ℕ) → nat_lt out tick ≡ false
      → words_since (Answer out pipe nth key verdict ∷ all) pipe tick older ≡ words_since all pipe tick older
  early_words all older out nth key verdict tick early =
      same_words all (Answer out pipe nth key verdict ∷ all) tick tick older
      (λ n. ap (λ b. ((nat_eq pipe pipe && nat_eq nth n) && b) || list_any (answers_before pipe n tick) all) early
      ∙ ap (λ b. b || list_any (answers_before pipe n tick) all) (and_none (nat_eq pipe pipe && nat_eq nth n)))

  -- ---- one line more

  -- a line that the ring doesn't count
  pub record Silent (line : Line) : Type 0 where
    unread : Unread line
    unheld : is_held_in pipe line ≡ false
    unpushed : may_push pipe line ≡ false

  pub silent_more : (ring : Ring) (before : List Line) (line : Line) → Silent line → TellsRing pipe ring before → TellsRing pipe ring (line ∷ before)
  silent_more ring before line s t =
      let none : (b : Bool) (n : ℕ) → b ≡ false → cond b 1 0 + n ≡ n = λ b n e. (let z = ap (λ x. cond {A = ℕ} x 1 0 + n) e in omega (arith, z)) in
      record {
        pushes = t.pushes ∙ sym (none (may_push pipe line) (push_count pipe before) s.unpushed);
        count = t.count ∙ sym (none (is_held_in pipe line) (held_count pipe before) s.unheld);
        held = λ nth. t.held nth ∙ sym (ap (λ b. cond (b && nat_eq nth (1 + held_count pipe before)) (Some (1 + push_count pipe before)) (held_at pipe nth before)) s.unheld);
        answered = λ nth. t.answered nth ∙ sym (ap (option_or (first_answer before pipe nth)) (s.unread nth) ∙ or_none (first_answer before pipe nth));
        words = λ tick.
            let any = list_any (answers_before pipe (1 + held_count pipe before) tick) (line ∷ before) in
            let a : words_since (line ∷ before) pipe tick (line ∷ before) ≡ cond (may_push pipe line) 1 0 + words_since (line ∷ before) pipe tick before =
            ap (λ b. words_by (b && any) (may_push pipe line) (words_since (line ∷ before) pipe tick before)) s.unheld in
            let b = none (may_push pipe line) (words_since (line ∷ before) pipe tick before) s.unpushed in
            let c = unread_words line before before tick s.unread in
            let d = none (may_push pipe line) (push_count pipe before) s.unpushed in
            omega (arith, a, b, c, d, t.words tick);
      }

  one_more : (b : Bool) (n : ℕ) → b ≡ true → cond b 1 0 + n ≡ n + 1
  one_more b n e = let z = ap (λ x. cond {A = ℕ} x 1 0 + n) e in omega (arith, z)

  pub pushed_more : (old new : Ring) (before : List Line) (line : Line) → length before < 18446744073709551615 → Unread line
      → is_held_in pipe line ≡ false → may_push pipe line ≡ true → Pushed old new → TellsRing pipe old before → TellsRing pipe new (line ∷ before)
  pushed_more old new before line size unread unheld pushes p t =
      let bound = push_few pipe before in
      let small : old.pushes < 18446744073709551615 = omega (arith, t.pushes, bound, size) in
      let more = one_more (may_push pipe line) (push_count pipe before) pushes in
      let none : cond (is_held_in pipe line) 1 0 + held_count pipe before ≡ held_count pipe before =
      (let z = ap (λ x. cond {A = ℕ} x 1 0 + held_count pipe before) unheld in omega (arith, z)) in
      record {
        pushes = (let n = p.pushes small in omega (arith, n, t.pushes, more));
        count = p.count ∙ t.count ∙ sym none;
        held = λ nth.
            ap (λ m. get nat_cmp m nth) p.held ∙ t.held nth
            ∙ sym (ap (λ b. cond (b && nat_eq nth (1 + held_count pipe before)) (Some (1 + push_count pipe before)) (held_at pipe nth before)) unheld);
        answered = λ nth.
            ap (λ m. get nat_cmp m nth) p.answered ∙ t.answered nth
            ∙ sym (ap (option_or (first_answer before pipe nth)) (unread nth) ∙ or_none (first_answer before pipe nth));
        words = λ tick.
            let any = list_any (answers_before pipe (1 + held_count pipe before) tick) (line ∷ before) in
            let a : words_since (line ∷ before) pipe tick (line ∷ before) ≡ cond (may_push pipe line) 1 0 + words_since (line ∷ before) pipe tick before =
            ap (λ b. words_by (b && any) (may_push pipe line) (words_since (line ∷ before) pipe tick before)) unheld in
            let b = one_more (may_push pipe line) (words_since (line ∷ before) pipe tick before) pushes in
            let c = unread_words line before before tick unread in
            let d : marked_before (reverse new.marks.items) tick ≡ marked_before (reverse old.marks.items) tick = ap (λ m. marked_before (reverse m.items) tick) p.marks in
            omega (arith, a, b, c, d, more, t.words tick);
      }

  pub held_more : (old new : Ring) (before : List Line) (line : Line) → length before < 18446744073709551615 → Falls before → Unread line
      → is_held_in pipe line ≡ true → HoldsOne old new → TellsRing pipe old before → TellsRing pipe new (line ∷ before)
  held_more old new before line size fall unread held p t =
      let number = 1 + held_count pipe before in
      let few_held = held_few pipe before in
      let few_pushes = push_few pipe before in
      let pushes = held_pushes line held in
      let more = one_more (may_push pipe line) (push_count pipe before) pushes in
      let count : new.count ≡ number =
      (let n = p.count (omega (arith, t.count, few_held, size)) in omega (arith, n, t.count)) in
      let words : new.pushes ≡ 1 + push_count pipe before =
      (let n = p.pushes (omega (arith, t.pushes, few_pushes, size)) in omega (arith, n, t.pushes)) in
      record {
        pushes = omega (arith, words, more);
        count = (let m = one_more (is_held_in pipe line) (held_count pipe before) held in omega (arith, count, m));
        held = λ nth.
            p.held nth ∙ ap (λ n. cond (nat_eq n nth) (Some new.pushes) (get nat_cmp old.held nth)) count
            ∙ ap (λ b. cond b (Some new.pushes) (get nat_cmp old.held nth)) (turned number nth)
            ∙ ap (λ w. cond (nat_eq nth number) (Some w) (get nat_cmp old.held nth)) words
            ∙ ap (cond (nat_eq nth number) (Some (1 + push_count pipe before))) (t.held nth)
            ∙ sym (ap (λ b. cond (b && nat_eq nth number) (Some (1 + push_count pipe before)) (held_at pipe nth before)) held);
        answered = λ nth.
            ap (λ m. get nat_cmp m nth) p.answered ∙ t.answered nth
            ∙ sym (ap (option_or (first_answer before pipe nth)) (unread nth) ∙ or_none (first_answer before pipe nth));
        words = λ tick.
            let known = was_before (first_answer before pipe number) tick in
            let any = list_any (answers_before pipe number tick) (line ∷ before) in
            let is : any ≡ known = unread_any line before number tick unread ∙ first_by before number tick fall in
            let rest = words_since (line ∷ before) pipe tick before in
            let a : words_since (line ∷ before) pipe tick (line ∷ before) ≡ words_by known true (words_since before pipe tick before) =
            ap (λ b. words_by (b && any) (may_push pipe line) rest) held ∙ ap (λ b. words_by b (may_push pipe line) rest) is
            ∙ ap (λ b. words_by known b rest) pushes ∙ ap (words_by known true) (unread_words line before before tick unread) in
            let b : marked_before (reverse new.marks.items) tick ≡ cond known new.pushes (marked_before (reverse old.marks.items) tick) =
            p.marks tick
            ∙ ap (λ o. cond (was_before o tick) new.pushes (marked_before (reverse old.marks.items) tick))
            (ap (get nat_cmp old.answered) count ∙ t.answered number) in
            let c = taken_now known (words_since before pipe tick before) (marked_before (reverse old.marks.items) tick) new.pushes (push_count pipe before) words (t.words tick) in
            omega (arith, a, b, c, more);
      }

  answer_words : (before : List Line) (out nth : ℕ) (key : KeyView) (verdict : Verdict) (tick last older : ℕ) → AreOut out before → (at : Option ℕ) → held_at pipe nth before ≡ at
      → words_since before pipe out before + last ≡ push_count pipe before → words_since before pipe tick before + older ≡ push_count pipe before
      → words_since (Answer out pipe nth key verdict ∷ before) pipe tick before + marked_after at out last tick older ≡ push_count pipe before
  answer_words before out nth key verdict tick last older past None told then now =
      ap (λ w. w + older) (untold_words before before out nth key verdict tick told) ∙ now
  answer_words before out nth key verdict tick last older past (Some v) told then now = elim (cases_Bool (nat_lt out tick)) [
    | inl late ↦
        let below : out < tick = ltb-true out tick late in
        ap (λ b. words_since (Answer out pipe nth key verdict ∷ before) pipe tick before + cond b (greater last v) older) late
        ∙ answered_words before before out nth key verdict tick v last late told (ap (λ w. w + last) (late_words before before out tick past below) ∙ then)
    | inr early ↦
        ap (λ b. words_since (Answer out pipe nth key verdict ∷ before) pipe tick before + cond b (greater last v) older) early
        ∙ ap (λ w. w + older) (early_words before before out nth key verdict tick early) ∙ now
  ]

  pub answer_more : (old new : Ring) (before : List Line) (out nth : ℕ) (key : KeyView) (verdict : Verdict) → AreOut out before
      → AnswersOne nth out old new → TellsRing pipe old before → TellsRing pipe new (Answer out pipe nth key verdict ∷ before)
  answer_more old new before out nth key verdict past p t =
      let line : Line = Answer out pipe nth key verdict in
      record {
        pushes = (let z = p.pushes ∙ t.pushes in omega (arith, z));
        count = (let z = p.count ∙ t.count in omega (arith, z));
        held = λ n. ap (λ m. get nat_cmp m n) p.held ∙ t.held n;
        answered = λ n.
            p.answered n ∙ ap (λ o. option_or o (cond (nat_eq nth n) (Some out) None)) (t.answered n)
            ∙ sym (ap (λ b. option_or (first_answer before pipe n) (cond (b && nat_eq nth n) (Some out) None)) (same_number_self pipe));
        words = λ tick.
            let w = words_since (line ∷ before) pipe tick before in
            let last = marked_before (reverse old.marks.items) out in
            let older = marked_before (reverse old.marks.items) tick in
            let marks : marked_before (reverse new.marks.items) tick ≡ marked_after (held_at pipe nth before) out last tick older =
            p.marks tick ∙ ap (λ o. marked_after o out last tick older) (t.held nth) in
            let sum = answer_words before out nth key verdict tick last older past (held_at pipe nth before) refl (t.words out) (t.words tick) in
            omega (arith, marks, sum);
      }

  -- the words since are those that no mark took
  pub told_words : (ring : Ring) (before : List Line) (tick : ℕ) → TellsRing pipe ring before
      → ring.pushes - marked_before (reverse ring.marks.items) tick ≡ words_since before pipe tick before
  told_words ring before tick t = omega (arith, t.pushes, t.words tick)

-- ---- the pipes of lines

unleft : (b : Bool) (at q : ℕ) → is_number (cond b (Some at) None) q ≡ false → (nat_eq at q && b) ≡ false
unleft true at q e = ap (λ b. b && true) e
unleft false at q e = and_none (nat_eq at q)

silent_in : (q : ℕ) (line : Line) → is_number (counted_in line) q ≡ false → Silent q line
silent_in q (Packet number entered out at key kind (Held why)) e = record {
  unread = λ nth. refl;
  unheld = e;
  unpushed = ap (λ b. b && leaves_word kind (Held why)) e;
}
silent_in q (Packet number entered out at key kind verdict) e = record {
  unread = λ nth. refl;
  unheld = refl;
  unpushed = unleft (leaves_word kind verdict) at q e;
}
silent_in q (Answer out at nth key verdict) e = record {
  unread = λ n. ap (λ b. cond (b && nat_eq nth n) (Some out) None) e;
  unheld = refl;
  unpushed = refl;
}
silent_in q line e = record { unread = λ nth. refl; unheld = refl; unpushed = refl }

pub silent_pipe : (q : ℕ) (line : Line) (before : List Line) (o : Option Ring) → is_number (counted_in line) q ≡ false → TellsPipe q before o → TellsPipe q (line ∷ before) o
silent_pipe q line before None e t = λ ring new. silent_more q ring before line (silent_in q line e) (t ring new)
silent_pipe q line before (Some ring) e t = silent_more q ring before line (silent_in q line e) t

-- one line more that no ring counts
pub rings_same : (line : Line) (before : List Line) (old : ℕ → Option Ring) → counted_in line ≡ None → ((q : ℕ) → TellsPipe q before (old q)) → (q : ℕ) → TellsPipe q (line ∷ before) (old q)
rings_same line before old e t q = silent_pipe q line before (old q) (ap (λ o. is_number o q) e) (t q)

-- one that the ring of this pipe counts
pub rings_more : (line : Line) (before : List Line) (old mid new : ℕ → Option Ring) (pipe : ℕ) (ring after : Ring) → counted_in line ≡ Some pipe
    → (TellsPipe pipe before (old pipe) → TellsRing pipe ring before) → (TellsRing pipe ring before → TellsRing pipe after (line ∷ before))
    → ((q : ℕ) → nat_eq pipe q ≡ false → mid q ≡ old q) → ((q : ℕ) → new q ≡ cond (is_at (nat_cmp pipe) q) (Some after) (mid q))
    → ((q : ℕ) → TellsPipe q before (old q)) → (q : ℕ) → TellsPipe q (line ∷ before) (new q)
rings_more line before old mid new pipe ring after e taken absorbed others put t q =
    let now : new q ≡ cond (nat_eq pipe q) (Some after) (mid q) = put q ∙ ap (λ b. cond b (Some after) (mid q)) (same_number pipe q) in
    elim (cases_Bool (nat_eq pipe q)) [
      | inl same ↦
          let is : new q ≡ Some after = now ∙ ap (λ b. cond b (Some after) (mid q)) same in
          subst (TellsPipe q (line ∷ before)) (sym is) (subst (λ n. TellsRing n after (line ∷ before)) (eqb-true pipe q same) (absorbed (taken (t pipe))))
      | inr other ↦
          let is : new q ≡ old q = now ∙ ap (λ b. cond b (Some after) (mid q)) other ∙ others q other in
          subst (TellsPipe q (line ∷ before)) (sym is) (silent_pipe q line before (old q) (ap (λ o. is_number o q) e ∙ other) (t q))
    ]

-- ---- a line that a ring counts

packet_pipe : (b : Bool) (at pipe : ℕ) → ◌≡◌ {A = Option ℕ} (cond b (Some at) None) (Some pipe) → (b ≡ true) × (nat_eq at pipe ≡ true)
packet_pipe true at pipe e = (refl, ap (nat_eq at) (sym (same_Some at pipe e)) ∙ same_number_self at)
packet_pipe false at pipe e = absurd (none-some pipe e)

packet_held : (at pipe : ℕ) (verdict : Verdict) (number entered out : ℕ) (key : KeyView) (kind : Kind) → is_held verdict ≡ true → nat_eq at pipe ≡ true
    → is_held_in pipe (Packet number entered out at key kind verdict) ≡ true
packet_held at pipe (Held why) number entered out key kind h e = e
packet_held at pipe verdict number entered out key kind h e = absurd (true≢false (sym h))

packet_unheld : (at pipe : ℕ) (verdict : Verdict) (number entered out : ℕ) (key : KeyView) (kind : Kind) → is_held verdict ≡ false
    → is_held_in pipe (Packet number entered out at key kind verdict) ≡ false
packet_unheld at pipe (Held why) number entered out key kind h = absurd (true≢false h)
packet_unheld at pipe verdict number entered out key kind h = refl

-- a packet that was held
pub absorb_held : (pipe : ℕ) (old new : Ring) (before : List Line) (number entered out at : ℕ) (key : KeyView) (kind : Kind) (verdict : Verdict)
    → is_held verdict ≡ true → counted_in (Packet number entered out at key kind verdict) ≡ Some pipe → length before < 18446744073709551615
    → Falls (Packet number entered out at key kind verdict ∷ before) → HoldsOne old new → TellsRing pipe old before
    → TellsRing pipe new (Packet number entered out at key kind verdict ∷ before)
absorb_held pipe old new before number entered out at key kind verdict held e size fall p t =
    let parts = packet_pipe (leaves_word kind verdict) at pipe e in
    held_more pipe old new before (Packet number entered out at key kind verdict) size fall.2 (λ nth. refl) (packet_held at pipe verdict number entered out key kind held parts.1) p t

-- one that wasn't
pub absorb_pushed : (pipe : ℕ) (old new : Ring) (before : List Line) (number entered out at : ℕ) (key : KeyView) (kind : Kind) (verdict : Verdict)
    → is_held verdict ≡ false → counted_in (Packet number entered out at key kind verdict) ≡ Some pipe → length before < 18446744073709551615
    → Pushed old new → TellsRing pipe old before → TellsRing pipe new (Packet number entered out at key kind verdict ∷ before)
absorb_pushed pipe old new before number entered out at key kind verdict held e size p t =
    let parts = packet_pipe (leaves_word kind verdict) at pipe e in
    pushed_more pipe old new before (Packet number entered out at key kind verdict) size (λ nth. refl) (packet_unheld at pipe verdict number entered out key kind held)
    (and_from (nat_eq at pipe) (leaves_word kind verdict) parts.1 parts.0) p t

-- an answer
pub absorb_answer : (pipe : ℕ) (old new : Ring) (before : List Line) (out at nth : ℕ) (key : KeyView) (verdict : Verdict)
    → counted_in (Answer out at nth key verdict) ≡ Some pipe → Falls (Answer out at nth key verdict ∷ before) → AnswersOne nth out old new → TellsRing pipe old before
    → TellsRing pipe new (Answer out at nth key verdict ∷ before)
absorb_answer pipe old new before out at nth key verdict e fall p t =
    subst (λ a. TellsRing pipe new (Answer out a nth key verdict ∷ before)) (sym (same_Some at pipe e)) (answer_more pipe old new before out nth key verdict fall.1 p t)
