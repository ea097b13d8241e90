-- The controller's steps keep held openers.
use Rattle.std.proofs.Common.{◌≡◌, ℕ, zero, suc, ◌+◌, ◌-◌, ◌%◌, ◌^◌, ◌<◌, ◌≤◌, Bool, true, false, ◌&&◌, ◌≢◌, ◌⊎◌, List, [], ◌∷◌, ◌++◌, length, if◌then◌else◌, ◌==◌, slice_get, slice_set, Some, None, Option, sym, refl, ap, ◌∙◌, subst, inl, inr, append_assoc, append-nil, arith, length-append}
use Rattle.std.proofs.lemmas.Bool.{cases_eq}
use Rattle.std.proofs.lemmas.Bool.Decides.{nat_tests}
use Rattle.std.specs.List.{range_with_len, AllByRecursion}
use Rattle.sr_base.specs.Key.{KeyView}
use Rattle.sr_base.specs.Layout.{LayoutView}
use Rattle.sr_base.specs.declared.ring_word.RingKind.{RingKind}
use Rattle.sr_base.specs.declared.ring_word.RingKind.TheVariants.{Learn, Punt, Close}
use Rattle.sr_base.specs.declared.ring_word.RingWord.{RingWord}
use Rattle.sr_inv_facts.proofs.Lists.{all_more}
use Rattle.sr_inv_facts.proofs.Pipes.{pipe_there}
use Rattle.sr_inv_facts.proofs.Takes.{count_else, count_here, take_none, take_some}
use Rattle.sr_inv_facts.proofs.Windows.{some_left}
use Rattle.sr_inv_facts.specs.InHeld.{Waiting, answered_by, answered_in, held_as, held_at, held_in_line, held_in_lines, held_of, punt_by, punt_in, waiting_by, waiting_in, HeldHolds, IsHeld, PipeHeld}
use Rattle.sr_inv_facts.specs.InTicks.{same}
use Rattle.sr_inv_facts.specs.InWords.{is_busy}
use Rattle.sr_inv_facts.specs.Invariant.{Invariant}
use Rattle.sr_inv_facts.specs.Readings.{EachPipe, ring_words}
use Rattle.sr_inv_held.proofs.HeldTakes.{punt_is, take_plain, take_punt, told_one}
use Rattle.sr_inv_held.proofs.PipeHelds.{pipe_same}
use Rattle.sr_law.specs.declared.line.Line.{Line}
use Rattle.sr_law.specs.declared.verdict.Verdict.{Verdict}
use Rattle.sr_machine.specs.Core.{Core}
use Rattle.sr_machine.specs.Deciding.{ring_count}
use Rattle.sr_machine.specs.Names.{rewritten}
use Rattle.sr_machine.specs.Reads.{read_report}
use Rattle.sr_machine.specs.Stages.{ring_cell}
use Rattle.sr_machine.specs.Taking.{held_after, holds_opener, is_punt, count_after, taking}
use Rattle.sr_machine.specs.declared.held_opener.HeldOpener.{HeldOpener}
use Rattle.sr_machine.specs.declared.name.Name.{Name}
use Rattle.sr_machine.specs.declared.pipe_view.PipeView.{PipeView}
use Rattle.sr_machine.specs.declared.ring_count.RingCount.{RingCount}
use Rattle.sr_machine.specs.declared.stage.Stage.{Stage}
use Rattle.sr_machine.specs.declared.stage.Stage.TheVariants as stage
use Rattle.sr_machine.specs.declared.leg.Leg.TheVariants as leg
use Rattle.sr_machine.specs.declared.leg.Last.TheVariants as last
use Rattle.sr_law.specs.declared.verdict.Verdict.TheVariants as verdict
use Rattle.sr_law.specs.declared.line.Line.TheVariants as line
use Rattle.sr_machine.specs.declared.name.Name.TheVariants as name

-- ---- what a report tells

-- a report tells of a held opener and counts as one, or it does neither
pub data Tells (punts : ℕ) (o : Option RingWord) : Type 0 where
  nobody : holds_opener o punts ≡ false → punt_in o ≡ [] → Tells punts o
  opener : (w : RingWord) → o ≡ Some w → is_punt w.kind punts ≡ true → punt_in o ≡ w.key ∷ [] → Tells punts o

tells : (punts : ℕ) (o : Option RingWord) → ((key : KeyView) → punt_in o ≡ key ∷ [] → punts + 1 < 2 ^ 32) → Tells punts o
tells punts None few = nobody refl refl
tells punts (Some w) few = at w.kind refl
  where
    at : (kind : RingKind) → w.kind ≡ kind → Tells punts (Some w)
    at Learn q = nobody (ap (λ k. is_punt k punts) q) (ap (punt_by w) q)
    at Punt q =
        let told = ap (punt_by w) q in
        let less : punts + 1 < 2 ^ 32 = few w.key told in
        opener w refl (ap (λ k. is_punt k punts) q ∙ grind (arith, nat_tests)) told
    at Close q = nobody (ap (λ k. is_punt k punts) q) (ap (punt_by w) q)

held_same : (pipe punts : ℕ) (held : List HeldOpener) (o : Option RingWord) → holds_opener o punts ≡ false → held_after pipe punts held o ≡ held
held_same pipe punts held None e = refl
held_same pipe punts held (Some w) e = ap (λ b. if b then (held ++ record { pipe = pipe; nth = punts + 1; key = w.key } ∷ []) else held) e

held_more : (pipe punts : ℕ) (held : List HeldOpener) (w : RingWord) → is_punt w.kind punts ≡ true
    → held_after pipe punts held (Some w) ≡ held ++ record { pipe = pipe; nth = punts + 1; key = w.key } ∷ []
held_more pipe punts held w e = ap (λ b. if b then (held ++ record { pipe = pipe; nth = punts + 1; key = w.key } ∷ []) else held) e

-- ---- openers that wait, and answers

pub waiting_more : (p : ℕ) (xs : List HeldOpener) (h : HeldOpener) → waiting_in p (xs ++ h ∷ []) ≡ waiting_in p xs ++ waiting_by p h
waiting_more p [] h = append-nil (waiting_by p h)
waiting_more p (x ∷ xs) h = ap (λ ys. waiting_by p x ++ ys) (waiting_more p xs h) ∙ sym (append_assoc (waiting_by p x) (waiting_in p xs) (waiting_by p h))

pub answered_more : (p : ℕ) (xs : List Line) (l : Line) → answered_in p (xs ++ l ∷ []) ≡ answered_in p xs ++ answered_by p l
answered_more p [] l = append-nil (answered_by p l)
answered_more p (x ∷ xs) l = ap (λ ys. answered_by p x ++ ys) (answered_more p xs l) ∙ sym (append_assoc (answered_by p x) (answered_in p xs) (answered_by p l))

range_more : (a n : ℕ) → range_with_len a (n + 1) ≡ range_with_len a n ++ (a + n) ∷ []
range_more a zero = let same : a ≡ a + zero = omega arith in ap (λ x. x ∷ []) same
range_more a (suc n) =
    let up : suc n + 1 ≡ suc (n + 1) = omega arith in
    let same : (a + 1) + n ≡ a + suc n = omega arith in
    ap (range_with_len a) up ∙ ap (λ xs. a ∷ xs) (range_more (a + 1) n ∙ ap (λ x. range_with_len (a + 1) n ++ x ∷ []) same)

-- no more were held than packets came
held_few : (lines : List Line) → length (held_in_lines lines) ≤ length lines
held_few [] = omega arith
held_few (l ∷ rest) = omega (arith, held_few rest, one l, length-append {A = Waiting})
  where
    by : (v : Verdict) (w : Waiting) → length (held_as v w) ≤ 1
    by (verdict.Held why) w = omega arith
    by v w = omega arith

    one : (l : Line) → length (held_in_line l) ≤ 1
    one (line.Packet number entered out pipe key kind v) = by v (record { key = key; entered = entered })
    one l = omega arith

held_at_few : (a : Stage) → length (held_at a) ≤ is_busy a
held_at_few (stage.Fly f (leg.Judged (verdict.Held why) last.Out)) = omega arith
held_at_few (stage.Fly f (leg.Judged v last.Out)) = omega arith
held_at_few (stage.Fly f leg) = omega arith
held_at_few a = omega arith

module _ (s : Core) (i : Invariant s) where
  held_bound : (p : ℕ) (v : PipeView) → slice_get s.pipes p ≡ Some v → length (held_of v) < 2 ^ 32
  held_bound p v q = omega (arith, (i.ticks.pipes p v q).few, held_few v.lines, held_at_few v.stage, length-append {A = Waiting})

  -- ---- a take

  module _ (pipe : ℕ) (b : pipe < s.config.layout.shape.pipes) where
    abbrev l : LayoutView
    l = s.config.layout

    abbrev count : RingCount
    count = ring_count s.controller.rings pipe

    abbrev cell : Name
    cell = ring_cell l pipe count.words

    abbrev after : ℕ → ℕ → ℕ
    after = ring_words (rewritten s.words cell 0)

    abbrev report : Option RingWord
    report = read_report l (s.words cell)

    other_ring : (p c : ℕ) → p ≢ pipe → after p c ≡ s.words (name.Ring p c)
    other_ring p c apart = at (pipe == p) (grind (arith, nat_tests)) ((count.words % l.shape.ring) == c)
      where
        at : (t : Bool) → t ≡ false → (z : Bool) → (if t && z then 0 else s.words (name.Ring p c)) ≡ s.words (name.Ring p c)
        at true e z = cc
        at false e z = refl

    own_else : (c : ℕ) → (count.words % l.shape.ring) ≢ c → after pipe c ≡ s.words (name.Ring pipe c)
    own_else c apart = at (pipe == pipe) ((count.words % l.shape.ring) == c) (grind (arith, nat_tests))
      where
        at : (t z : Bool) → z ≡ false → (if t && z then 0 else s.words (name.Ring pipe c)) ≡ s.words (name.Ring pipe c)
        at true true e = cc
        at true false e = refl
        at false z e = refl

    -- an empty cell stays empty
    none_taken : s.words cell ≡ 0 → HeldHolds l after s.pipes s.controller.rings s.controller.held s.controller.lines
    none_taken none = record {
      pipe = λ p v q.
          pipe_same l (ring_words s.words p) (ring_count s.controller.rings p) v (i.held.held.pipe p v q) (after p) (λ c. at p c (pipe == p) ((count.words % l.shape.ring) == c) refl refl);
      opener = i.held.held.opener;
      once = i.held.held.once;
      answer = i.held.held.answer;
    }
      where
        at : (p c : ℕ) (t z : Bool) → (pipe == p) ≡ t → ((count.words % l.shape.ring) == c) ≡ z
            → (if t && z then 0 else s.words (name.Ring p c)) ≡ s.words (name.Ring p c)
        at p c true true e f =
            let same_pipe : pipe ≡ p = grind (arith, nat_tests) in
            let same_cell : count.words % l.shape.ring ≡ c = grind (arith, nat_tests) in
            sym none ∙ (ap (λ m. s.words (name.Ring m (count.words % l.shape.ring))) same_pipe ∙ ap (λ m. s.words (name.Ring p m)) same_cell)
        at p c true false e f = refl
        at p c false z e f = refl

    module _ (full : s.words cell ≢ 0) where
      some_there : (v : PipeView) → slice_get s.pipes pipe ≡ Some v → count.words < v.pushed
      some_there v q =
          some_left l (ring_words s.words pipe) (after pipe) count.words v.pushed (i.words.ring pipe v q) (omega (arith, i.shape.config.layout.ring.0)) full

      few : (key : KeyView) → punt_in report ≡ key ∷ [] → count.punts + 1 < 2 ^ 32
      few key e =
          let v = pipe_there s.pipes pipe (omega (arith, b, i.shape.pipes.count)) in
          let one = told_one l (ring_words s.words pipe) (after pipe) count v.0 (i.held.held.pipe pipe v.0 v.1) (some_there v.0 v.1) (i.words.ring pipe v.0 v.1).most own_else key e in
          omega (arith, one, held_bound pipe v.0 v.1)

      abbrev rings : List RingCount
      rings = slice_set s.controller.rings pipe (count_after (holds_opener report count.punts) count)

      abbrev held : List HeldOpener
      held = held_after pipe count.punts s.controller.held report

      own_pipe : (v : PipeView) → slice_get s.pipes pipe ≡ Some v → Tells count.punts report
          → PipeHeld l (after pipe) (count_after (holds_opener report count.punts) count) v
      own_pipe v q (nobody a e) =
          subst (λ z. PipeHeld l (after pipe) (count_after z count) v) (sym a)
          (take_plain l (ring_words s.words pipe) (after pipe) count v (i.held.held.pipe pipe v q) (some_there v q) (i.words.ring pipe v q).most own_else e)
      own_pipe v q (opener w r a e) =
          subst (λ z. PipeHeld l (after pipe) (count_after z count) v) (sym (ap (λ o. holds_opener o count.punts) r ∙ a))
          (take_punt l (ring_words s.words pipe) (after pipe) count v (i.held.held.pipe pipe v q) (some_there v q) (i.words.ring pipe v q).most own_else w.key e)

      count_is : ring_count rings pipe ≡ count_after (holds_opener report count.punts) count
      count_is = count_here s.controller.rings pipe _ (omega (arith, b, i.shape.controller.rings))

      pipes_taken : Tells count.punts report → EachPipe (λ p v. PipeHeld l (after p) (ring_count rings p) v) s.pipes
      pipes_taken t p v q = at (cases_eq p pipe)
        where
          at : (p ≡ pipe) ⊎ (p ≢ pipe) → PipeHeld l (after p) (ring_count rings p) v
          at (inl same) =
              subst (λ n. PipeHeld l (after n) (ring_count rings n) v) (sym same)
              (subst (λ r. PipeHeld l (after pipe) r v) (sym count_is) (own_pipe v (subst (λ n. slice_get s.pipes n ≡ Some v) same q) t))
          at (inr apart) =
              subst (λ r. PipeHeld l (after p) r v) (sym (count_else s.controller.rings pipe p _ apart))
              (pipe_same l (ring_words s.words p) (ring_count s.controller.rings p) v (i.held.held.pipe p v q) (after p) (λ c. other_ring p c apart))

      openers_taken : Tells count.punts report → AllByRecursion (λ h. IsHeld s.pipes h.pipe h.nth h.key (λ w. Unit {0})) held
      openers_taken (nobody a e) =
          subst (AllByRecursion (λ h. IsHeld s.pipes h.pipe h.nth h.key (λ w. Unit {0}))) (sym (held_same pipe count.punts s.controller.held report a)) i.held.held.opener
      openers_taken (opener w r a e) =
          subst (AllByRecursion (λ h. IsHeld s.pipes h.pipe h.nth h.key (λ x. Unit {0}))) (sym (ap (held_after pipe count.punts s.controller.held) r ∙ held_more pipe count.punts s.controller.held w a))
          (all_more (λ h. IsHeld s.pipes h.pipe h.nth h.key (λ x. Unit {0})) s.controller.held (record { pipe = pipe; nth = count.punts + 1; key = w.key } ∷ []) i.held.held.opener (is, tt))
        where
          is : IsHeld s.pipes pipe (count.punts + 1) w.key (λ x. Unit {0})
          is v q =
              let found = punt_is l (ring_words s.words pipe) (after pipe) count v (i.held.held.pipe pipe v q) (some_there v q) (i.words.ring pipe v q).most own_else w.key e in
              let nth : count.punts ≡ (count.punts + 1) - 1 = omega arith in
              (found.0, ap (slice_get (held_of v)) (sym nth) ∙ found.1, found.2, tt)

      once_taken : Tells count.punts report → (p : ℕ) → p < l.shape.pipes
          → answered_in p s.controller.lines ++ waiting_in p held ≡ range_with_len 1 (ring_count rings p).punts
      once_taken t p h = at t (cases_eq p pipe)
        where
          old : answered_in p s.controller.lines ++ waiting_in p s.controller.held ≡ range_with_len 1 (ring_count s.controller.rings p).punts
          old = i.held.held.once p h

          by : (w : RingWord) (t : Bool) → (pipe == p) ≡ t → waiting_by p (record { pipe = pipe; nth = count.punts + 1; key = w.key }) ≡ (if t then (count.punts + 1) ∷ [] else [])
          by w t e = ap (λ z. if z then (count.punts + 1) ∷ [] else []) e

          at : Tells count.punts report → (p ≡ pipe) ⊎ (p ≢ pipe)
              → answered_in p s.controller.lines ++ waiting_in p held ≡ range_with_len 1 (ring_count rings p).punts
          at (nobody a e) (inl same) =
              ap (λ xs. answered_in p s.controller.lines ++ waiting_in p xs) (held_same pipe count.punts s.controller.held report a)
              ∙ (old ∙ ap (range_with_len 1) (ap (λ n. (ring_count s.controller.rings n).punts) same
              ∙ sym (ap (λ n. (ring_count rings n).punts) same ∙ (ap (λ r. r.punts) count_is ∙ ap (λ z. (count_after z count).punts) a))))
          at (nobody a e) (inr apart) =
              ap (λ xs. answered_in p s.controller.lines ++ waiting_in p xs) (held_same pipe count.punts s.controller.held report a)
              ∙ (old ∙ ap (λ r. range_with_len 1 r.punts) (sym (count_else s.controller.rings pipe p _ apart)))
          at (opener w r a e) (inl same) =
              let more = ap (held_after pipe count.punts s.controller.held) r ∙ held_more pipe count.punts s.controller.held w a in
              ap (λ xs. answered_in p s.controller.lines ++ waiting_in p xs) more
              ∙ (ap (λ xs. answered_in p s.controller.lines ++ xs) (waiting_more p s.controller.held (record { pipe = pipe; nth = count.punts + 1; key = w.key }) ∙ ap (λ xs. waiting_in p s.controller.held ++ xs) (by w true (grind (arith, nat_tests))))
              ∙ (sym (append_assoc (answered_in p s.controller.lines) (waiting_in p s.controller.held) ((count.punts + 1) ∷ []))
              ∙ (ap (λ xs. xs ++ (count.punts + 1) ∷ []) (old ∙ ap (λ n. range_with_len 1 (ring_count s.controller.rings n).punts) same)
              ∙ (ap (λ n. range_with_len 1 count.punts ++ n ∷ []) (add_comm_one count.punts)
              ∙ (sym (range_more 1 count.punts)
              ∙ ap (range_with_len 1) (sym (ap (λ n. (ring_count rings n).punts) same ∙ (ap (λ r. r.punts) count_is ∙ ap (λ z. (count_after z count).punts) (ap (λ o. holds_opener o count.punts) r ∙ a)))))))))
            where
              add_comm_one : (n : ℕ) → n + 1 ≡ 1 + n
              add_comm_one n = omega arith
          at (opener w r a e) (inr apart) =
              let more = ap (held_after pipe count.punts s.controller.held) r ∙ held_more pipe count.punts s.controller.held w a in
              ap (λ xs. answered_in p s.controller.lines ++ waiting_in p xs) more
              ∙ (ap (λ xs. answered_in p s.controller.lines ++ xs) (waiting_more p s.controller.held (record { pipe = pipe; nth = count.punts + 1; key = w.key }) ∙ (ap (λ xs. waiting_in p s.controller.held ++ xs) (by w false (grind (arith, nat_tests))) ∙ append-nil (waiting_in p s.controller.held)))
              ∙ (old ∙ ap (λ r. range_with_len 1 r.punts) (sym (count_else s.controller.rings pipe p _ apart))))

      some_taken : HeldHolds l after s.pipes rings held s.controller.lines
      some_taken =
          let t = tells count.punts report few in
          record { pipe = pipes_taken t; opener = openers_taken t; once = once_taken t; answer = i.held.held.answer }

    pub held_taken : (ended : Option KeyView)
        → HeldHolds l after s.pipes (taking s.config s.controller ended pipe (s.words cell)).rings (taking s.config s.controller ended pipe (s.words cell)).held s.controller.lines
    held_taken ended = at (cases_eq (s.words cell) 0)
      where
        at : (s.words cell ≡ 0) ⊎ (s.words cell ≢ 0)
            → HeldHolds l after s.pipes (taking s.config s.controller ended pipe (s.words cell)).rings (taking s.config s.controller ended pipe (s.words cell)).held s.controller.lines
        at (inl none) =
            subst (λ t. HeldHolds l after s.pipes t.rings t.held s.controller.lines) (sym (take_none s.config s.controller ended pipe (s.words cell) none)) (none_taken none)
        at (inr full) =
            subst (λ t. HeldHolds l after s.pipes t.rings t.held s.controller.lines) (sym (take_some s.config s.controller ended pipe (s.words cell) full)) (some_taken full)
