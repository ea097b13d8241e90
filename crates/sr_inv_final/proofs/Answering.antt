-- Each held opener has one answer, and each answer is to one, once no report of one waits in a ring and the controller has none.
use Rattle.std.proofs.Common.{◌≡◌, ℕ, zero, suc, ◌+◌, ◌-◌, ◌%◌, ◌<◌, ◌≤◌, ◌≢◌, ◌==◌, ◌&&◌, ◌||◌, nat_le, nat_lt, Bool, true, false, cond, List, [], ◌∷◌, ◌++◌, length, drop, slice_get, if◌then◌else◌, Some, None, Option, count_by, sum_by, sym, refl, ap, ◌∙◌, subst, append_assoc, append-nil, arith}
use Rattle.std.proofs.lemmas.Bool.{and_parts}
use Rattle.std.proofs.lemmas.Bool.Decides.{nat_tests}
use Rattle.std.proofs.lemmas.List.{length-drop, length-map}
use Rattle.std.proofs.lemmas.List.Sums.{sum_by-cons}
use Rattle.std.proofs.lemmas.Option.{same_Some, slice_get_within}
use Rattle.std.specs.List.{AllByRecursion, list_all, list_any, range_with_len}
use Rattle.sr_base.proofs.Sameness.{same_key-self}
use Rattle.sr_base.specs.Key.{KeyView, same_key}
use Rattle.sr_base.specs.Layout.{LayoutView}
use Rattle.sr_base.specs.declared.kind.Kind.{Kind}
use Rattle.sr_base.specs.declared.ring_word.RingKind.{RingKind}
use Rattle.sr_base.specs.declared.ring_word.RingKind.TheVariants.{Learn, Punt, Close}
use Rattle.sr_base.specs.declared.ring_word.RingWord.{RingWord}
use Rattle.sr_inv_facts.proofs.Lists.{all_back, all_both, all_front, all_then}
use Rattle.sr_inv_facts.proofs.Pipes.{idle, pipe_there}
use Rattle.sr_inv_facts.specs.InCauses.{setup_of}
use Rattle.sr_inv_facts.specs.InHeld.{AnswersHeld, Waiting, answered_by, answered_in, held_of, keys_of, punt_by, punt_in, punts_from, waiting_in}
use Rattle.sr_inv_facts.specs.InTicks.{IsOfPipe}
use Rattle.sr_inv_facts.specs.Invariant.{Invariant}
use Rattle.sr_inv_facts.specs.Readings.{OnReport, ring_words}
use Rattle.sr_inv_final.proofs.HeldLines.{held_at_count, helds_counted}
use Rattle.sr_inv_final.proofs.Summing.{printed_sum, zero_sum}
use Rattle.sr_inv_final.specs.Rest.{IsAtRest}
use Rattle.sr_inv_order.proofs.Joined.{order_part}
use Rattle.sr_inv_order.proofs.Rising.{and_true, pipe_lines_all, printed_all}
use Rattle.sr_inv_order.specs.Meeting.{EachLine}
use Rattle.sr_law.specs.Final.{all_held_answered, answer_is_held, answers, answers_rightly, held_is_answered, is_answered}
use Rattle.sr_law.specs.Full.{held_count}
use Rattle.sr_law.specs.Groups.{keeps_groups}
use Rattle.sr_law.specs.Order.{meets_order, refuses_next}
use Rattle.sr_law.specs.Ranges.{if_below, in_range, names_own_place, pipe_of, server_named, vip_of}
use Rattle.sr_law.specs.Rising.{rises}
use Rattle.sr_law.specs.Setup.{SetupView}
use Rattle.sr_law.specs.Taken.{keeps_places}
use Rattle.sr_law.specs.Ticks.{is_controller}
use Rattle.sr_law.specs.declared.line.Line.{Line}
use Rattle.sr_law.specs.declared.verdict.HeldBy.{HeldBy}
use Rattle.sr_machine.specs.Core.{Core, pipe_lines, printed}
use Rattle.sr_machine.specs.Deciding.{ring_count}
use Rattle.sr_machine.specs.Reads.{read_report}
use Rattle.sr_machine.specs.declared.pipe_view.PipeView.{PipeView}
use Rattle.sr_machine.specs.declared.stage.Stage.TheVariants.{Idle}
use Rattle.sr_law.specs.declared.line.Line.TheVariants as line
use Rattle.sr_law.specs.declared.verdict.Verdict.TheVariants as verdict

-- ---- lists

all_pass : (test : Line → Bool) (lines : List Line) → AllByRecursion (λ l. test l ≡ true) lines → list_all test lines ≡ true
all_pass test [] a = refl
all_pass test (l ∷ rest) a = and_true (test l) (list_all test rest) a.0 (all_pass test rest a.1)

module _ {X : Type 0} (test : X → Bool) where
  counted_on : (x : X) (xs : List X) → count_by test (x ∷ xs) ≡ cond (test x) 1 0 + count_by test xs
  counted_on x xs = sum_by-cons (λ y. cond (test y) 1 0) x xs

  counted_yes : (x : X) (xs : List X) → test x ≡ true → count_by test (x ∷ xs) ≡ 1 + count_by test xs
  counted_yes x xs e = counted_on x xs ∙ ap (λ b. cond b 1 0 + count_by test xs) e

  counted_no : (x : X) (xs : List X) → test x ≡ false → count_by test (x ∷ xs) ≡ count_by test xs
  counted_no x xs e =
      let here : count_by test (x ∷ xs) ≡ 0 + count_by test xs = counted_on x xs ∙ ap (λ b. cond b 1 0 + count_by test xs) e in
      omega (arith, here)

dropped_none : {X : Type 0} (n : ℕ) (xs : List X) → drop n xs ≡ [] → length xs ≤ n
dropped_none n xs e = omega (arith, length-drop n xs, ap length e)

-- a number stands once in a range
range_past : (low count n : ℕ) → n < low → count_by (λ m. m == n) (range_with_len low count) ≡ 0
range_past low zero n h = refl
range_past low (suc count) n h =
    let other : (low == n) ≡ false = grind (arith, nat_tests) in
    counted_no (λ m. m == n) low (range_with_len (low + 1) count) other ∙ range_past (low + 1) count n (omega (arith, h))

range_once : (low count n : ℕ) → low ≤ n → n < low + count → count_by (λ m. m == n) (range_with_len low count) ≡ 1
range_once low zero n a b = absurd (omega (arith, a, b))
range_once low (suc count) n a b = at (low == n) refl (range_once (low + 1) count n)
  where
    at : (t : Bool) → (low == n) ≡ t
        → (low + 1 ≤ n → n < low + 1 + count → count_by (λ m. m == n) (range_with_len (low + 1) count) ≡ 1)
        → count_by (λ m. m == n) (low ∷ range_with_len (low + 1) count) ≡ 1
    at true e more =
        let past : n < low + 1 = grind (arith, nat_tests) in
        omega (arith, counted_yes (λ m. m == n) low (range_with_len (low + 1) count) e, range_past (low + 1) count n past)
    at false e more =
        let later : low + 1 ≤ n = grind (arith, nat_tests) in
        counted_no (λ m. m == n) low (range_with_len (low + 1) count) e ∙ more later (omega (arith, b))

range_within : (low count high : ℕ) → 1 ≤ low → low + count ≤ 1 + high → AllByRecursion (λ n. (1 ≤ n) × (n ≤ high)) (range_with_len low count)
range_within low zero high a b = tt
range_within low (suc count) high a b =
    ((a, omega (arith, b)), range_within (low + 1) count high (omega (arith, a)) (omega (arith, b)))

-- ---- a ring without reports of held openers

punts_none : (l : LayoutView) (ring : ℕ → ℕ) (taken : ℕ)
    → ((i : ℕ) → i < l.shape.ring → OnReport l (ring ((taken + i) % l.shape.ring)) (λ w. w.kind ≢ Punt)) → (i first count : ℕ)
    → first ≡ taken + i → i + count ≤ l.shape.ring
    → punts_from l ring first count ≡ []
punts_none l ring taken none i first zero e low = refl
punts_none l ring taken none i first (suc count) e low =
    ap (λ ks. ks ++ punts_from l ring (first + 1) count) (no (read_report l (ring (first % l.shape.ring))) here)
    ∙ punts_none l ring taken none (i + 1) (first + 1) count (omega (arith, e)) (omega (arith, low))
  where
    by : (w : RingWord) (k : RingKind) → k ≢ Punt → punt_by w k ≡ []
    by w Learn n = refl
    by w Punt n = absurd (n refl)
    by w Close n = refl

    here : OnReport l (ring (first % l.shape.ring)) (λ w. w.kind ≢ Punt)
    here =
        subst (λ n. OnReport l (ring (n % l.shape.ring)) (λ w. w.kind ≢ Punt)) (sym e) (none i (omega (arith, low)))

    no : (o : Option RingWord) → ((w : RingWord) → o ≡ Some w → w.kind ≢ Punt) → punt_in o ≡ []
    no None h = refl
    no (Some w) h = by w w.kind (h w refl)

-- ---- answers by their lines

abbrev answers_once : ℕ → ℕ → Line → ℕ
answers_once p nth l = cond (answers p nth l) 1 0

-- the answers to the nth held opener of a pipe are as many as the numbers that were answered
answers_counted : (p nth : ℕ) (lines : List Line) → count_by (answers p nth) lines ≡ count_by (λ m. m == nth) (answered_in p lines)
answers_counted p nth [] = refl
answers_counted p nth (l ∷ rest) = counted_on (answers p nth) l rest ∙ at l (answers_counted p nth rest)
  where
    by : (n : ℕ) (b : Bool) → count_by (answers p nth) rest ≡ count_by (λ m. m == nth) (answered_in p rest)
        → cond (b && (n == nth)) 1 0 + count_by (answers p nth) rest
        ≡ count_by (λ m. m == nth) ((if b then n ∷ [] else []) ++ answered_in p rest)
    by n true h = ap (λ c. cond (n == nth) 1 0 + c) h ∙ sym (counted_on (λ m. m == nth) n (answered_in p rest))
    by n false h = omega (arith, h)

    at : (m : Line) → count_by (answers p nth) rest ≡ count_by (λ m. m == nth) (answered_in p rest)
        → cond (answers p nth m) 1 0 + count_by (answers p nth) rest
        ≡ count_by (λ m. m == nth) (answered_by p m ++ answered_in p rest)
    at (line.Answer out pipe n key v) h = by n (pipe == p) h
    at m h = omega (arith, h)

-- an answer to it is right
abbrev IsRight : ℕ → ℕ → Waiting → Line → Type 0
IsRight p nth w l = answers p nth l ≡ true → answers_rightly p nth w.key w.entered l ≡ true

-- where each of them is right, and there is one, a right one is there
some_right : (p nth : ℕ) (w : Waiting) (lines : List Line)
    → AllByRecursion (IsRight p nth w) lines
    → 1 ≤ count_by (answers p nth) lines
    → list_any (answers_rightly p nth w.key w.entered) lines ≡ true
some_right p nth w [] a c = absurd (omega (arith, c))
some_right p nth w (l ∷ rest) a c = at (answers p nth l) refl (some_right p nth w rest a.1)
  where
    at : (b : Bool) → answers p nth l ≡ b
        → (1 ≤ count_by (answers p nth) rest → list_any (answers_rightly p nth w.key w.entered) rest ≡ true)
        → list_any (answers_rightly p nth w.key w.entered) (l ∷ rest) ≡ true
    at true e more = ap (λ b. b || list_any (answers_rightly p nth w.key w.entered) rest) (a.0 e)
    at false e more =
        or_later (answers_rightly p nth w.key w.entered l) (list_any (answers_rightly p nth w.key w.entered) rest)
        (more (omega (arith, c, counted_no (answers p nth) l rest e)))
      where
        or_later : (a b : Bool) → b ≡ true → (a || b) ≡ true
        or_later true b e = refl
        or_later false b e = e

-- what holds of the numbers that were answered holds of each answer's
each_answer : (limit : ℕ) (R : ℕ → ℕ → Type 0) (lines : List Line) → ((p : ℕ) → p < limit → AllByRecursion (R p) (answered_in p lines))
    → AllByRecursion (λ l. (p : ℕ) → p < limit → AllByRecursion (R p) (answered_by p l)) lines
each_answer limit R [] a = tt
each_answer limit R (l ∷ rest) a = (
  λ p h. all_front (R p) (answered_by p l) (answered_in p rest) (a p h),
  each_answer limit R rest (λ p h. all_back (R p) (answered_by p l) (answered_in p rest) (a p h)),
)

-- ---- lines in range

each_all : (P : List Line → Line → Type 0) (Q : Line → Type 0) → ((before : List Line) (l : Line) → P before l → Q l) → (lines : List Line)
    → EachLine P lines → AllByRecursion Q lines
each_all P Q h [] a = tt
each_all P Q h (l ∷ before) a = (h before l a.0, each_all P Q h before a.1)

pipe_in_range : (setup : SetupView) (before : List Line) (l : Line) → meets_order setup before l ≡ true
    → if_below setup.shape.pipes (pipe_of l) ≡ true
unfolding meets_order in_range
pipe_in_range setup before l e =
    let vips = if_below (length setup.pools) (vip_of l) in
    let pipes = if_below setup.shape.pipes (pipe_of l) in
    let servers = if_below setup.servers (server_named l) in
    let a = and_parts (keeps_groups setup before l && rises before l && in_range setup l && keeps_places before l) (refuses_next before l) e in
    let b = and_parts (keeps_groups setup before l && rises before l && in_range setup l) (keeps_places before l) a.0 in
    let c = and_parts (keeps_groups setup before l && rises before l) (in_range setup l) b.0 in
    let d = and_parts (vips && pipes && servers) (names_own_place setup.shape l) c.1 in
    (and_parts vips pipes (and_parts (vips && pipes) servers d.0).0).1

-- a packet's line is of a pipe that there is
abbrev HasPipe : List PipeView → Line → Type 0
HasPipe pipes (line.Packet number entered out pipe key kind v) = (u : PipeView) × (slice_get pipes pipe ≡ Some u)
HasPipe pipes l = Unit {0}

-- ---- a state at rest

module _ (s : Core) (i : Invariant s) (r : IsAtRest s) where
  abbrev punts : ℕ → ℕ
  punts p = (ring_count s.controller.rings p).punts

  within : (p : ℕ) (v : PipeView) → slice_get s.pipes p ≡ Some v → p < s.config.layout.shape.pipes
  within p v q = subst (λ n. p < n) i.shape.pipes.count (slice_get_within s.pipes p v q)

  -- the controller was told of each held opener
  all_told : (p : ℕ) (v : PipeView) → slice_get s.pipes p ≡ Some v → length (held_of v) ≡ punts p
  all_told p v q =
      let h = i.held.held.pipe p v q in
      let words = (ring_count s.controller.rings p).words in
      let ring = i.words.ring p v q in
      let none = punts_none s.config.layout (ring_words s.words p) words (λ n b. r.told p n (within p v q) b) 0 words (v.pushed - words) (omega arith) (omega (arith, ring.least, ring.most)) in
      let low = dropped_none (punts p) (keys_of (held_of v)) (h.told ∙ none) in
      omega (arith, low, h.count, length-map (held_of v) (λ w. w.key))

  at_rest : (p : ℕ) (v : PipeView) → slice_get s.pipes p ≡ Some v → v.stage ≡ Idle
  at_rest p v q = idle v.stage (r.idle p v q)

  counted : (p : ℕ) (v : PipeView) → slice_get s.pipes p ≡ Some v → held_count p (printed s) ≡ punts p
  counted p v q = helds_counted s i.ticks p v q (at_rest p v q) ∙ all_told p v q

  -- and answered each
  all_answered : (p : ℕ) → p < s.config.layout.shape.pipes → answered_in p s.controller.lines ≡ range_with_len 1 (punts p)
  all_answered p h =
      sym (append-nil (answered_in p s.controller.lines))
      ∙ (ap (λ held. answered_in p s.controller.lines ++ waiting_in p held) (sym r.answered) ∙ i.held.held.once p h)

  answered_once : (p nth : ℕ) → p < s.config.layout.shape.pipes → 1 ≤ nth → nth ≤ punts p → count_by (answers p nth) (printed s) ≡ 1
  answered_once p nth h low high =
      let one = answers_once p nth in
      let none : sum_by one (pipe_lines s.pipes) ≡ 0 =
      zero_sum one (pipe_lines s.pipes) (pipe_lines_all (λ l. one l ≡ 0) s.pipes (λ q u e.
      all_then (IsOfPipe q) (λ l. one l ≡ 0) (silent q) u.lines (i.ticks.pipes q u e).own)) in
      let own : sum_by one s.controller.lines ≡ 1 =
      answers_counted p nth s.controller.lines
      ∙ (ap (count_by (λ m. m == nth)) (all_answered p h) ∙ range_once 1 (punts p) nth low (omega (arith, high))) in
      omega (arith, printed_sum one s, none, own)
    where
      silent : (q : ℕ) (l : Line) → IsOfPipe q l → answers_once p nth l ≡ 0
      silent q (line.Packet number entered out pipe key kind v) h = refl
      silent q l h = absurd h

  -- each answer to a held opener is of its key, after it entered
  each_right : (p nth : ℕ) (v : PipeView) (w : Waiting) → slice_get s.pipes p ≡ Some v → slice_get (held_of v) (nth - 1) ≡ Some w
      → AllByRecursion (IsRight p nth w) (printed s)
  each_right p nth v w q e =
      printed_all s (IsRight p nth w) (λ n u f. all_then (IsOfPipe n) (IsRight p nth w) (silent n) u.lines (i.ticks.pipes n u f).own)
      (all_then (AnswersHeld s.pipes) (IsRight p nth w) right s.controller.lines i.held.held.answer)
    where
      silent : (n : ℕ) (l : Line) → IsOfPipe n l → IsRight p nth w l
      silent n (line.Packet number entered out pipe key kind v) h t = cc
      silent n l h t = absurd h

      right : (l : Line) → AnswersHeld s.pipes l → IsRight p nth w l
      right (line.Answer out pipe n key u) h t =
          let both = and_parts (pipe == p) (n == nth) t in
          let own : pipe ≡ p = grind (arith, nat_tests, both.0) in
          let number : n ≡ nth = grind (arith, nat_tests, both.1) in
          let g = h v (ap (λ m. slice_get s.pipes m) own ∙ q) in
          let same : g.0 ≡ w = same_Some g.0 w (sym g.1 ∙ (ap (λ m. slice_get (held_of v) (m - 1)) number ∙ e)) in
          let key_is : key ≡ w.key = sym g.2 ∙ ap (λ z. z.key) same in
          let later : w.entered < out = subst (λ z. z.entered < out) same g.3 in
          and_true (((pipe == p) && (n == nth)) && same_key key w.key) (nat_lt w.entered out)
          (and_true ((pipe == p) && (n == nth)) (same_key key w.key) t (subst (λ z. same_key z w.key ≡ true) (sym key_is) (same_key-self w.key)))
          (grind (arith, nat_tests))
      right l h t = cc

  each_has_pipe : AllByRecursion (HasPipe s.pipes) (printed s)
  each_has_pipe =
      printed_all s (HasPipe s.pipes) (λ q u e. all_then (IsOfPipe q) (HasPipe s.pipes) (own q u e) u.lines (i.ticks.pipes q u e).own)
      (all_then (λ l. is_controller l ≡ true) (HasPipe s.pipes) other s.controller.lines i.ticks.controller.own)
    where
      own : (q : ℕ) (u : PipeView) → slice_get s.pipes q ≡ Some u → (l : Line) → IsOfPipe q l → HasPipe s.pipes l
      own q u e (line.Packet number entered out pipe key kind v) h = (u, ap (λ n. slice_get s.pipes n) h ∙ e)
      own q u e l h = absurd h

      other : (l : Line) → is_controller l ≡ true → HasPipe s.pipes l
      other (line.Packet number entered out pipe key kind v) h = cc
      other l h = tt

  has_answer : (p number entered out : ℕ) (key : KeyView) (kind : Kind) (why : HeldBy) (front before : List Line) (v : PipeView)
      → slice_get s.pipes p ≡ Some v
      → front ++ line.Packet number entered out p key kind (verdict.Held why) ∷ before ≡ printed s
      → is_answered (printed s) p (1 + held_count p before) key entered ≡ true
  unfolding is_answered
  has_answer p number entered out key kind why front before v q e =
      let w : Waiting = record { key = key; entered = entered } in
      let at : slice_get (held_of v) (held_count p before) ≡ Some w =
      held_at_count s i.ticks p v q (at_rest p v q) front number entered out key kind why before e in
      let there : slice_get (held_of v) ((1 + held_count p before) - 1) ≡ Some w =
      subst (λ n. slice_get (held_of v) n ≡ Some w) (omega arith) at in
      let low = slice_get_within (held_of v) (held_count p before) w at in
      let once = answered_once p (1 + held_count p before) (within p v q) (omega arith) (omega (arith, low, all_told p v q)) in
      and_true (count_by (answers p (1 + held_count p before)) (printed s) == 1)
      (list_any (answers_rightly p (1 + held_count p before) key entered) (printed s))
      (grind (arith, nat_tests, once))
      (some_right p (1 + held_count p before) w (printed s) (each_right p (1 + held_count p before) v w q there) (omega (arith, once)))

  answered_from : (front before : List Line) → front ++ before ≡ printed s → all_held_answered (printed s) before ≡ true
  answered_from front [] e = refl
  answered_from front (l ∷ before) e =
      and_true (held_is_answered (printed s) l before) (all_held_answered (printed s) before) (one l e mine)
      (answered_from (front ++ l ∷ []) before (append_assoc front (l ∷ []) before ∙ e))
    where
      mine : HasPipe s.pipes l
      mine = (all_back (HasPipe s.pipes) front (l ∷ before) (subst (AllByRecursion (HasPipe s.pipes)) (sym e) each_has_pipe)).0

      one : (m : Line) → front ++ m ∷ before ≡ printed s → HasPipe s.pipes m → held_is_answered (printed s) m before ≡ true
      one (line.Packet number entered out pipe key kind (verdict.Held why)) f h =
          has_answer pipe number entered out key kind why front before h.0 h.1 f
      one m f h = refl

  -- each held opener has its answer
  pub helds_answered : all_held_answered (printed s) (printed s) ≡ true
  helds_answered = answered_from [] (printed s) refl

  -- and each answer is to a held opener
  pub answers_held : list_all (answer_is_held (printed s)) (printed s) ≡ true
  answers_held =
      all_pass (answer_is_held (printed s)) (printed s)
      (all_both (λ l. if_below s.config.layout.shape.pipes (pipe_of l) ≡ true) Right (λ l. answer_is_held (printed s) l ≡ true) one (printed s) ranges rights)
    where
      Numbered : ℕ → ℕ → Type 0
      Numbered p n = (1 ≤ n) × (n ≤ punts p)

      Right : Line → Type 0
      Right l = (p : ℕ) → p < s.config.layout.shape.pipes → AllByRecursion (Numbered p) (answered_by p l)

      ranges : AllByRecursion (λ l. if_below s.config.layout.shape.pipes (pipe_of l) ≡ true) (printed s)
      ranges =
          each_all (λ before l. meets_order (setup_of s.config) before l ≡ true) (λ l. if_below s.config.layout.shape.pipes (pipe_of l) ≡ true)
          (λ before l m. pipe_in_range (setup_of s.config) before l m) (printed s) (order_part s i)

      silent : (q : ℕ) (l : Line) → IsOfPipe q l → Right l
      silent q (line.Packet number entered out pipe key kind v) h = λ p f. tt
      silent q l h = absurd h

      rights : AllByRecursion Right (printed s)
      rights =
          printed_all s Right (λ q u e. all_then (IsOfPipe q) Right (silent q) u.lines (i.ticks.pipes q u e).own)
          (each_answer s.config.layout.shape.pipes Numbered s.controller.lines (λ p h.
          subst (AllByRecursion (Numbered p)) (sym (all_answered p h)) (range_within 1 (punts p) (punts p) (omega arith) (omega arith))))

      alone : (p n : ℕ) (b : Bool) → b ≡ true → AllByRecursion (Numbered p) (if b then n ∷ [] else []) → Numbered p n
      alone p n true e a = a.0
      alone p n false e a = cc

      one : (l : Line) → if_below s.config.layout.shape.pipes (pipe_of l) ≡ true → Right l → answer_is_held (printed s) l ≡ true
      one (line.Answer out pipe nth key v) t h =
          let low : pipe < s.config.layout.shape.pipes = grind (arith, nat_tests, t) in
          let own = alone pipe nth (pipe == pipe) (grind (arith, nat_tests)) (h pipe low) in
          let there = pipe_there s.pipes pipe (subst (λ n. pipe < n) (sym i.shape.pipes.count) low) in
          let count = counted pipe there.0 there.1 in
          and_true (nat_le 1 nth) (nat_le nth (held_count pipe (printed s))) (grind (arith, nat_tests, own.0)) (grind (arith, nat_tests, own.1, count))
      one l t h = refl
