-- An opener that finds its pipe's ring full may find it so: as many reports as the ring has cells came since the last one that was surely taken.
use Rattle.std.proofs.Common.{◌≡◌, ℕ, zero, suc, ◌+◌, ◌-◌, ◌%◌, ◌<◌, ◌≤◌, ◌≢◌, ◌&&◌, ◌||◌, ◌==◌, nat_le, nat_lt, Bool, true, false, ◌⊎◌, List, [], ◌∷◌, ◌++◌, length, reverse, slice_get, if◌then◌else◌, Some, sym, refl, ap, ◌∙◌, subst, inl, inr, append-nil, arith}
use Rattle.std.proofs.lemmas.Bool.{cases_lt}
use Rattle.std.proofs.lemmas.Bool.Decides.{nat_tests}
use Rattle.std.proofs.lemmas.List.{length-append, reverse-append, reverse-reverse}
use Rattle.std.proofs.lemmas.Option.{slice_get_within}
use Rattle.std.specs.List.{AllByRecursion, list_any, range_with_len}
use Rattle.sr_base.specs.Key.{KeyView}
use Rattle.sr_base.specs.declared.kind.Kind.{Kind}
use Rattle.sr_inv_facts.proofs.Lists.{all_front, all_then}
use Rattle.sr_inv_facts.specs.InCauses.{told_report, told_reports}
use Rattle.sr_inv_facts.specs.InHeld.{after_held, answered_by, answered_in, is_held, report_at, reports_in, reports_of, waiting_in}
use Rattle.sr_inv_facts.specs.InTicks.{IsOfPipe}
use Rattle.sr_inv_facts.specs.Invariant.{Invariant}
use Rattle.sr_inv_order.proofs.Rising.{printed_all}
use Rattle.sr_law.specs.Full.{answers_before, held_count, is_held_in, leaves_word, may_be_full, words_since}
use Rattle.sr_law.specs.declared.line.Line.{Line}
use Rattle.sr_law.specs.declared.verdict.Verdict.{Verdict}
use Rattle.sr_machine.specs.Core.{Core, printed}
use Rattle.sr_machine.specs.Deciding.{ring_count}
use Rattle.sr_machine.specs.declared.flight.Flight.{Flight}
use Rattle.sr_machine.specs.declared.leg.Leg.TheVariants.{Judged}
use Rattle.sr_machine.specs.declared.pipe_view.PipeView.{PipeView}
use Rattle.sr_machine.specs.declared.stage.Stage.TheVariants.{Fly}
use Rattle.sr_machine.specs.declared.leg.Last.TheVariants as last
use Rattle.sr_law.specs.declared.line.Line.TheVariants as line
use Rattle.sr_machine.specs.declared.name.Name.TheVariants as name
use Rattle.sr_law.specs.declared.verdict.Verdict.TheVariants as verdict

-- ---- reports since a held one, the newest first

abbrev one_if : Bool → ℕ
one_if b = if b then 1 else 0

abbrev helds : List Bool → ℕ
helds [] = 0
helds (b ∷ rest) = one_if b + helds rest

-- how many reports come after the held one of this number
abbrev since : ℕ → List Bool → ℕ
since n [] = 0
since n (h ∷ rest) = if h && nat_le (1 + helds rest) n then 0 else 1 + since n rest

helds_joined : (xs ys : List Bool) → helds (xs ++ ys) ≡ helds xs + helds ys
helds_joined [] ys = omega arith
helds_joined (x ∷ xs) ys = omega (arith, helds_joined xs ys)

helds_reverse : (xs : List Bool) → helds (reverse xs) ≡ helds xs
helds_reverse [] = refl
helds_reverse (x ∷ xs) =
    ap helds (reverse-append (x ∷ []) xs) ∙ omega (arith, helds_joined (reverse xs) (x ∷ []), helds_reverse xs)

abbrev rest_if : Bool → ℕ → ℕ
rest_if b n = if b then 0 else 1 + n

none_after : (n : ℕ) → after_held n [] ≡ 0
none_after zero = refl
none_after (suc n) = refl

-- one report more, the newest
after_more : (n : ℕ) (xs : List Bool) (h : Bool) → after_held n (xs ++ h ∷ []) ≤ rest_if (h && nat_le (1 + helds xs) n) (after_held n xs)
after_more zero xs h = at h (nat_le (1 + helds xs) 0) (grind (arith, nat_tests))
  where
    at : (h b : Bool) → b ≡ false → length (xs ++ h ∷ []) ≤ rest_if (h && b) (length xs)
    at true true e = cc
    at true false e = omega (arith, length-append xs (true ∷ []))
    at false b e = omega (arith, length-append xs (false ∷ []))
after_more (suc n) [] true =
    at (nat_le 1 (suc n)) (grind (arith, nat_tests))
  where
    at : (b : Bool) → b ≡ true → after_held n [] ≤ rest_if b 0
    at true e = omega (arith, none_after n)
    at false e = cc
after_more (suc n) [] false = omega arith
after_more (suc n) (true ∷ xs) h =
    subst (λ b. after_held n (xs ++ h ∷ []) ≤ rest_if (h && b) (after_held n xs)) same (after_more n xs h)
  where
    same : nat_le (1 + helds xs) n ≡ nat_le (1 + (1 + helds xs)) (suc n)
    same = grind (arith, nat_tests)
after_more (suc n) (false ∷ xs) h =
    subst (λ b. after_held (suc n) (xs ++ h ∷ []) ≤ rest_if (h && b) (after_held (suc n) xs)) same (after_more (suc n) xs h)
  where
    same : nat_le (1 + helds xs) (suc n) ≡ nat_le (1 + (0 + helds xs)) (suc n)
    same = grind (arith, nat_tests)

-- counted from the newest there are no fewer
after_since : (n : ℕ) (xs : List Bool) → after_held n (reverse xs) ≤ since n xs
after_since n [] = omega (arith, none_after n)
after_since n (h ∷ xs) =
    let more = subst (λ ys. after_held n ys ≤ rest_if (h && nat_le (1 + helds (reverse xs)) n) (after_held n (reverse xs))) (sym (reverse-append (h ∷ []) xs)) (after_more n (reverse xs) h) in
    at (h && nat_le (1 + helds xs) n)
    (subst (λ m. after_held n (reverse (h ∷ xs)) ≤ rest_if (h && nat_le (1 + m) n) (after_held n (reverse xs))) (helds_reverse xs) more)
    (after_since n xs)
  where
    at : (b : Bool) → after_held n (reverse (h ∷ xs)) ≤ rest_if b (after_held n (reverse xs)) → after_held n (reverse xs) ≤ since n xs
        → after_held n (reverse (h ∷ xs)) ≤ rest_if b (since n xs)
    at true e more = e
    at false e more = omega (arith, e, more)

-- ---- the lines' count is no less

held_is : (p number entered out pipe : ℕ) (key : KeyView) (kind : Kind) (v : Verdict)
    → is_held_in p (line.Packet number entered out pipe key kind v) ≡ ((pipe == p) && is_held v)
held_is p number entered out pipe key kind (verdict.Held why) = at (pipe == p)
  where
    at : (b : Bool) → b ≡ (b && true)
    at true = refl
    at false = refl
held_is p number entered out pipe key kind (verdict.To server version pool) = at (pipe == p)
  where
    at : (b : Bool) → false ≡ (b && false)
    at true = refl
    at false = refl
held_is p number entered out pipe key kind (verdict.Down server version pool) = at (pipe == p)
  where
    at : (b : Bool) → false ≡ (b && false)
    at true = refl
    at false = refl
held_is p number entered out pipe key kind verdict.Full = at (pipe == p)
  where
    at : (b : Bool) → false ≡ (b && false)
    at true = refl
    at false = refl
held_is p number entered out pipe key kind verdict.NoPlace = at (pipe == p)
  where
    at : (b : Bool) → false ≡ (b && false)
    at true = refl
    at false = refl

-- what is held leaves a word
held_leaves : (kind : Kind) (v : Verdict) → leaves_word kind v ≡ false → is_held v ≡ false
held_leaves kind (verdict.Held why) e = cc
held_leaves kind (verdict.To server version pool) e = refl
held_leaves kind (verdict.Down server version pool) e = refl
held_leaves kind verdict.Full e = refl
held_leaves kind verdict.NoPlace e = refl

module _ (p tick n : ℕ) (all : List Line) (few : (nth : ℕ) → list_any (answers_before p nth tick) all ≡ true → nth ≤ n) where
  counts : (lines : List Line) → held_count p lines ≡ helds (told_reports p lines)
  counts [] = refl
  counts (l ∷ before) = at l (counts before)
    where
      by : (number entered out pipe : ℕ) (key : KeyView) (kind : Kind) (v : Verdict) (a b : Bool) → leaves_word kind v ≡ b
          → held_count p before ≡ helds (told_reports p before)
          → one_if (a && is_held v) + held_count p before ≡ helds ((if a then (if b then is_held v ∷ [] else []) else []) ++ told_reports p before)
      by number entered out pipe key kind v true true e h = ap (λ m. one_if (is_held v) + m) h
      by number entered out pipe key kind v true false e h = ap (λ m. one_if m + held_count p before) (held_leaves kind v e) ∙ (omega (arith, h))
      by number entered out pipe key kind v false b e h = omega (arith, h)

      at : (m : Line) → held_count p before ≡ helds (told_reports p before) → held_count p (m ∷ before) ≡ helds (told_reports p (m ∷ before))
      at (line.Packet number entered out pipe key kind v) h =
          ap (λ b. one_if b + held_count p before) (held_is p number entered out pipe key kind v)
          ∙ by number entered out pipe key kind v (pipe == p) (leaves_word kind v) refl h
      at m h = omega (arith, h)

  since_told : (lines : List Line) → since n (told_reports p lines) ≤ words_since all p tick lines
  since_told [] = omega arith
  since_told (l ∷ before) = at l (since_told before)
    where
      -- the tests of a line that is answered or isn't
      answered : (h c : Bool) → (c ≡ true → 1 + helds (told_reports p before) ≤ n)
          → since n (told_reports p before) ≤ words_since all p tick before
          → since n (h ∷ told_reports p before) ≤ (if h && c then 0 else (1 + words_since all p tick before))
      answered true true a h = zero_by (nat_le (1 + helds (told_reports p before)) n) (let low = a refl in grind (arith, nat_tests))
        where
          zero_by : (b : Bool) → b ≡ true → rest_if b (since n (told_reports p before)) ≤ 0
          zero_by true e = omega arith
          zero_by false e = cc
      answered true false a h = any (nat_le (1 + helds (told_reports p before)) n)
        where
          any : (b : Bool) → rest_if b (since n (told_reports p before)) ≤ 1 + words_since all p tick before
          any true = omega arith
          any false = omega (arith, h)
      answered false c a h = omega (arith, h)

      by : (kind : Kind) (v : Verdict) (a b c : Bool) → leaves_word kind v ≡ b → (c ≡ true → 1 + helds (told_reports p before) ≤ n)
          → since n (told_reports p before) ≤ words_since all p tick before
          → since n ((if a then (if b then is_held v ∷ [] else []) else []) ++ told_reports p before) ≤ (if (a && is_held v) && c then 0 else (one_if (a && b) + words_since all p tick before))
      by kind v true true c e low h = answered (is_held v) c low h
      by kind v true false c e low h =
          subst (λ m. since n (told_reports p before) ≤ (if m && c then 0 else (0 + words_since all p tick before))) (sym (held_leaves kind v e)) (omega (arith, h))
      by kind v false b c e low h = omega (arith, h)

      at : (m : Line) → since n (told_reports p before) ≤ words_since all p tick before
          → since n (told_reports p (m ∷ before)) ≤ words_since all p tick (m ∷ before)
      at (line.Packet number entered out pipe key kind v) h =
          subst (λ b. since n (told_report p (line.Packet number entered out pipe key kind v) ++ told_reports p before) ≤ (if b && list_any (answers_before p (1 + held_count p before) tick) all then 0 else (one_if ((pipe == p) && leaves_word kind v) + words_since all p tick before)))
          (sym (held_is p number entered out pipe key kind v))
          (by kind v (pipe == p) (leaves_word kind v) (list_any (answers_before p (1 + held_count p before) tick) all) refl (λ t. subst (λ m. 1 + m ≤ n) (counts before) (few (1 + held_count p before) t)) h)
      at m h = omega (arith, h)

-- ---- which openers were answered

range_low : (low count high : ℕ) → low + count ≤ high → AllByRecursion (λ n. n < high) (range_with_len low count)
range_low low zero high h = tt
range_low low (suc count) high h = (omega (arith, h), range_low (low + 1) count high (omega (arith, h)))

answers_low : (p tick high : ℕ) (lines : List Line) → AllByRecursion (λ n. n < high) (answered_in p lines)
    → AllByRecursion (λ l. (nth : ℕ) → answers_before p nth tick l ≡ true → nth < high) lines
answers_low p tick high [] a = tt
answers_low p tick high (l ∷ rest) a = at l a (answers_low p tick high rest)
  where
    alike : (n m : ℕ) → (n == m) ≡ true → n ≡ m
    alike n m e = grind (arith, nat_tests)

    parts : (a b : Bool) → (a && b) ≡ true → (a ≡ true) × (b ≡ true)
    parts true b e = (refl, e)
    parts false b e = cc

    by : (pipe nth out : ℕ) (b : Bool) → AllByRecursion (λ n. n < high) ((if b then nth ∷ [] else []) ++ answered_in p rest)
        → (AllByRecursion (λ n. n < high) (answered_in p rest) → AllByRecursion (λ l. (nth : ℕ) → answers_before p nth tick l ≡ true → nth < high) rest)
        → ((n : ℕ) → ((b && (nth == n)) && nat_lt out tick) ≡ true → n < high) × AllByRecursion (λ l. (nth : ℕ) → answers_before p nth tick l ≡ true → nth < high) rest
    by pipe nth out true a more =
        (λ n e. let own : nth ≡ n = alike nth n (parts (nth == n) (nat_lt out tick) e).0 in subst (λ m. m < high) own a.0, more a.1)
    by pipe nth out false a more = (λ n e. cc, more a)

    at : (m : Line) → AllByRecursion (λ n. n < high) (answered_by p m ++ answered_in p rest)
        → (AllByRecursion (λ n. n < high) (answered_in p rest) → AllByRecursion (λ l. (nth : ℕ) → answers_before p nth tick l ≡ true → nth < high) rest)
        → AllByRecursion (λ l. (nth : ℕ) → answers_before p nth tick l ≡ true → nth < high) (m ∷ rest)
    at (line.Answer out pipe nth key v) a more = by pipe nth out (pipe == p) a more
    at m a more = (λ n e. cc, more a)

pipes_low : (p tick high q : ℕ) (lines : List Line) → AllByRecursion (IsOfPipe q) lines
    → AllByRecursion (λ l. (nth : ℕ) → answers_before p nth tick l ≡ true → nth < high) lines
pipes_low p tick high q lines a = all_then (IsOfPipe q) (λ l. (nth : ℕ) → answers_before p nth tick l ≡ true → nth < high) one lines a
  where
    one : (l : Line) → IsOfPipe q l → (nth : ℕ) → answers_before p nth tick l ≡ true → nth < high
    one (line.Packet number entered out pipe key kind v) h nth e = cc
    one l h nth e = absurd h

some_low : (p tick high nth : ℕ) (lines : List Line)
    → AllByRecursion (λ l. (nth : ℕ) → answers_before p nth tick l ≡ true → nth < high) lines
    → list_any (answers_before p nth tick) lines ≡ true → nth < high
some_low p tick high nth [] a e = cc
some_low p tick high nth (l ∷ rest) a e = at (answers_before p nth tick l) refl e (some_low p tick high nth rest a.1)
  where
    at : (b : Bool) → answers_before p nth tick l ≡ b → (b || list_any (answers_before p nth tick) rest) ≡ true
        → (list_any (answers_before p nth tick) rest ≡ true → nth < high) → nth < high
    at true q g more = a.0 nth q
    at false q g more = more g

-- ---- a ring that was found full

pub filled : (s : Core) → Invariant s → (p : ℕ) (v : PipeView) → slice_get s.pipes p ≡ Some v → (f : Flight) (w : Verdict)
    → v.stage ≡ Fly f (Judged w last.Ring)
    → s.words (name.Ring p (v.pushed % s.config.layout.shape.ring)) ≢ 0 → (tick : ℕ)
    → may_be_full s.config.layout.shape (printed s) p tick ≡ true
unfolding may_be_full
filled s i p v q f w e full tick =
    let ring = i.words.ring p v q in
    let size = s.config.layout.shape.ring in
    let taken = (ring_count s.controller.rings p).words in
    let punts = (ring_count s.controller.rings p).punts in
    let some : v.pushed - taken ≡ size = whole taken v.pushed size ring.least ring.most (λ low. full (ring.empty v.pushed (omega arith) low)) in
    let held = i.held.held.pipe p v q in
    let own : reports_of v ≡ reports_in v.lines =
    ap (λ a. reports_in v.lines ++ report_at a) e ∙ append-nil (reports_in v.lines) in
    let more : (v.pushed - taken) - 0 ≤ after_held (punts + 0) (reports_of v) = held.reports 0 (omega arith) in
    let zero_punts : punts + 0 ≡ punts = omega arith in
    let most : v.pushed - taken ≤ after_held punts (reports_in v.lines) =
    subst (λ rs. v.pushed - taken ≤ after_held punts rs) own (subst (λ m. v.pushed - taken ≤ after_held m (reports_of v)) zero_punts (omega (arith, more))) in
    let within : p < s.config.layout.shape.pipes = subst (λ m. p < m) i.shape.pipes.count (slice_get_within s.pipes p v q) in
    let each : AllByRecursion (λ m. m < 1 + punts) (answered_in p s.controller.lines) =
    all_front (λ m. m < 1 + punts) (answered_in p s.controller.lines) (waiting_in p s.controller.held)
    (subst (AllByRecursion (λ m. m < 1 + punts)) (sym (i.held.held.once p within)) (range_low 1 punts (1 + punts) (omega arith))) in
    let low : AllByRecursion (λ l. (nth : ℕ) → answers_before p nth tick l ≡ true → nth < 1 + punts) (printed s) =
    printed_all s (λ l. (nth : ℕ) → answers_before p nth tick l ≡ true → nth < 1 + punts)
    (λ n u there. pipes_low p tick (1 + punts) n u.lines (i.ticks.pipes n u there).own) (answers_low p tick (1 + punts) s.controller.lines each) in
    let told = i.causes.causes.reports p v q in
    let counted : since punts (told_reports p (printed s)) ≤ words_since (printed s) p tick (printed s) =
    since_told p tick punts (printed s) (λ nth t. let less = some_low p tick (1 + punts) nth (printed s) low t in omega (arith, less)) (printed s) in
    let newest : after_held punts (reports_in v.lines) ≤ since punts (told_reports p (printed s)) =
    subst (λ rs. after_held punts rs ≤ since punts (told_reports p (printed s))) (ap reverse told ∙ reverse-reverse (reports_in v.lines)) (after_since punts (told_reports p (printed s))) in
    let enough : size ≤ words_since (printed s) p tick (printed s) = omega (arith, some, most, counted, newest) in
    grind (arith, nat_tests)
  where
    whole : (taken pushed size : ℕ) → taken ≤ pushed → pushed ≤ taken + size → (pushed < taken + size → ⊥) → pushed - taken ≡ size
    whole taken pushed size a b never = at (cases_lt pushed (taken + size))
      where
        at : (pushed < taken + size) ⊎ (taken + size ≤ pushed) → pushed - taken ≡ size
        at (inl h) = absurd (never h)
        at (inr h) = omega (arith, a, b, h)
