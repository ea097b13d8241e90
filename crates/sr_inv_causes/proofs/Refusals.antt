-- A refused change has its cause: each version of some virtual address is in use by the lines.
use Rattle.std.proofs.Common.{◌≡◌, ℕ, zero, suc, ◌+◌, ◌<◌, ◌≤◌, ◌≢◌, ◌||◌, ◌==◌, Bool, true, false, cond, ◌⊎◌, List, [], ◌∷◌, length, Some, None, Option, if◌then◌else◌, sym, refl, ap, ◌∙◌, subst, inl, inr, arith}
use Rattle.std.proofs.lemmas.Bool.Decides.{nat_tests}
use Rattle.std.proofs.lemmas.List.Sums.{sum_by-cons}
use Rattle.std.specs.List.{list_any}
use Rattle.std.specs.Option.{option_or}
use Rattle.sr_base.proofs.Sameness.{same_key-true}
use Rattle.sr_base.specs.Key.{KeyView, same_key}
use Rattle.sr_base.specs.declared.kind.Kind.TheVariants.{Opener, Carry, Ending}
use Rattle.sr_inv_clauses.proofs.Learned.{leaving_learned}
use Rattle.sr_inv_facts.proofs.Lists.{all_in}
use Rattle.sr_inv_facts.specs.InOpenings.{EntryOpened, IsAwaited, IsUnopened}
use Rattle.sr_inv_facts.specs.InUpdate.{AllTaken, IsAside, IsNew, IsRefused, OnRefused, newest, standing}
use Rattle.sr_inv_facts.specs.Invariant.{Invariant}
use Rattle.sr_inv_facts.specs.Readings.{In}
use Rattle.sr_inv_order.proofs.Grouped.{pools_count}
use Rattle.sr_inv_order.proofs.Rising.{and_true}
use Rattle.sr_law.specs.Cause.{all_in_use, some_all_in_use}
use Rattle.sr_law.specs.Given.{has_version, last_given}
use Rattle.sr_law.specs.Number.{holds_version, is_held_open, is_in_use, opened_with}
use Rattle.sr_law.specs.Opening.{opened, opened_by, opening, retires}
use Rattle.sr_law.specs.Ticks.{key_of}
use Rattle.sr_law.specs.declared.line.Line.{Line}
use Rattle.sr_law.specs.declared.opening.Opening.{Opening}
use Rattle.sr_machine.specs.Core.{Core, printed}
use Rattle.sr_machine.specs.Deciding.{learned, learned_in, vip_at}
use Rattle.sr_shadow.specs.Book.{count_of}
use Rattle.sr_shadow.specs.Entry.{has_version as entry_has}
use Rattle.sr_shadow.specs.declared.entry.Entry.{Entry}
use Rattle.sr_update.specs.Numbers.{state_of}
use Rattle.sr_update.specs.declared.number_state.NumberState.TheVariants.{Current, Draining}
use Rattle.sr_machine.specs.declared.draw.Draw.TheVariants as draw
use Rattle.sr_machine.specs.declared.job.Job.TheVariants as job
use Rattle.sr_law.specs.declared.line.Line.TheVariants as line

-- ---- an open connection has a line

or_cases : (a b : Bool) → (a || b) ≡ true → (a ≡ true) ⊎ (b ≡ true)
or_cases true b e = inl refl
or_cases false b e = inr e

or_second : (a b : Bool) → b ≡ true → (a || b) ≡ true
or_second true b h = refl
or_second false b h = h

pub or_first : (a b : Bool) → a ≡ true → (a || b) ≡ true
or_first true b h = refl
or_first false b h = cc

-- a line that opens a connection is a line of its key
opens_own : (l : Line) (key : KeyView) (o : Opening) → opened_by l key ≡ Some o → key_of l ≡ Some key
opens_own (line.Packet number entered out pipe own Opener v) key o e = at (same_key own key) refl e
  where
    at : (b : Bool) → same_key own key ≡ b → (if b then opened out v else None) ≡ Some o → Some own ≡ Some key
    at true q g = ap Some (same_key-true own key q)
    at false q g = cc
opens_own (line.Packet number entered out pipe own Carry v) key o e = cc
opens_own (line.Packet number entered out pipe own Ending v) key o e = cc
opens_own (line.Answer out pipe nth own v) key o e = at (same_key own key) refl e
  where
    at : (b : Bool) → same_key own key ≡ b → (if b then opened out v else None) ≡ Some o → Some own ≡ Some key
    at true q g = ap Some (same_key-true own key q)
    at false q g = cc
opens_own l key o e = cc

open_line : (lines : List Line) (key : KeyView) (o : Opening) (test : Option KeyView → Bool) → test (Some key) ≡ true → opening lines key ≡ Some o
    → list_any (λ l. test (key_of l)) lines ≡ true
open_line [] key o test t e = cc
open_line (l ∷ before) key o test t e = at (retires l key) e (open_line before key o test t)
  where
    now : (p : Option Opening) → opening before key ≡ p → option_or p (opened_by l key) ≡ Some o
        → (opening before key ≡ Some o → list_any (λ l. test (key_of l)) before ≡ true)
        → list_any (λ l. test (key_of l)) (l ∷ before) ≡ true
    now None q g more =
        or_first (test (key_of l)) (list_any (λ l. test (key_of l)) before) (ap test (opens_own l key o g) ∙ t)
    now (Some p) q g more = or_second (test (key_of l)) (list_any (λ l. test (key_of l)) before) (more (q ∙ g))

    at : (b : Bool) → (if b then None else option_or (opening before key) (opened_by l key)) ≡ Some o
        → (opening before key ≡ Some o → list_any (λ l. test (key_of l)) before ≡ true)
        → list_any (λ l. test (key_of l)) (l ∷ before) ≡ true
    at true g more = cc
    at false g more = now (opening before key) refl g more

-- ---- a version that drains has an entry

counted : (vip n : ℕ) (es : List Entry) → 1 ≤ count_of vip n es → (e : Entry) × In e es × (entry_has vip n e ≡ true)
counted vip n [] h = absurd (omega arith)
counted vip n (e ∷ es) h = at (entry_has vip n e) refl (subst (λ m. 1 ≤ m) (sum_by-cons (λ e. cond (entry_has vip n e) 1 0) e es) h) (counted vip n es)
  where
    at : (b : Bool) → entry_has vip n e ≡ b → 1 ≤ cond b 1 0 + count_of vip n es
        → (1 ≤ count_of vip n es → (e : Entry) × In e es × (entry_has vip n e ≡ true))
        → (x : Entry) × In x (e ∷ es) × (entry_has vip n x ≡ true)
    at true q g more = (e, inl refl, q)
    at false q g more = let f = more (omega (arith, g)) in (f.0, inr f.1, f.2)

module _ (s : Core) (i : Invariant s) (change : ℕ) (e : s.controller.job ≡ job.Draw (draw.Refused change)) where
  refused : IsRefused s.config s.controller.update s.controller.numbers s.controller.book.entries s.controller.gives change
  refused =
      subst (λ j. OnRefused j (IsRefused s.config s.controller.update s.controller.numbers s.controller.book.entries s.controller.gives)) e
      i.update.changes.refused

  steady_at : (vip : ℕ) → learned s.controller.vips vip ≡ (vip_at s.controller.vips vip).cur
  steady_at vip =
      ap (λ p. learned_in p (vip_at s.controller.vips vip).cur (vip_at s.controller.vips vip).next)
      (i.update.update.others vip (subst (λ o. IsAside o vip) (sym refused.none) tt))

  -- a version that is the current one was given last
  current_used : (vip n : ℕ) → vip < s.config.layout.vips → n < s.config.layout.shape.versions
      → state_of vip n s.controller.numbers ≡ Some Current
      → is_in_use (printed s) vip n ≡ true
  current_used vip n h g c = or_first (has_version (last_given (printed s) vip) n) (is_held_open (printed s) vip n) (at ((i.update.versions.current vip n h g).0 c))
    where
      cur : standing s.controller.update s.controller.vips vip ≡ (vip_at s.controller.vips vip).cur
      cur = ap (λ o. standing o s.controller.vips vip) refused.none

      new : newest s.controller.update s.controller.vips s.controller.job vip ≡ (vip_at s.controller.vips vip).cur
      new = ap (λ o. newest o s.controller.vips s.controller.job vip) refused.none

      at : (n ≡ standing s.controller.update s.controller.vips vip) ⊎ IsNew s.controller.update s.controller.job vip n
          → has_version (last_given (printed s) vip) n ≡ true
      at (inl q) =
          let last = i.update.versions.last vip h in
          let same : newest s.controller.update s.controller.vips s.controller.job vip ≡ n = new ∙ (sym cur ∙ sym q) in
          ap (λ o. has_version o n) last ∙ grind (arith, nat_tests)
      at (inr q) = absurd (subst (λ o. IsNew o s.controller.job vip n) refused.none q)

  -- one that drains is that of an open connection
  draining_used : (vip n : ℕ) → vip < s.config.layout.vips → n < s.config.layout.shape.versions → state_of vip n s.controller.numbers ≡ Some Draining
      → 1 ≤ count_of vip n s.controller.book.entries
      → is_in_use (printed s) vip n ≡ true
  draining_used vip n h below d c =
      or_second (has_version (last_given (printed s) vip) n) (is_held_open (printed s) vip n) (at (counted vip n s.controller.book.entries c))
    where
      by : (x : Entry) → x.key.vip ≡ vip → x.version ≡ n → (o : Option Opening) → opening (printed s) x.key ≡ o
          → EntryOpened s.config s.controller.vips s.controller.named s.controller.down s.controller.job s.pipes x o
          → is_held_open (printed s) vip n ≡ true
      by x v m (Some o) q opened =
          let same : o.version ≡ n = opened.version ∙ m in
          let held : holds_version (printed s) vip n (Some x.key) ≡ true =
          and_true (x.key.vip == vip) (opened_with n (opening (printed s) x.key)) (grind (arith, nat_tests))
          (ap (opened_with n) q ∙ grind (arith, nat_tests)) in
          open_line (printed s) x.key o (holds_version (printed s) vip n) held q
      by x v m None q unopened = un unopened
        where
          learned_current : n ≡ learned s.controller.vips vip → is_held_open (printed s) vip n ≡ true
          learned_current same =
              let cur : standing s.controller.update s.controller.vips vip ≡ (vip_at s.controller.vips vip).cur =
              ap (λ o. standing o s.controller.vips vip) refused.none in
              let is : n ≡ standing s.controller.update s.controller.vips vip = same ∙ (steady_at vip ∙ sym cur) in
              let now : state_of vip n s.controller.numbers ≡ Some Current = (i.update.versions.current vip n h below).1 (inl is) in
              let no : Some Draining ≡ Some Current = sym d ∙ now in
              absurd (cc)

          un : IsUnopened s.config s.controller.vips s.controller.named s.controller.down s.controller.job s.pipes x
              → is_held_open (printed s) vip n ≡ true
          un (inl p) =
              learned_current (sym m ∙ (leaving_learned s i x.key x.version p.1 ∙ ap (learned s.controller.vips) v))
          un (inr p) = absurd (subst (λ j. IsAwaited j x.key) e p.awaited)

      at : (x : Entry) × In x s.controller.book.entries × (entry_has vip n x ≡ true) → is_held_open (printed s) vip n ≡ true
      at (x, there, has) =
          let v : x.key.vip ≡ vip = grind (arith, nat_tests) in
          let m : x.version ≡ n = grind (arith, nat_tests) in
          by x v m (opening (printed s) x.key) refl
          (all_in (λ x. EntryOpened s.config s.controller.vips s.controller.named s.controller.down s.controller.job s.pipes x (opening (printed s) x.key)) s.controller.book.entries x i.openings.openings.entry there)

  pub all_used : (vip : ℕ) → vip < s.config.layout.vips
      → AllTaken s.config.layout.shape.versions s.controller.numbers s.controller.book.entries vip
      → (n : ℕ) → n ≤ s.config.layout.shape.versions → all_in_use (printed s) vip n ≡ true
  all_used vip h a zero le = refl
  all_used vip h a (suc n) le =
      and_true (is_in_use (printed s) vip n) (all_in_use (printed s) vip n) (at (a n (omega arith))) (all_used vip h a n (omega arith))
    where
      at : (state_of vip n s.controller.numbers ≡ Some Current) ⊎ ((state_of vip n s.controller.numbers ≡ Some Draining) × (1 ≤ count_of vip n s.controller.book.entries))
          → is_in_use (printed s) vip n ≡ true
      at (inl c) = current_used vip n h (omega arith) c
      at (inr d) = draining_used vip n h (omega arith) d.0 d.1

  some_used : (vip : ℕ) → all_in_use (printed s) vip s.config.layout.shape.versions ≡ true → (n : ℕ) → vip < n
      → some_all_in_use (printed s) s.config.layout.shape.versions n ≡ true
  some_used vip a zero h = absurd (omega arith)
  some_used vip a (suc n) h = at (vip == n) refl (λ g. some_used vip a n g)
    where
      at : (b : Bool) → (vip == n) ≡ b → (vip < n → some_all_in_use (printed s) s.config.layout.shape.versions n ≡ true)
          → (all_in_use (printed s) n s.config.layout.shape.versions || some_all_in_use (printed s) s.config.layout.shape.versions n) ≡ true
      at true q more =
          let is : vip ≡ n = grind (arith, nat_tests) in
          or_first (all_in_use (printed s) n s.config.layout.shape.versions) (some_all_in_use (printed s) s.config.layout.shape.versions n)
          (subst (λ m. all_in_use (printed s) m s.config.layout.shape.versions ≡ true) is a)
      at false q more =
          let other : vip ≢ n = grind (arith, nat_tests) in
          or_second (all_in_use (printed s) n s.config.layout.shape.versions) (some_all_in_use (printed s) s.config.layout.shape.versions n)
          (more (omega (arith, h, other)))

  pub refusal_told : some_all_in_use (printed s) s.config.layout.shape.versions (length s.config.pools) ≡ true
  refusal_told =
      let vip = refused.vip in
      some_used vip (all_used vip refused.below refused.full s.config.layout.shape.versions (omega arith)) (length s.config.pools)
      (subst (λ n. vip < n) (sym (pools_count s.config i.shape.config)) refused.below)
