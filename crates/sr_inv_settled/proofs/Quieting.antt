-- Once nothing is left to do, no connection is left that was quiet for so many sweeps.
use Rattle.std.proofs.Common.{◌≡◌, ℕ, ◌+◌, ◌-◌, ◌<◌, ◌⊎◌, inl, inr, ◌&&◌, ◌||◌, not, nat_le, nat_lt, Bool, true, false, List, [], ◌∷◌, find, is_some, Some, None, Option, option_and_then, option_map, sym, refl, ap, ◌∙◌, subst, arith}
use Rattle.std.proofs.lemmas.Bool.Decides.{nat_tests}
use Rattle.std.proofs.lemmas.Option.{same_Some}
use Rattle.std.specs.List.{list_all, list_any}
use Rattle.sr_base.proofs.Sameness.{same_place-true}
use Rattle.sr_base.specs.Key.{KeyView}
use Rattle.sr_base.specs.declared.place.Place.{Place}
use Rattle.sr_inv_causes.proofs.Refusals.{or_first}
use Rattle.sr_inv_facts.proofs.Books.{found_key}
use Rattle.sr_inv_facts.proofs.Lists.{all_in, of_some}
use Rattle.sr_inv_facts.proofs.Pipes.{idle}
use Rattle.sr_inv_facts.specs.InCauses.{endings_in, setup_of}
use Rattle.sr_inv_facts.specs.InJobs.{leaving}
use Rattle.sr_inv_facts.specs.InSweeps.{IsLastSweep, sweep_from}
use Rattle.sr_inv_facts.specs.Invariant.{Invariant}
use Rattle.sr_inv_facts.specs.Readings.{In, hit_words}
use Rattle.sr_inv_matching.proofs.Members.{in_found}
use Rattle.sr_inv_order.proofs.Rising.{and_true}
use Rattle.sr_inv_quiet.proofs.HitQuiet.{from_told}
use Rattle.sr_inv_settled.proofs.Placing.{held_by, registered}
use Rattle.sr_inv_settled.proofs.Standing.{HasPlaced, StandsAs, stands_as}
use Rattle.sr_inv_settled.specs.Quiet.{HasNothingToDo}
use Rattle.sr_inv_settled.specs.Used.{EntryUsed, IsCovered, IsFlyingFor, IsPlacedAfter, IsUsed, UsedAt, UsedKept}
use Rattle.sr_inv_verdicts.proofs.MoreLines.{or_second}
use Rattle.sr_law.specs.Opening.{opening}
use Rattle.sr_law.specs.Retire.{last_sweep, numbered_sweep}
use Rattle.sr_law.specs.Settled.{all_used, quiet_settled, standing, uses_after, was_used}
use Rattle.sr_law.specs.Ticks.{key_of}
use Rattle.sr_law.specs.declared.line.Line.{Line}
use Rattle.sr_law.specs.declared.opening.Opening.{Opening}
use Rattle.sr_law.specs.declared.sweep.Sweep.{Sweep}
use Rattle.sr_law.specs.declared.taking.Taking.{Taking}
use Rattle.sr_machine.specs.Core.{Core, printed}
use Rattle.sr_machine.specs.Starting.{retirement, with_job}
use Rattle.sr_shadow.proofs.Finding.{found_none, found_passes}
use Rattle.sr_shadow.proofs.Holding.{found_own}
use Rattle.sr_shadow.specs.Book.{entry_for, first_retirable, holder_entry}
use Rattle.sr_shadow.specs.Entry.{holds, is_at, is_of, is_over, is_placed, may_retire}
use Rattle.sr_shadow.specs.declared.entry.Entry.{Entry}
use Rattle.sr_machine.specs.declared.draw.Draw.TheVariants as draw
use Rattle.sr_machine.specs.declared.job.Job.TheVariants as job

-- the place where an entry is
stands_at : (place : Place) (o : Option Place) → is_at place o ≡ true → o ≡ Some place
stands_at place None e = cc
stands_at place (Some p) e = ap Some (sym (same_place-true place p e))

-- a tick of a list that passes
passing : (test : ℕ → Bool) (xs : List ℕ) → list_any test xs ≡ true → (x : ℕ) × In x xs × (test x ≡ true)
passing test [] h = cc
passing test (y ∷ xs) h = at (test y) refl h (passing test xs)
  where
    at : (b : Bool) → test y ≡ b → (b || list_any test xs) ≡ true → (list_any test xs ≡ true → (x : ℕ) × In x xs × (test x ≡ true))
        → (x : ℕ) × In x (y ∷ xs) × (test x ≡ true)
    at true q g more = (y, inl refl, q)
    at false q g more = let r = more g in (r.0, inr r.1, r.2)

module _ (s : Core) (i : Invariant s) (h : HasNothingToDo s) where
  abbrev es : List Entry
  es = s.controller.book.entries

  -- its entry is where its Placed line stands
  pub stands_there : (key : KeyView) (e : Entry) → entry_for key es ≡ Some e → (place : Place) → HasPlaced (printed s) place key → e.place ≡ Some place
  stands_there key e q place has = at (holder_entry place es) refl (sym (held_by s i h place) ∙ has)
    where
      of_entry : (x : Entry) → holder_entry place es ≡ Some x → x.key ≡ key → e.place ≡ Some place
      of_entry x r own =
          let mine : entry_for x.key es ≡ Some x = found_own (holds place) es x i.shape.book.distinct r in
          let same : x ≡ e = same_Some x e (sym mine ∙ (ap (λ k. entry_for k es) own ∙ q)) in
          let also : x.also ≡ None = subst (λ j. x.also ≡ leaving j x.key) h.free (all_in (λ e. e.also ≡ leaving s.controller.job e.key) es x i.jobs.holds.also (in_found (holds place) es x r)) in
          let held : (is_at place x.place || is_at place x.also) ≡ true = found_passes (holds place) es x r in
          ap (λ z. z.place) (sym same) ∙ stands_at place x.place (alone (is_at place x.place) (is_at place x.also) (ap (is_at place) also) held)
        where
          alone : (a b : Bool) → b ≡ false → (a || b) ≡ true → a ≡ true
          alone true b t g = refl
          alone false b t g = cc

      at : (o : Option Entry) → holder_entry place es ≡ o
          → option_map {U = Taking} (λ (k : KeyView). record { key = k; placed = true }) (option_map (λ (e : Entry). e.key) o) ≡ Some (record { key = key; placed = true })
          → e.place ≡ Some place
      at None r g = cc
      at (Some x) r g =
          of_entry x r (ap (λ (t : Taking). t.key) (same_Some (record { key = x.key; placed = true }) (record { key = key; placed = true }) g))

module _ (s : Core) (i : Invariant s) (h : HasNothingToDo s) (u : UsedKept s) where
  abbrev book : List Entry
  book = s.controller.book.entries

  abbrev lives : ℕ
  lives = s.config.layout.shape.lives

  -- ---- no entry may be retired

  none_over : (o : Option Entry) → first_retirable lives book ≡ o → option_map (with_job s.controller) (option_and_then retirement o) ≡ None → o ≡ None
  none_over None q e = refl
  none_over (Some x) q e = absurd (at x.place refl e (found_passes (may_retire lives) book x q))
    where
      at : (p : Option Place) → x.place ≡ p
          → option_map (with_job s.controller) (option_map (λ place. job.Draw (draw.Retired x.key place x.version)) p) ≡ None
          → (is_some p && is_over lives x.closed x.quiet) ≡ true → ⊥
      at None r g m = cc
      at (Some place) r g m = cc

  lively : (key : KeyView) (e : Entry) → entry_for key book ≡ Some e → is_placed e ≡ true → is_over lives e.closed e.quiet ≡ false
  lively key e q p = at (is_over lives e.closed e.quiet) refl
    where
      none : find (may_retire lives) book ≡ None
      none = none_over (first_retirable lives book) refl h.none.retirement

      at : (b : Bool) → is_over lives e.closed e.quiet ≡ b → b ≡ false
      at false r = refl
      at true r = absurd (found_none (may_retire lives) (is_of key) book e q (and_true (is_placed e) (is_over lives e.closed e.quiet) p r) none)

  -- so the sweep before its last lives is one that was covered
  covered : (closed : Bool) (o : Option ℕ) (n : ℕ) → is_over lives closed o ≡ false → n + lives ≡ s.controller.sweeps → IsCovered o s.controller.sweeps n
  covered closed None n e same = omega (arith, same)
  covered closed (Some c) n e same = (omega (arith, less, i.shape.config.layout.lives.1), omega (arith, less, same))
    where
      or_left : (a b : Bool) → (a || b) ≡ false → a ≡ false
      or_left false b g = refl
      or_left true b g = cc

      less : c < lives
      less = let t = or_left (nat_le lives c) (closed && nat_le 1 c) e in grind (arith, nat_tests)

  -- ---- a connection that stands

  -- it was used since
  used_since : (n : ℕ) (w : Sweep) → numbered_sweep (printed s) n ≡ Some w → n + lives ≡ s.controller.sweeps → (key : KeyView) (e : Entry) → entry_for key book ≡ Some e
      → (tick : ℕ) → In tick (standing key [] (printed s)) → tick < w.from
      → list_any (uses_after s.config.layout.shape key w.from) (printed s) ≡ true
  used_since n w found same key e q tick inside low = told since
    where
      stand : StandsAs (setup_of s.config) (endings_in s.pipes (printed s)) (printed s) key [] tick
      stand = stands_as (setup_of s.config) (endings_in s.pipes (printed s)) (printed s) i.causes.causes.clauses key [] tick inside

      there : e.place ≡ Some stand.place
      there = stands_there s i h key e q stand.place stand.has

      at_end : EntryUsed s.config.layout.shape (hit_words s.words) s.pipes (printed s) s.controller.sweeps job.Free e
      at_end = subst (λ j. EntryUsed s.config.layout.shape (hit_words s.words) s.pipes (printed s) s.controller.sweeps j e) h.free
          (all_in (EntryUsed s.config.layout.shape (hit_words s.words) s.pipes (printed s) s.controller.sweeps s.controller.job) book e u (in_found (is_of key) book e q))

      uses : UsedAt s.config.layout.shape (hit_words s.words) s.pipes (printed s) s.controller.sweeps job.Free e.key e.quiet s.controller.sweeps stand.place
      uses = of_some (UsedAt s.config.layout.shape (hit_words s.words) s.pipes (printed s) s.controller.sweeps job.Free e.key e.quiet s.controller.sweeps) e.place stand.place (at_end refl) there

      began : sweep_from (printed s) s.controller.sweeps job.Free n ≡ Some w.from
      began = from_told (printed s) s.controller.sweeps job.Free n (omega (arith, same)) ∙ ap (option_map (λ w. w.from)) found

      since : IsPlacedAfter (printed s) stand.place w.from ⊎ IsUsed s.config.layout.shape s.pipes (printed s) e.key w.from
      since = uses.long n (covered e.closed e.quiet n (lively key e q (ap is_some there)) same) w.from began

      told : IsPlacedAfter (printed s) stand.place w.from ⊎ IsUsed s.config.layout.shape s.pipes (printed s) e.key w.from
          → list_any (uses_after s.config.layout.shape key w.from) (printed s) ≡ true
      told (inl p) = let last : p.out ≡ tick = same_Some p.out tick (sym p.placed ∙ stand.last) in absurd (omega (arith, last, low, p.later))
      told (inr (inl t)) =
          subst (λ k. list_any (uses_after s.config.layout.shape k w.from) (printed s) ≡ true) (sym (found_key key book e q)) t
      told (inr (inr (p, v, g, fly))) =
          absurd (subst (IsFlyingFor s.config.layout.shape e.key) (idle v.stage (h.idle p v g)) fly)

  -- ---- every key of a line

  key_used : (n : ℕ) (w : Sweep) → numbered_sweep (printed s) n ≡ Some w → n + lives ≡ s.controller.sweeps → (key : KeyView)
      → was_used (setup_of s.config) (printed s) w.from (Some key) ≡ true
  key_used n w found same key = at (opening (printed s) key) refl
    where
      stood_before : (e : Entry) → entry_for key book ≡ Some e → (b : Bool) → list_any (λ placed. nat_lt placed w.from) (standing key [] (printed s)) ≡ b
          → (not b || list_any (uses_after s.config.layout.shape key w.from) (printed s)) ≡ true
      stood_before e q false r = refl
      stood_before e q true r =
          let t = passing (λ placed. nat_lt placed w.from) (standing key [] (printed s)) r in
          let low : t.0 < w.from = grind (arith, nat_tests) in
          used_since n w found same key e q t.0 t.1 low

      at : (o : Option Opening) → opening (printed s) key ≡ o
          → (not (is_some (opening (printed s) key)) || (not (list_any (λ placed. nat_lt placed w.from) (standing key [] (printed s))) || list_any (uses_after s.config.layout.shape key w.from) (printed s))) ≡ true
      at None q = or_first (not (is_some (opening (printed s) key))) _ (ap (λ o. not (is_some o)) q)
      at (Some o) q = let r = registered s i h key o q in or_second (not (is_some (opening (printed s) key))) _ (stood_before r.0 r.1 _ refl)

  each_used : (n : ℕ) (w : Sweep) → numbered_sweep (printed s) n ≡ Some w → n + lives ≡ s.controller.sweeps → (lines : List Line)
      → list_all (λ line. was_used (setup_of s.config) (printed s) w.from (key_of line)) lines ≡ true
  each_used n w found same [] = refl
  each_used n w found same (l ∷ lines) = and_true _ _ (at (key_of l)) (each_used n w found same lines)
    where
      at : (o : Option KeyView) → was_used (setup_of s.config) (printed s) w.from o ≡ true
      at None = refl
      at (Some key) = key_used n w found same key

  pub none_quiet : quiet_settled (setup_of s.config) (printed s) (last_sweep (printed s)) ≡ true
  none_quiet = at (last_sweep (printed s)) i.sweeps.sweeps.counted.last
    where
      told : (n : ℕ) → n + lives ≡ s.controller.sweeps → (o : Option Sweep) → numbered_sweep (printed s) n ≡ o
          → all_used (setup_of s.config) (printed s) o ≡ true
      told n same None q = refl
      told n same (Some w) q = each_used n w q same (printed s)

      late : (last : Sweep) → s.controller.sweeps ≡ last.number → (b : Bool) → nat_lt lives last.number ≡ b
          → (not b || all_used (setup_of s.config) (printed s) (numbered_sweep (printed s) (last.number - lives))) ≡ true
      late last same false q = refl
      late last same true q =
          let low : lives < last.number = grind (arith, nat_tests) in
          told (last.number - lives) (omega (arith, low, same)) (numbered_sweep (printed s) (last.number - lives)) refl

      at : (o : Option Sweep) → IsLastSweep s.controller.sweeps s.controller.swept_ms o → quiet_settled (setup_of s.config) (printed s) o ≡ true
      at None l = refl
      at (Some last) l = late last l.0 (nat_lt lives last.number) refl
