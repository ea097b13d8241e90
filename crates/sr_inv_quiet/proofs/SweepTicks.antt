-- The ticks of sweeps and placings of a state that meets the invariant.
use Rattle.sr_base.specs.Key.{KeyView, same_key}
use Rattle.sr_base.specs.declared.place.Place.{Place}
use Rattle.sr_inv_facts.proofs.Lists.{all_both, all_then}
use Rattle.sr_inv_facts.specs.InCauses.{AllMeet, endings_in, setup_of}
use Rattle.sr_inv_facts.specs.InJobs.{book_taking, job_taking}
use Rattle.sr_inv_facts.specs.InSweeps.{IsLastSweep, is_live_taking, last_moved, running_from, since, sweep_from}
use Rattle.sr_inv_facts.specs.InTicks.{AllOutBefore, IsOfPipe, OnSweep, below, job_times}
use Rattle.sr_inv_facts.specs.Invariant.{Invariant}
use Rattle.sr_inv_facts.specs.Readings.{In}
use Rattle.sr_inv_matching.proofs.Members.{in_own}
use Rattle.sr_inv_matching.proofs.Saying.{at_held, holder_found}
use Rattle.sr_inv_order.proofs.OrderOpens.{before}
use Rattle.sr_inv_order.proofs.Rising.{all_before, printed_all, same_self}
use Rattle.sr_inv_quiet.proofs.SweepLines.{last_number, numbered_most, placed_told, sweep_takes, sweeps_apart, two_ticks}
use Rattle.sr_law.specs.Retire.{EndingPacket, last_placed, last_sweep, numbered_sweep}
use Rattle.sr_law.specs.Rising.{has_two_ticks}
use Rattle.sr_law.specs.Setup.{SetupView}
use Rattle.sr_law.specs.Taken.{taken}
use Rattle.sr_law.specs.Ticks.{is_controller, out_of, start_of}
use Rattle.sr_law.specs.declared.line.Line.{Line}
use Rattle.sr_law.specs.declared.sweep.Sweep.{Sweep}
use Rattle.sr_machine.specs.Core.{Core, printed}
use Rattle.sr_machine.specs.declared.job.Job.{Job}
use Rattle.sr_shadow.specs.Book.{holder_of}
use Rattle.sr_shadow.specs.declared.entry.Entry.{Entry}
use Rattle.std.proofs.Common.{Bool, List, None, Option, Some, [], ap, arith, false, if◌then◌else◌, inl, inr, is_some, max, nat_lt, option_map, refl, subst, sym, true, unwrap_or, ℕ, ◌&&◌, ◌+◌, ◌<◌, ◌==◌, ◌∙◌, ◌∷◌, ◌≡◌, ◌≤◌, ◌⊎◌}
use Rattle.std.proofs.lemmas.Bool.{cases_lt}
use Rattle.std.proofs.lemmas.Bool.Decides.{nat_tests}
use Rattle.std.proofs.lemmas.Option.{same_Some}
use Rattle.std.specs.List.{AllByRecursion}
use Rattle.std.specs.Option.{option_or}
use Rattle.sr_machine.specs.declared.draw.Draw.TheVariants as draw
use Rattle.sr_machine.specs.declared.job.Job.TheVariants as job
use Rattle.sr_machine.specs.declared.name.Name.TheVariants as name
use Rattle.sr_law.specs.declared.line.Line.TheVariants as line

-- each of the controller's lines was out before this tick
abbrev pub ControlledBefore : ℕ → List Line → Type 0
ControlledBefore t lines = AllByRecursion (λ l. is_controller l ≡ true → out_of l < t) lines

-- so was the last placing of a key
pub placed_before : (t : ℕ) (lines : List Line) (key : KeyView) → ControlledBefore t lines → (n : ℕ) → last_placed lines key ≡ Some n → n < t
placed_before t [] key a n e = cc
placed_before t (line.Placed out of place ∷ before) key a n e = at (same_key of key) (placed_before t before key a.1 n) e
  where
    at : (b : Bool) → (last_placed before key ≡ Some n → n < t) → option_or (if b then Some out else None) (last_placed before key) ≡ Some n → n < t
    at true more h = subst (λ z. z < t) (same_Some out n h) (a.0 refl)
    at false more h = more h
placed_before t (l ∷ before) key a n e = placed_before t before key a.1 n e

pub moved_before : (t : ℕ) (lines : List Line) (key : KeyView) → 1 ≤ t → ControlledBefore t lines → last_moved lines key < t
moved_before t [] key some a = some
moved_before t (line.Cleared out of place ∷ before) key some a =
    at (same_key of key && is_live_taking (taken before place)) (moved_before t before key some a.1)
  where
    at : (b : Bool) → last_moved before key < t → unwrap_or (if b then Some out else None) (last_moved before key) < t
    at true more = a.0 refl
    at false more = more
moved_before t (l ∷ before) key some a = moved_before t before key some a.1

pub since_before : (t : ℕ) (lines : List Line) (key : KeyView) → 1 ≤ t → ControlledBefore t lines → since lines key < t
since_before t lines key some a = at (last_placed lines key) (placed_before t lines key a)
  where
    at : (o : Option ℕ) → ((n : ℕ) → o ≡ Some n → n < t) → max (unwrap_or o 0) (last_moved lines key) < t
    at None h = omega (arith, moved_before t lines key some a)
    at (Some n) h = omega (arith, moved_before t lines key some a, h n refl)

-- a sweep that is found was out before a tick before which all lines were
pub found_out : (t : ℕ) (lines : List Line) → AllOutBefore t lines → (n : ℕ) (w : Sweep) → numbered_sweep lines n ≡ Some w → w.to < t
found_out t [] a n w e = cc
found_out t (line.Swept number from to ms ∷ before) a n w e = at (number == n) (found_out t before a.1 n w) e
  where
    at : (b : Bool) → (numbered_sweep before n ≡ Some w → w.to < t)
        → option_or (if b then Some (record { number = number; from = from; to = to; at_ms = ms }) else None) (numbered_sweep before n) ≡ Some w → w.to < t
    at true more h =
        subst (λ z. z.to < t) (same_Some (record { number = number; from = from; to = to; at_ms = ms }) w h) a.0
    at false more h = more h
found_out t (l ∷ before) a n w e = found_out t before a.1 n w e

one_start : (l : Line) → has_two_ticks l ≡ false → start_of l ≡ out_of l
one_start (line.Packet number entered out pipe key kind v) e = cc
one_start (line.Swept number from to ms) e = cc
one_start l e = refl

-- lines start before they are out
pub starts : (setup : SetupView) (endings : List EndingPacket) (lines : List Line) → AllMeet setup endings lines → AllByRecursion (λ l. start_of l ≤ out_of l) lines
starts setup endings [] m = tt
starts setup endings (l ∷ before) m = (at (has_two_ticks l) refl, starts setup endings before m.1)
  where
    at : (b : Bool) → has_two_ticks l ≡ b → start_of l ≤ out_of l
    at true q = let less : start_of l < out_of l = two_ticks setup endings before l m.0 q in omega arith
    at false q = let same : start_of l ≡ out_of l = one_start l q in omega arith

pub some_below : (t next : ℕ) → 1 ≤ below t next → (1 ≤ t) × (t < next)
some_below t next h = at (nat_lt 0 t) (nat_lt t next) refl refl h
  where
    at : (a b : Bool) → nat_lt 0 t ≡ a → nat_lt t next ≡ b → 1 ≤ (if a && b then 1 else 0) → (1 ≤ t) × (t < next)
    at true true p q g = (grind (arith, nat_tests), grind (arith, nat_tests))
    at true false p q g = absurd (omega arith)
    at false b p q g = absurd (omega arith)

module _ (s : Core) (i : Invariant s) where
  pub meets_all : AllMeet (setup_of s.config) (endings_in s.pipes (printed s)) (printed s)
  meets_all = i.causes.causes.clauses

  pub tick_some : 1 ≤ s.words name.Tick
  tick_some = omega (arith, i.words.tick)

  -- the controller's lines, where all of its own were out before a tick
  pub controlled : (t : ℕ) → AllOutBefore t s.controller.lines → ControlledBefore t (printed s)
  controlled t a =
      printed_all s (λ l. is_controller l ≡ true → out_of l < t) (λ q u e. all_then (IsOfPipe q) (λ l. is_controller l ≡ true → out_of l < t) (none q) u.lines (i.ticks.pipes q u e).own)
      (all_then (λ l. out_of l < t) (λ l. is_controller l ≡ true → out_of l < t) (λ l h c. h) s.controller.lines a)
    where
      none : (q : ℕ) (l : Line) → IsOfPipe q l → is_controller l ≡ true → out_of l < t
      none q (line.Packet number entered out pipe key kind v) h c = cc
      none q l h c = absurd h

  pub out_all : AllOutBefore (s.words name.Tick) (printed s)
  out_all = all_before s i.ticks

  -- all of them before the next tick
  pub controlled_now : ControlledBefore (s.words name.Tick) (printed s)
  controlled_now = all_then (λ l. out_of l < s.words name.Tick) (λ l. is_controller l ≡ true → out_of l < s.words name.Tick) (λ l h c. h) (printed s) out_all

  -- lines start before the next tick
  pub start_all : AllByRecursion (λ l. start_of l < s.words name.Tick) (printed s)
  start_all =
      all_both (λ l. start_of l ≤ out_of l) (λ l. out_of l < s.words name.Tick) (λ l. start_of l < s.words name.Tick) (λ l a b. omega arith) (printed s)
      (starts (setup_of s.config) (endings_in s.pipes (printed s)) (printed s) meets_all) out_all

  -- the tick at which the sweep that is under way began
  pub running_drawn : (j : Job) → s.controller.job ≡ j → (from : ℕ) → running_from j ≡ Some from
      → (1 ≤ from) × (from < s.words name.Tick) × ControlledBefore from (printed s)
  running_drawn (job.Hit from ms key place number) q f e =
      let same : from ≡ f = same_Some from f e in
      let once : 1 ≤ job_times from s.controller.job = subst (λ j. 1 ≤ job_times from j) (sym q) (omega (arith, same_self from)) in
      let low = some_below from (s.words name.Tick) (omega (arith, i.ticks.once from, once)) in
      subst (λ z. (1 ≤ z) × (z < s.words name.Tick) × ControlledBefore z (printed s)) same
      (low.0, low.1, controlled from (subst (λ j. OnSweep j (λ tick. AllOutBefore tick s.controller.lines)) q i.ticks.controller.from))
  running_drawn (job.Draw (draw.Swept from ms)) q f e =
      let same : from ≡ f = same_Some from f e in
      let once : 1 ≤ job_times from s.controller.job = subst (λ j. 1 ≤ job_times from j) (sym q) (omega (arith, same_self from)) in
      let low = some_below from (s.words name.Tick) (omega (arith, i.ticks.once from, once)) in
      subst (λ z. (1 ≤ z) × (z < s.words name.Tick) × ControlledBefore z (printed s)) same
      (low.0, low.1, controlled from (subst (λ j. OnSweep j (λ tick. AllOutBefore tick s.controller.lines)) q i.ticks.controller.from))
  running_drawn j q f e = cc

  -- a sweep that is found
  pub found_drawn : (n : ℕ) (w : Sweep) → numbered_sweep (printed s) n ≡ Some w → (w.from < w.to) × (w.to < s.words name.Tick)
  found_drawn n w e =
      (sweep_takes (setup_of s.config) (endings_in s.pipes (printed s)) (printed s) meets_all n w e, found_out (s.words name.Tick) (printed s) out_all n w e)

  -- the tick at which any sweep began
  pub from_drawn : (n from : ℕ) → sweep_from (printed s) s.controller.sweeps s.controller.job n ≡ Some from → from < s.words name.Tick
  from_drawn n from e = at (n == (s.controller.sweeps + 1)) e
    where
      two : (o : Option Sweep) → numbered_sweep (printed s) n ≡ o → option_map (λ w. w.from) o ≡ Some from → from < s.words name.Tick
      two None q h = cc
      two (Some w) q h =
          let same : w.from ≡ from = same_Some w.from from h in
          omega (arith, found_drawn n w q)

      at : (b : Bool) → (if b then running_from s.controller.job else option_map (λ w. w.from) (numbered_sweep (printed s) n)) ≡ Some from → from < s.words name.Tick
      at true h = (running_drawn s.controller.job refl from h).1
      at false h = two (numbered_sweep (printed s) n) refl h

  -- ---- how sweeps are numbered

  pub last_is : last_number (last_sweep (printed s)) ≡ s.controller.sweeps
  last_is = at (last_sweep (printed s)) i.sweeps.sweeps.counted.last
    where
      at : (o : Option Sweep) → IsLastSweep s.controller.sweeps s.controller.swept_ms o → last_number o ≡ s.controller.sweeps
      at None h = sym h.0
      at (Some w) h = sym h.0

  -- a sweep that was told is one of those that have ended
  pub numbered_few : (n : ℕ) (w : Sweep) → numbered_sweep (printed s) n ≡ Some w → n ≤ s.controller.sweeps
  numbered_few n w e =
      subst (λ m. n ≤ m) last_is (numbered_most (setup_of s.config) (endings_in s.pipes (printed s)) (printed s) meets_all n w e)

  -- the next one isn't told yet
  pub next_untold : (n : ℕ) → s.controller.sweeps < n → numbered_sweep (printed s) n ≡ None
  next_untold n h = at (numbered_sweep (printed s) n) refl
    where
      at : (o : Option Sweep) → numbered_sweep (printed s) n ≡ o → o ≡ None
      at None q = refl
      at (Some w) q = absurd (omega (arith, numbered_few n w q))

  -- and each that has ended is
  pub told_sweep : (n : ℕ) → 1 ≤ n → n ≤ s.controller.sweeps → (w : Sweep) × (numbered_sweep (printed s) n ≡ Some w)
  told_sweep n low high = at (numbered_sweep (printed s) n) refl (i.sweeps.sweeps.counted.each n low high)
    where
      at : (o : Option Sweep) → numbered_sweep (printed s) n ≡ o → is_some o ≡ true → (w : Sweep) × (numbered_sweep (printed s) n ≡ Some w)
      at None q h = cc
      at (Some w) q h = (w, q)

  -- a later one began and ended no sooner
  pub sweeps_rise : (a b : ℕ) (u w : Sweep) → numbered_sweep (printed s) a ≡ Some u → numbered_sweep (printed s) b ≡ Some w → a ≤ b
      → (u.from ≤ w.from) × (u.to ≤ w.to)
  sweeps_rise a b u w e f h = at (cases_lt a b)
    where
      at : (a < b) ⊎ (b ≤ a) → (u.from ≤ w.from) × (u.to ≤ w.to)
      at (inl less) =
          let apart : u.to < w.from = sweeps_apart (setup_of s.config) (endings_in s.pipes (printed s)) (printed s) meets_all a b u w e f less in
          let one = found_drawn a u e in
          let two = found_drawn b w f in
          (omega (arith, one.0), omega (arith, two.0))
      at (inr more) =
          let same : a ≡ b = omega arith in
          let is : u ≡ w = same_Some u w (sym e ∙ (ap (numbered_sweep (printed s)) same ∙ f)) in
          subst (λ z. (u.from ≤ z.from) × (u.to ≤ z.to)) is (omega arith, omega arith)

  -- ---- an entry that stands somewhere

  pub placed_lately : (e : Entry) (place : Place) → In e s.controller.book.entries → e.place ≡ Some place → job_taking s.controller.job place ≡ None
      → is_some (last_placed (printed s) e.key) ≡ true
  placed_lately e place m q none =
      let holder : holder_of place s.controller.book.entries ≡ Some e.key =
      ap (option_map (λ e. e.key)) (holder_found s.controller.book.entries e.key place e i.shape.book.distinct i.jobs.holds.once (in_own s.controller.book.entries e i.shape.book.distinct m) (at_held place e q)) in
      let has : taken (printed s) place ≡ Some (record { key = e.key; placed = true }) =
      i.jobs.holds.places place
      ∙ (ap (λ o. option_or o (book_taking s.controller.book.entries place)) none ∙ ap (option_map (λ key. record { key = key; placed = true })) holder) in
      placed_told (setup_of s.config) (endings_in s.pipes (printed s)) (printed s) meets_all place (record { key = e.key; placed = true }) has refl
