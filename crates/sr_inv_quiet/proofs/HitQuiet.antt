-- A sweep that goes by an entry counts a quiet sweep more where nothing hit it, and it was quiet by the lines then.
use Rattle.sr_base.proofs.Sameness.{same_key-true}
use Rattle.sr_base.specs.Key.{KeyView, same_key}
use Rattle.sr_base.specs.declared.kind.Kind.{Kind}
use Rattle.sr_base.specs.declared.kind.Kind.TheVariants.{Carry, Ending, Opener}
use Rattle.sr_base.specs.declared.place.Place.{Place}
use Rattle.sr_inv_facts.proofs.Books.{changed_all}
use Rattle.sr_inv_facts.proofs.Lists.{all_in, all_then, all_to_in, of_some}
use Rattle.sr_inv_facts.specs.Flying.{IfOther}
use Rattle.sr_inv_facts.specs.InJobs.{JobHolds, job_taking, leaving, seen}
use Rattle.sr_inv_facts.specs.InSweeps.{EntryQuiet, EntrySettled, IsFrom, LineSettled, QuietHolds, SettledAt, UnplacedFresh, base_by, base_of, is_past, rounds, running_from, since, sweep_from, sweep_to}
use Rattle.sr_inv_facts.specs.InTicks.{same}
use Rattle.sr_inv_facts.specs.Invariant.{Invariant}
use Rattle.sr_inv_facts.specs.Readings.{In, hit_words}
use Rattle.sr_inv_matching.proofs.Members.{in_found, in_own}
use Rattle.sr_inv_order.proofs.Rising.{none_passes}
use Rattle.sr_inv_quiet.proofs.Placed.{in_map, past_on, past_own, running_on, same_taken, swept_rising}
use Rattle.sr_inv_quiet.proofs.QuietTurns.{carries_silent, entry_turns, none_quiet}
use Rattle.sr_inv_quiet.proofs.SweepTicks.{ControlledBefore, found_drawn, placed_before, placed_lately, running_drawn, since_before, sweeps_rise, told_sweep}
use Rattle.sr_law.specs.Retire.{is_before, last_placed, numbered_sweep, uses_between, uses_entry}
use Rattle.sr_law.specs.declared.line.Line.{Line}
use Rattle.sr_law.specs.declared.sweep.Sweep.{Sweep}
use Rattle.sr_machine.specs.Core.{Core, printed, told}
use Rattle.sr_machine.specs.Draws.{sweeping}
use Rattle.sr_machine.specs.Reads.{read_flag}
use Rattle.sr_machine.specs.declared.job.Job.{Job}
use Rattle.sr_shadow.proofs.Finding.{found_passes}
use Rattle.sr_shadow.specs.Book.{entry_for, with_changed}
use Rattle.sr_shadow.specs.Entry.{is_of, is_placed, quiet_after, swept}
use Rattle.sr_shadow.specs.declared.entry.Entry.{Entry}
use Rattle.std.proofs.Common.{Bool, List, None, Option, Some, ap, arith, false, if◌then◌else◌, is_some, min, nat_le, nat_lt, option_map, refl, subst, sym, true, true≢false, ℕ, ◌&&◌, ◌+◌, ◌-◌, ◌<◌, ◌==◌, ◌∙◌, ◌≡◌, ◌≢◌, ◌≤◌}
use Rattle.std.proofs.lemmas.Bool.Decides.{nat_tests}
use Rattle.std.proofs.lemmas.Option.{same_Some}
use Rattle.std.specs.List.{AllByRecursion, list_any}
use Rattle.sr_machine.specs.declared.job.Job.TheVariants as job
use Rattle.sr_machine.specs.declared.name.Name.TheVariants as name
use Rattle.sr_law.specs.declared.line.Line.TheVariants as line

-- a sweep that has ended began as the lines tell
pub from_told : (lines : List Line) (sweeps : ℕ) (j : Job) (n : ℕ) → n ≤ sweeps → sweep_from lines sweeps j n ≡ option_map (λ w. w.from) (numbered_sweep lines n)
from_told lines sweeps j n h = at (n == (sweeps + 1)) (grind (arith, nat_tests))
  where
    at : (b : Bool) → b ≡ false
        → (if b then running_from j else option_map (λ w. w.from) (numbered_sweep lines n)) ≡ option_map (λ w. w.from) (numbered_sweep lines n)
    at true e = cc
    at false e = refl

-- and the one that is under way as the job tells
pub from_running : (lines : List Line) (sweeps : ℕ) (j : Job) (n : ℕ) → n ≡ sweeps + 1 → sweep_from lines sweeps j n ≡ running_from j
from_running lines sweeps j n h = at (n == (sweeps + 1)) (grind (arith, nat_tests))
  where
    at : (b : Bool) → b ≡ true → (if b then running_from j else option_map (λ w. w.from) (numbered_sweep lines n)) ≡ running_from j
    at true e = refl
    at false e = cc

before_later : (o : Option ℕ) (a b : ℕ) → a ≤ b → is_before o a ≡ true → is_before o b ≡ true
before_later None a b h e = cc
before_later (Some n) a b h e = let low : n < a = grind (arith, nat_tests) in grind (arith, nat_tests)

before_is : (o : Option ℕ) (t : ℕ) → is_some o ≡ true → ((n : ℕ) → o ≡ Some n → n < t) → is_before o t ≡ true
before_is None t e h = cc
before_is (Some n) t e h = let low : n < t = h n refl in grind (arith, nat_tests)

-- what becomes of the quiet sweeps of an entry: none so far, or one more, of at most 255
pub data Counts (hit : Bool) (was : Option ℕ) : ℕ → Type 0 where
  starts_over : Counts hit was 0
  counts_on : (n : ℕ) → hit ≡ false → was ≡ Some n → Counts hit was (min 255 (n + 1))

pub counts : (hit : Bool) (was : Option ℕ) → Counts hit was (quiet_after hit was)
counts hit None = starts_over
counts true (Some n) = starts_over
counts false (Some n) = counts_on n refl refl

module _ (s : Core) (i : Invariant s) (from ms : ℕ) (key : KeyView) (place : Place) (number : ℕ) (q : s.controller.job ≡ job.Hit from ms key place number) where
  abbrev es : List Entry
  es = s.controller.book.entries

  abbrev x : ℕ
  x = s.words (name.Hit place)

  abbrev j : Job
  j = job.Hit from ms key place number

  abbrev fs : List Entry
  fs = with_changed (swept (read_flag (s.words (name.Hit place)))) key s.controller.book.entries

  abbrev pub hit_next_job : Job
  hit_next_job = sweeping (with_changed (swept (read_flag (s.words (name.Hit place)))) key s.controller.book.entries) from ms (number + 1)

  pub hit_stands : (e : Entry) × (entry_for key s.controller.book.entries ≡ Some e) × (e.place ≡ Some place) × (e.taken ≡ number)
  hit_stands = subst (JobHolds s.config (seen s.controller) (printed s)) q i.jobs.holds.stands

  -- the entry that the sweep goes by
  pub hit_entry : (e : Entry) → In e es → is_of key e ≡ true → hit_stands.0 ≡ e
  hit_entry e m t =
      same_Some hit_stands.0 e (sym hit_stands.1 ∙ (ap (λ z. entry_for z es) (same_key-true key e.key t) ∙ in_own es e i.shape.book.distinct m))

  -- another one has another number
  pub hit_apart : (e : Entry) → In e es → is_of key e ≡ false → e.taken ≢ number
  hit_apart e m t same =
      let w = hit_stands.0 in
      let is : e ≡ w = same_taken 0 s.controller.book.taken es e w i.shape.book.rising m (in_found (is_of key) es w hit_stands.1) (same ∙ sym hit_stands.3) in
      true≢false (sym (found_passes (is_of key) es w hit_stands.1) ∙ (ap (is_of key) (sym is) ∙ t))

  -- and the sweep is past it as before
  pub hit_past : (e : Entry) → In e es → is_of key e ≡ false → is_placed e ≡ true → is_past hit_next_job e.taken ≡ nat_lt e.taken number
  hit_past e m t p =
      past_on number s.controller.book.taken from ms fs hit_next_job (swept_rising (read_flag x) key es s.controller.book.taken i.shape.book.rising) refl e
      (subst (λ z. In z fs) (ap (λ b. if b then swept (read_flag x) e else e) t) (in_map (λ e. if is_of key e then swept (read_flag x) e else e) es e m)) p (hit_apart e m t)

  pub hit_running : running_from hit_next_job ≡ Some from
  hit_running = running_on from ms (number + 1) fs

  drawn : (1 ≤ from) × (from < s.words name.Tick) × ControlledBefore from (printed s)
  drawn = running_drawn s i (job.Hit from ms key place number) q from refl

  lives : (e : Entry) → In e es → EntryQuiet (printed s) s.controller.sweeps (job.Hit from ms key place number) e
  lives e m = subst (λ z. EntryQuiet (printed s) s.controller.sweeps z e) q (all_in (EntryQuiet (printed s) s.controller.sweeps s.controller.job) es e i.sweeps.sweeps.quiet m)

  -- ---- the entry that it goes by

  module _ (e : Entry) (m : In e es) (t : is_of key e ≡ true) where
    own_place : e.place ≡ Some place
    own_place = ap (λ z. z.place) (sym (hit_entry e m t)) ∙ hit_stands.2

    own_number : e.taken ≡ number
    own_number = ap (λ z. z.taken) (sym (hit_entry e m t)) ∙ hit_stands.3

    pub gone_before : rounds s.controller.sweeps (job.Hit from ms key place number) e.taken ≡ s.controller.sweeps
    gone_before = at (nat_lt e.taken number) (grind (arith, nat_tests, own_number))
      where
        at : (b : Bool) → b ≡ false → (if b then s.controller.sweeps + 1 else s.controller.sweeps) ≡ s.controller.sweeps
        at true f = cc
        at false f = refl

    pub gone_after : rounds s.controller.sweeps hit_next_job e.taken ≡ s.controller.sweeps + 1
    gone_after =
        ap (λ b. if b then s.controller.sweeps + 1 else s.controller.sweeps) (ap (is_past hit_next_job) own_number ∙ past_own number from ms fs hit_next_job refl)

    -- its facts on packets and lines
    pub own_settled : SettledAt (hit_words s.words) s.pipes (printed s) (base_of (printed s) s.controller.sweeps (job.Hit from ms key place number) e) e place
    own_settled =
        let settled_so : EntrySettled (hit_words s.words) s.pipes (printed s) s.controller.sweeps (job.Hit from ms key place number) e =
        subst (λ z. EntrySettled (hit_words s.words) s.pipes (printed s) s.controller.sweeps z e) q
        (all_in (EntrySettled (hit_words s.words) s.pipes (printed s) s.controller.sweeps s.controller.job) es e i.sweeps.sweeps.settled m) in
        let also : e.also ≡ None =
        subst (λ z. e.also ≡ leaving z e.key) q (all_in (λ e. e.also ≡ leaving s.controller.job e.key) es e i.jobs.holds.also m) in
        of_some (SettledAt (hit_words s.words) s.pipes (printed s) (base_of (printed s) s.controller.sweeps (job.Hit from ms key place number) e) e) e.place place (settled_so also refl) own_place

    -- a packet of its key that uses entries, and entered behind its last quiet sweep, left a hit
    line_hits : (base : ℕ) → base_of (printed s) s.controller.sweeps (job.Hit from ms key place number) e ≡ Some base → since (printed s) e.key < base
        → (to : ℕ) → base ≤ to → read_flag x ≡ false → (l : Line) → LineSettled (hit_words s.words) (base_of (printed s) s.controller.sweeps (job.Hit from ms key place number) e) (since (printed s) e.key) place e l
        → uses_between e.key to from l ≡ false
    unfolding read_flag
    line_hits base b low to h none (line.Packet n entered out pipe of kind v) told = at (same_key of e.key) (uses_entry kind) (nat_le to entered) (nat_le out from) refl refl refl
      where
        other : (kind : Kind) (P : Type 0) → uses_entry kind ≡ true → IfOther kind P → P
        other Opener P u h = cc
        other Carry P u h = h
        other Ending P u h = h

        at : (a u d f : Bool) → same_key of e.key ≡ a → uses_entry kind ≡ u → nat_le to entered ≡ d → (((a && u) && d) && f) ≡ false
        at true true true f g w y =
            let late : to ≤ entered = grind (arith, nat_tests) in
            let hit : s.words (name.Hit place) ≡ 1 =
            other kind (of ≡ e.key → since (printed s) e.key < entered → IsFrom (base_of (printed s) s.controller.sweeps (job.Hit from ms key place number) e) entered → s.words (name.Hit place) ≡ 1)
            w told (same_key-true of e.key g) (omega arith) (subst (λ o. IsFrom o entered) (sym b) (omega arith)) in
            absurd (true≢false (sym (ap (λ z. z == 1) hit) ∙ none))
        at false u d f g w y = refl
        at true false d f g w y = refl
        at true true false f g w y = refl
    line_hits base b low to h none l told = refl

    -- its quiet sweeps after it
    own_quiet : (o : Option ℕ) → e.quiet ≡ o → (n : ℕ) → Counts (read_flag x) o n
        → QuietHolds (printed s) s.controller.sweeps hit_next_job e.key (s.controller.sweeps + 1) n
    own_quiet o g n starts_over = record {
      less = omega arith;
      began = record {
        from = from;
        began = from_running (printed s) s.controller.sweeps hit_next_job (s.controller.sweeps + 1 - 0) (omega arith) ∙ hit_running;
        placed = before_is (last_placed (printed s) e.key) from (placed_lately s i e place m own_place (ap (λ z. job_taking z place) q)) (placed_before from (printed s) e.key drawn.2);
        since_then = since_before from (printed s) e.key drawn.0 drawn.2;
      };
      idle = λ some. absurd (omega arith);
    }
    own_quiet o g n (counts_on c none was) =
        let before : QuietHolds (printed s) s.controller.sweeps (job.Hit from ms key place number) e.key s.controller.sweeps c =
        subst (λ gone. QuietHolds (printed s) s.controller.sweeps (job.Hit from ms key place number) e.key gone c) gone_before
        (of_some (QuietHolds (printed s) s.controller.sweeps (job.Hit from ms key place number) e.key (rounds s.controller.sweeps (job.Hit from ms key place number) e.taken)) e.quiet c (lives e m) (g ∙ was)) in
        at before (told_sweep s i (s.controller.sweeps - c) (let l = before.less in omega arith) (omega arith))
        (told_sweep s i (s.controller.sweeps + 1 - min 255 (c + 1)) (let l = before.less in omega arith) (omega arith))
      where
        at : QuietHolds (printed s) s.controller.sweeps (job.Hit from ms key place number) e.key s.controller.sweeps c
            → (u : Sweep) × (numbered_sweep (printed s) (s.controller.sweeps - c) ≡ Some u)
            → (w : Sweep) × (numbered_sweep (printed s) (s.controller.sweeps + 1 - min 255 (c + 1)) ≡ Some w)
            → QuietHolds (printed s) s.controller.sweeps hit_next_job e.key (s.controller.sweeps + 1) (min 255 (c + 1))
        at before (u, eu) (w, ew) =
            let less = before.less in
            let old : u.from ≡ before.began.from =
            same_Some u.from before.began.from (sym (ap (option_map (λ w. w.from)) eu) ∙ (sym (from_told (printed s) s.controller.sweeps (job.Hit from ms key place number) (s.controller.sweeps - c) (omega arith)) ∙ before.began.began)) in
            let rise = sweeps_rise s i (s.controller.sweeps - c) (s.controller.sweeps + 1 - min 255 (c + 1)) u w eu ew (omega arith) in
            let took = found_drawn s i (s.controller.sweeps - c) u eu in
            let since_low : since (printed s) e.key < u.from = subst (λ z. since (printed s) e.key < z) (sym old) before.began.since_then in
            let base : base_of (printed s) s.controller.sweeps (job.Hit from ms key place number) e ≡ Some u.to =
            ap (base_by (printed s) (rounds s.controller.sweeps (job.Hit from ms key place number) e.taken)) (g ∙ was)
            ∙ (ap (λ gone. sweep_to (printed s) (gone - c)) gone_before ∙ ap (option_map (λ w. w.to)) eu) in
            record {
              less = omega arith;
              began = record {
                from = w.from;
                began = from_told (printed s) s.controller.sweeps hit_next_job (s.controller.sweeps + 1 - min 255 (c + 1)) (omega arith) ∙ ap (option_map (λ w. w.from)) ew;
                placed = before_later (last_placed (printed s) e.key) u.from w.from rise.0 (ap (is_before (last_placed (printed s) e.key)) old ∙ before.began.placed);
                since_then = omega (arith, rise.0, since_low);
              };
              idle = λ some to late a b.
                  let to_is : w.to ≡ to = same_Some w.to to (sym (ap (option_map (λ w. w.to)) ew) ∙ a) in
                  let late_is : from ≡ late = same_Some from late (sym hit_running ∙ (sym (from_running (printed s) s.controller.sweeps hit_next_job (s.controller.sweeps + 1) refl) ∙ b)) in
                  subst (λ z. list_any (uses_between e.key to z) (printed s) ≡ false) late_is
                  (none_passes (uses_between e.key to from) (printed s)
                  (all_then _ (λ l. uses_between e.key to from l ≡ false) (λ l h. line_hits u.to base (omega (arith, since_low, took.0)) to (omega (arith, rise.1, to_is)) none l h) (printed s) own_settled.told));
            }

  -- ---- all entries

  pub hit_quiet : AllByRecursion (EntryQuiet (printed s) s.controller.sweeps hit_next_job) fs
  hit_quiet =
      changed_all (λ e. In e es) (EntryQuiet (printed s) s.controller.sweeps hit_next_job) (swept (read_flag x)) key own other es (all_to_in (λ e. In e es) es (λ e m. m))
    where
      own : (e : Entry) → is_of key e ≡ true → In e es → EntryQuiet (printed s) s.controller.sweeps hit_next_job (swept (read_flag (s.words (name.Hit place))) e)
      own e t m =
          subst (λ gone. QuietHolds (printed s) s.controller.sweeps hit_next_job e.key gone (quiet_after (read_flag (s.words (name.Hit place))) e.quiet)) (sym (gone_after e m t))
          (own_quiet e m t e.quiet refl (quiet_after (read_flag (s.words (name.Hit place))) e.quiet) (counts (read_flag (s.words (name.Hit place))) e.quiet))

      other : (e : Entry) → is_of key e ≡ false → In e es → EntryQuiet (printed s) s.controller.sweeps hit_next_job e
      other e t m = at e.place refl
        where
          at : (o : Option Place) → e.place ≡ o → EntryQuiet (printed s) s.controller.sweeps hit_next_job e
          at None n = none_quiet (printed s) s.controller.sweeps hit_next_job e (all_in UnplacedFresh es e i.sweeps.sweeps.unplaced m n)
          at (Some p) n =
              entry_turns (printed s) (printed s) s.controller.sweeps s.controller.sweeps (job.Hit from ms key place number) hit_next_job e
              (ap (λ b. if b then s.controller.sweeps + 1 else s.controller.sweeps) (hit_past e m t (ap is_some n)))
              (carries_silent (printed s) s.controller.sweeps (job.Hit from ms key place number) hit_next_job hit_running e.key (rounds s.controller.sweeps (job.Hit from ms key place number) e.taken)) (lives e m)
