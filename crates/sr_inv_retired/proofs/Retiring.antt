-- A connection that is retired was open, and quiet for so many sweeps.
use Rattle.std.proofs.Common.{◌≡◌, ℕ, ◌+◌, ◌-◌, ◌<◌, ◌≤◌, ◌&&◌, ◌||◌, ◌==◌, not, nat_le, nat_lt, Bool, true, false, ◌⊎◌, List, [], ◌∷◌, ◌++◌, slice_get, is_none, is_some, if◌then◌else◌, option_map, Some, None, Option, sym, refl, ap, ◌∙◌, subst, inl, inr, arith}
use Rattle.std.proofs.lemmas.Bool.{cases_lt}
use Rattle.std.proofs.lemmas.Bool.Decides.{nat_tests}
use Rattle.std.proofs.lemmas.Option.{same_Some}
use Rattle.std.specs.List.{AllByRecursion, list_any}
use Rattle.std.specs.Option.{option_or}
use Rattle.sr_base.proofs.Sameness.{same_key-self}
use Rattle.sr_base.specs.Key.{KeyView, same_key}
use Rattle.sr_base.specs.declared.kind.Kind.TheVariants.{Opener, Carry, Ending}
use Rattle.sr_base.specs.declared.place.Place.{Place}
use Rattle.sr_inv_clauses.proofs.SamePools.{entry_opened}
use Rattle.sr_inv_facts.proofs.Books.{found_key}
use Rattle.sr_inv_facts.proofs.Lists.{of_some}
use Rattle.sr_inv_facts.specs.InCauses.{AllMeet, ending_at, ending_of, endings_in, endings_under_way, setup_of}
use Rattle.sr_inv_facts.specs.InJobs.{RetiredHolds}
use Rattle.sr_inv_facts.specs.InOpenings.{EntryOpened, IsAwaited}
use Rattle.sr_inv_facts.specs.InSweeps.{EntryQuiet, HasEnded, IsEnding, IsLastSweep, OnSwept, QuietHolds, ends_after, rounds, running_from, sweep_from, sweep_to}
use Rattle.sr_inv_facts.specs.Invariant.{Invariant}
use Rattle.sr_inv_matching.proofs.Stepping.{entered_drawn}
use Rattle.sr_inv_order.proofs.Placing.{holds_at}
use Rattle.sr_inv_order.proofs.Rising.{all_before, and_true, not_false, or_false}
use Rattle.sr_inv_quiet.proofs.SweepLines.{sweep_takes, sweeps_apart, two_ticks}
use Rattle.sr_inv_retired.proofs.Endings.{any_back, any_front, under_there}
use Rattle.sr_law.specs.Lawful.{MeetsClauses}
use Rattle.sr_law.specs.Opening.{is_open, opening}
use Rattle.sr_law.specs.Retire.{EndingPacket, ending_by, endings_of, is_before, is_next_sweep, is_quiet, is_quiet_between, last_placed, last_retired, last_sweep, may_end, meets_retire, numbered_sweep, of_number, sweep_by, uses_between, uses_entry}
use Rattle.sr_law.specs.Setup.{SetupView}
use Rattle.sr_law.specs.Ticks.{out_of}
use Rattle.sr_law.specs.declared.line.Line.{Line}
use Rattle.sr_law.specs.declared.opening.Opening.{Opening}
use Rattle.sr_law.specs.declared.sweep.Sweep.{Sweep}
use Rattle.sr_law.specs.declared.verdict.Verdict.{Verdict}
use Rattle.sr_machine.specs.Core.{Core, printed}
use Rattle.sr_machine.specs.declared.leg.Leg.TheVariants.{Judged}
use Rattle.sr_machine.specs.declared.pipe_view.PipeView.{PipeView}
use Rattle.sr_machine.specs.declared.stage.Stage.{Stage}
use Rattle.sr_machine.specs.declared.stage.Stage.TheVariants.{Fly}
use Rattle.sr_shadow.specs.Entry.{is_of, is_over}
use Rattle.sr_update.proofs.Dues.{all_find}
use Rattle.sr_machine.specs.declared.draw.Draw.TheVariants as draw
use Rattle.sr_machine.specs.declared.job.Job.TheVariants as job
use Rattle.sr_machine.specs.declared.leg.Last.TheVariants as last
use Rattle.sr_law.specs.declared.line.Line.TheVariants as line
use Rattle.sr_machine.specs.declared.name.Name.TheVariants as name

parts : (a b : Bool) → (a && b) ≡ true → (a ≡ true) × (b ≡ true)
parts true b e = (refl, e)
parts false b e = cc

-- ---- sweeps of a list

-- the last sweep is found under its number
last_found : (lines : List Line) (w : Sweep) → last_sweep lines ≡ Some w → numbered_sweep lines w.number ≡ Some w
last_found [] w e = cc
last_found (l ∷ before) w e = at (sweep_by l) e (last_found before w)
  where
    own : (u : Sweep) → Some u ≡ Some w → (b : Bool) → (u.number == w.number) ≡ b
        → option_or (if b then Some u else None) (numbered_sweep before w.number) ≡ Some w
    own u e true q = e
    own u e false q =
        let same : u.number ≡ w.number = ap (λ z. z.number) (same_Some u w e) in absurd (grind (arith, nat_tests))

    at : (o : Option Sweep) → option_or o (last_sweep before) ≡ Some w
        → (last_sweep before ≡ Some w → numbered_sweep before w.number ≡ Some w)
        → option_or (of_number w.number o) (numbered_sweep before w.number) ≡ Some w
    at None e more = more e
    at (Some u) e more = own u e (u.number == w.number) refl

-- fewer packets entered after a later tick
uses_less : (c : KeyView) (low later high : ℕ) → low ≤ later → (lines : List Line) → list_any (uses_between c low high) lines ≡ false
    → list_any (uses_between c later high) lines ≡ false
uses_less c low later high h [] e = refl
uses_less c low later high h (l ∷ rest) e = at l e (uses_less c low later high h rest)
  where
    two : (a b c d : Bool) → (b ≡ false → c ≡ false) → ((a && b) && d) ≡ false → ((a && c) && d) ≡ false
    two true true true d h e = e
    two true true false d h e = refl
    two true false c d h e = ap (λ z. z && d) (h refl)
    two false b c d h e = refl

    or_parts : (a b : Bool) → (a || b) ≡ false → (a ≡ false) × (b ≡ false)
    or_parts true b e = cc
    or_parts false b e = (refl, e)

    none : (m : Line) → uses_between c low high m ≡ false → uses_between c later high m ≡ false
    none (line.Packet number entered out pipe key kind v) q =
        two (same_key key c && uses_entry kind) (nat_le low entered) (nat_le later entered) (nat_le out high) (λ t. grind (arith, nat_tests)) q
    none m q = refl

    at : (m : Line) → (uses_between c low high m || list_any (uses_between c low high) rest) ≡ false
        → (list_any (uses_between c low high) rest ≡ false → list_any (uses_between c later high) rest ≡ false)
        → (uses_between c later high m || list_any (uses_between c later high) rest) ≡ false
    at m e more =
        let o = or_parts (uses_between c low high m) (list_any (uses_between c low high) rest) e in
        or_false (uses_between c later high m) (list_any (uses_between c later high) rest) (none m o.0) (more o.1)

-- ---- Ending packets by the lines

-- one whose line is out ended its connection before the next tick
ended_line : (setup : SetupView) (endings : List EndingPacket) (lines : List Line) → AllMeet setup endings lines → (c : KeyView) (retired tick : ℕ)
    → AllByRecursion (λ l. out_of l < tick) lines
    → list_any (ends_after c retired) (endings_of lines) ≡ true
    → list_any (may_end c retired tick) (endings_of lines) ≡ true
ended_line setup endings [] m c retired tick a e = cc
ended_line setup endings (l ∷ before) m c retired tick a e = at l m.0 a.0 e (ended_line setup endings before m.1 c retired tick a.1)
  where
    in_time : (number entered out pipe : ℕ) (key : KeyView) (v : Verdict)
        → MeetsClauses setup endings before (line.Packet number entered out pipe key Ending v) → out < tick → nat_lt entered tick ≡ true
    in_time number entered out pipe key v m low =
        let early = two_ticks setup endings before (line.Packet number entered out pipe key Ending v) m refl in grind (arith, nat_tests)

    ends : (a b d : Bool) (rest more : Bool) → b ≡ true → (rest ≡ true → more ≡ true) → ((a && d) || rest) ≡ true → (((a && b) && d) || more) ≡ true
    ends true true true rest more e h g = refl
    ends true true false rest more e h g = h g
    ends true false d rest more e h g = cc
    ends false b d rest more e h g = h g

    at : (x : Line) → MeetsClauses setup endings before x → out_of x < tick → list_any (ends_after c retired) (ending_by x ++ endings_of before) ≡ true
        → (list_any (ends_after c retired) (endings_of before) ≡ true → list_any (may_end c retired tick) (endings_of before) ≡ true)
        → list_any (may_end c retired tick) (ending_by x ++ endings_of before) ≡ true
    at (line.Packet number entered out pipe key Ending v) m low g more =
        ends (same_key key c) (nat_lt entered tick) (nat_lt retired out) (list_any (ends_after c retired) (endings_of before)) (list_any (may_end c retired tick) (endings_of before)) (in_time number entered out pipe key v m low) more g
    at (line.Packet number entered out pipe key Opener v) m low g more = more g
    at (line.Packet number entered out pipe key Carry v) m low g more = more g
    at x m low g more = more g

module _ (s : Core) (i : Invariant s) where
  abbrev setup : SetupView
  setup = setup_of s.config

  abbrev endings : List EndingPacket
  endings = endings_in s.pipes (printed s)

  -- ---- a sweep

  pub sweep_next : (from ms : ℕ) → s.controller.job ≡ job.Draw (draw.Swept from ms)
      → is_next_sweep s.config.layout.shape.idle_ms (s.controller.sweeps + 1) ms (last_sweep (printed s)) ≡ true
  sweep_next from ms e = at (last_sweep (printed s)) i.sweeps.sweeps.counted.last
    where
      idle : s.controller.swept_ms + s.config.layout.shape.idle_ms ≤ ms
      idle = subst (λ j. OnSwept j (λ ms. s.controller.swept_ms + s.config.layout.shape.idle_ms ≤ ms)) e i.sweeps.sweeps.counted.idle

      at : (o : Option Sweep) → IsLastSweep s.controller.sweeps s.controller.swept_ms o
          → is_next_sweep s.config.layout.shape.idle_ms (s.controller.sweeps + 1) ms o ≡ true
      at None h =
          and_true ((s.controller.sweeps + 1) == 1) (nat_le s.config.layout.shape.idle_ms ms) (first h.0) (later h.1 idle)
        where
          first : s.controller.sweeps ≡ 0 → ((s.controller.sweeps + 1) == 1) ≡ true
          first z = grind (arith, nat_tests)

          later : s.controller.swept_ms ≡ 0 → s.controller.swept_ms + s.config.layout.shape.idle_ms ≤ ms → nat_le s.config.layout.shape.idle_ms ms ≡ true
          later z g = grind (arith, nat_tests)
      at (Some w) h =
          and_true ((s.controller.sweeps + 1) == (w.number + 1)) (nat_le (w.at_ms + s.config.layout.shape.idle_ms) ms) (next h.0) (later h.1 idle)
        where
          next : s.controller.sweeps ≡ w.number → ((s.controller.sweeps + 1) == (w.number + 1)) ≡ true
          next z = grind (arith, nat_tests)

          later : s.controller.swept_ms ≡ w.at_ms → s.controller.swept_ms + s.config.layout.shape.idle_ms ≤ ms
              → nat_le (w.at_ms + s.config.layout.shape.idle_ms) ms ≡ true
          later z g = grind (arith, nat_tests)

  -- ---- a retirement

  module _ (key : KeyView) (place : Place) (version : ℕ) (e : s.controller.job ≡ job.Draw (draw.Retired key place version)) where
    retired : RetiredHolds s.config s.controller.book.entries key place version
    retired = holds_at s i (job.Draw (draw.Retired key place version)) e

    key_is : key ≡ retired.entry.key
    key_is = found_key key s.controller.book.entries retired.entry retired.found

    -- it is open
    was_open : is_open (printed s) key ≡ true
    was_open = at (opening (printed s) key) (entry_opened s i key retired.entry retired.found)
      where
        at : (o : Option Opening) → EntryOpened s.config s.controller.vips s.controller.named s.controller.down s.controller.job s.pipes retired.entry o
            → is_some o ≡ true
        at (Some o) h = refl
        at None (inl h) =
            let none : retired.entry.place ≡ None = pending retired.entry.place h.0 in
            let no : None ≡ Some place = sym none ∙ retired.stands in absurd (cc)
          where
            pending : (o : Option Place) → is_none o ≡ true → o ≡ None
            pending None q = refl
            pending (Some p) q = cc
        at None (inr h) = absurd (subst (λ j. IsAwaited j retired.entry.key) e h.awaited)

    -- the sweeps that went by
    gone_is : rounds s.controller.sweeps s.controller.job retired.entry.taken ≡ s.controller.sweeps
    gone_is = ap (λ j. rounds s.controller.sweeps j retired.entry.taken) e

    -- it was quiet for some of them
    was_quiet : (quiet : ℕ) → retired.entry.quiet ≡ Some quiet → (n : ℕ) → 1 ≤ n → n ≤ quiet
        → is_quiet (printed s) key n (last_sweep (printed s)) ≡ true
    was_quiet quiet q n some most = at (last_sweep (printed s)) refl i.sweeps.sweeps.counted.last
      where
        holds : QuietHolds (printed s) s.controller.sweeps s.controller.job retired.entry.key s.controller.sweeps quiet
        holds =
            subst (λ g. QuietHolds (printed s) s.controller.sweeps s.controller.job retired.entry.key g quiet) gone_is
            (of_some (QuietHolds (printed s) s.controller.sweeps s.controller.job retired.entry.key (rounds s.controller.sweeps s.controller.job retired.entry.taken)) retired.entry.quiet quiet
            (all_find (EntryQuiet (printed s) s.controller.sweeps s.controller.job) (is_of key) s.controller.book.entries retired.entry i.sweeps.sweeps.quiet retired.found) q)

        from_of : (number : ℕ) → number ≤ s.controller.sweeps → (w : Sweep) → numbered_sweep (printed s) number ≡ Some w
            → sweep_from (printed s) s.controller.sweeps s.controller.job number ≡ Some w.from
        from_of number low w f = by (number == (s.controller.sweeps + 1)) (grind (arith, nat_tests))
          where
            by : (b : Bool) → b ≡ false
                → (if b then running_from s.controller.job else option_map (λ w. w.from) (numbered_sweep (printed s) number)) ≡ Some w.from
            by true t = cc
            by false t = ap (option_map (λ w. w.from)) f

        found : (number : ℕ) → 1 ≤ number → number ≤ s.controller.sweeps → (w : Sweep) × (numbered_sweep (printed s) number ≡ Some w)
        found number low high = by (numbered_sweep (printed s) number) refl (i.sweeps.sweeps.counted.each number low high)
          where
            by : (o : Option Sweep) → numbered_sweep (printed s) number ≡ o → is_some o ≡ true
                → (w : Sweep) × (numbered_sweep (printed s) number ≡ Some w)
            by None f h = cc
            by (Some w) f h = (w, f)

        at : (o : Option Sweep) → last_sweep (printed s) ≡ o → IsLastSweep s.controller.sweeps s.controller.swept_ms o
            → is_quiet (printed s) key n o ≡ true
        at None l h = let less = holds.less in absurd (omega (arith, less, h.0))
        at (Some w) l h =
            and_true (nat_lt n w.number) (is_quiet_between (printed s) key (numbered_sweep (printed s) (w.number - n)) (Some w)) (below h.0)
            (subst (λ m. is_quiet_between (printed s) key (numbered_sweep (printed s) (m - n)) (Some w) ≡ true) h.0 between)
          where
            below : s.controller.sweeps ≡ w.number → nat_lt n w.number ≡ true
            below z = let less = holds.less in grind (arith, nat_tests)

            late : numbered_sweep (printed s) s.controller.sweeps ≡ Some w
            late = subst (λ m. numbered_sweep (printed s) m ≡ Some w) (sym h.0) (last_found (printed s) w l)

            between : is_quiet_between (printed s) key (numbered_sweep (printed s) (s.controller.sweeps - n)) (Some w) ≡ true
            between =
                let less = holds.less in
                let first = found (s.controller.sweeps - quiet) (omega (arith, less)) (omega arith) in
                let second = found (s.controller.sweeps - n) (omega (arith, less, most)) (omega arith) in
                subst (λ o. is_quiet_between (printed s) key o (Some w) ≡ true) (sym second.1) (both first.0 first.1 second.0 second.1)
              where
                apart : (u z : Sweep) → numbered_sweep (printed s) (s.controller.sweeps - quiet) ≡ Some u → numbered_sweep (printed s) (s.controller.sweeps - n) ≡ Some z
                    → (u.from ≤ z.from) × (u.to ≤ z.to)
                apart u z f g = by (cases_lt (s.controller.sweeps - quiet) (s.controller.sweeps - n))
                  where
                    by : ((s.controller.sweeps - quiet) < (s.controller.sweeps - n)) ⊎ ((s.controller.sweeps - n) ≤ (s.controller.sweeps - quiet))
                        → (u.from ≤ z.from) × (u.to ≤ z.to)
                    by (inl b) =
                        let one = sweeps_apart (setup_of s.config) (endings_in s.pipes (printed s)) (printed s) i.causes.causes.clauses (s.controller.sweeps - quiet) (s.controller.sweeps - n) u z f g b in
                        let two = sweep_takes (setup_of s.config) (endings_in s.pipes (printed s)) (printed s) i.causes.causes.clauses (s.controller.sweeps - quiet) u f in
                        let three = sweep_takes (setup_of s.config) (endings_in s.pipes (printed s)) (printed s) i.causes.causes.clauses (s.controller.sweeps - n) z g in
                        (omega (arith, one, two), omega (arith, one, three))
                    by (inr b) =
                        let less = holds.less in
                        let same : s.controller.sweeps - quiet ≡ s.controller.sweeps - n = omega (arith, b, most, less) in
                        let is : u ≡ z = same_Some u z (sym f ∙ (ap (numbered_sweep (printed s)) same ∙ g)) in
                        (subst (λ y. u.from ≤ y.from) is (omega arith), subst (λ y. u.to ≤ y.to) is (omega arith))

                both : (u : Sweep) → numbered_sweep (printed s) (s.controller.sweeps - quiet) ≡ Some u → (z : Sweep)
                    → numbered_sweep (printed s) (s.controller.sweeps - n) ≡ Some z
                    → is_quiet_between (printed s) key (Some z) (Some w) ≡ true
                both u f z g =
                    let less = holds.less in
                    let began = holds.began in
                    let order = apart u z f g in
                    let start : began.from ≡ u.from = same_Some began.from u.from (sym began.began ∙ from_of (s.controller.sweeps - quiet) (omega arith) u f) in
                    let placed : is_before (last_placed (printed s) key) u.from ≡ true =
                    subst (λ k. is_before (last_placed (printed s) k) u.from ≡ true) (sym key_is) (subst (λ m. is_before (last_placed (printed s) retired.entry.key) m ≡ true) start began.placed) in
                    let idle : list_any (uses_between retired.entry.key u.to w.from) (printed s) ≡ false =
                    holds.idle (omega (arith, some, most)) u.to w.from (told u f) (from_of s.controller.sweeps (omega arith) w late) in
                    let own : list_any (uses_between key u.to w.from) (printed s) ≡ false =
                    subst (λ k. list_any (uses_between k u.to w.from) (printed s) ≡ false) (sym key_is) idle in
                    and_true (is_before (last_placed (printed s) key) z.from) (not (list_any (uses_between key z.to w.from) (printed s)))
                    (earlier (last_placed (printed s) key) u.from z.from order.0 placed)
                    (not_false (list_any (uses_between key z.to w.from) (printed s)) (uses_less key u.to z.to w.from order.1 (printed s) own))
                  where
                    told : (u : Sweep) → numbered_sweep (printed s) (s.controller.sweeps - quiet) ≡ Some u
                        → sweep_to (printed s) (s.controller.sweeps - quiet) ≡ Some u.to
                    told u f = ap (option_map (λ w. w.to)) f

                    earlier : (o : Option ℕ) (a b : ℕ) → a ≤ b → is_before o a ≡ true → is_before o b ≡ true
                    earlier None a b h t = cc
                    earlier (Some m) a b h t = grind (arith, nat_tests)

    -- a closed one had an Ending packet
    was_ended : retired.entry.closed ≡ true → list_any (may_end key (last_retired (printed s) key) (s.words name.Tick)) (endings_in s.pipes (printed s)) ≡ true
    was_ended c =
        subst (λ k. list_any (may_end k (last_retired (printed s) k) (s.words name.Tick)) (endings_in s.pipes (printed s)) ≡ true) (sym key_is)
        (at (all_find (λ e. e.closed ≡ true → HasEnded s.pipes (printed s) e.key) (is_of key) s.controller.book.entries retired.entry i.sweeps.sweeps.ended.closed retired.found c))
      where
        passes : (a b : Bool) → a ≡ true → b ≡ true → (((a && b) && true) || false) ≡ true
        passes true true e f = refl
        passes true false e f = cc
        passes false b e f = cc

        flying : (p : ℕ) (v : PipeView) → slice_get s.pipes p ≡ Some v → (a : Stage) → v.stage ≡ a → IsEnding retired.entry.key a
            → list_any (may_end retired.entry.key (last_retired (printed s) retired.entry.key) (s.words name.Tick)) (endings_in s.pipes (printed s)) ≡ true
        flying p v q (Fly f (Judged w last.Out)) r h =
            let early = (entered_drawn s i.ticks p v f (Judged w last.Out) q r).1 in
            let test = may_end retired.entry.key (last_retired (printed s) retired.entry.key) (s.words name.Tick) in
            let kinds : list_any test (ending_of f.packet f.entered f.packet.kind) ≡ true =
            subst (λ k. list_any test (ending_of f.packet f.entered k) ≡ true) (sym h.0)
            (passes (same_key f.packet.key retired.entry.key) (nat_lt f.entered (s.words name.Tick)) (subst (λ k. same_key k retired.entry.key ≡ true) (sym h.1) (same_key-self retired.entry.key)) (grind (arith, nat_tests))) in
            any_front test (endings_under_way s.pipes) (endings_of (printed s))
            (under_there test s.pipes p v q (subst (λ a. list_any test (ending_at a) ≡ true) (sym r) kinds))
        flying p v q a r h = absurd h

        at : HasEnded s.pipes (printed s) retired.entry.key
            → list_any (may_end retired.entry.key (last_retired (printed s) retired.entry.key) (s.words name.Tick)) (endings_in s.pipes (printed s)) ≡ true
        at (inl h) =
            any_back (may_end retired.entry.key (last_retired (printed s) retired.entry.key) (s.words name.Tick)) (endings_under_way s.pipes) (endings_of (printed s))
            (ended_line (setup_of s.config) (endings_in s.pipes (printed s)) (printed s) i.causes.causes.clauses retired.entry.key (last_retired (printed s) retired.entry.key) (s.words name.Tick) (all_before s i.ticks) h)
        at (inr (p, v, q, h)) = flying p v q v.stage refl h

    -- so it may be retired
    pub retire_met : meets_retire (setup_of s.config) (endings_in s.pipes (printed s)) (printed s) (line.Retired (s.words name.Tick) key) ≡ true
    unfolding meets_retire
    retire_met = and_true (is_open (printed s) key) _ was_open (over retired.entry.quiet refl (parts _ _ retired.over).1)
      where
        or_first : (a b : Bool) → a ≡ true → (a || b) ≡ true
        or_first true b h = refl
        or_first false b h = cc

        or_second : (a b : Bool) → b ≡ true → (a || b) ≡ true
        or_second true b h = refl
        or_second false b h = h

        some_lives : 1 ≤ s.config.layout.shape.lives
        some_lives = i.shape.config.layout.lives.0

        over : (o : Option ℕ) → retired.entry.quiet ≡ o → is_over s.config.layout.shape.lives retired.entry.closed o ≡ true
            → (is_quiet (printed s) key s.config.layout.shape.lives (last_sweep (printed s)) || (list_any (may_end key (last_retired (printed s) key) (s.words name.Tick)) (endings_in s.pipes (printed s)) && is_quiet (printed s) key 1 (last_sweep (printed s)))) ≡ true
        over None q h = cc
        over (Some quiet) q h = by (nat_le s.config.layout.shape.lives quiet) refl h
          where
            by : (b : Bool) → nat_le s.config.layout.shape.lives quiet ≡ b → (b || (retired.entry.closed && nat_le 1 quiet)) ≡ true
                → (is_quiet (printed s) key s.config.layout.shape.lives (last_sweep (printed s)) || (list_any (may_end key (last_retired (printed s) key) (s.words name.Tick)) (endings_in s.pipes (printed s)) && is_quiet (printed s) key 1 (last_sweep (printed s)))) ≡ true
            by true t g =
                or_first (is_quiet (printed s) key s.config.layout.shape.lives (last_sweep (printed s))) _
                (was_quiet quiet q s.config.layout.shape.lives some_lives (grind (arith, nat_tests)))
            by false t g =
                let two = parts retired.entry.closed (nat_le 1 quiet) g in
                let some = two.1 in
                or_second (is_quiet (printed s) key s.config.layout.shape.lives (last_sweep (printed s))) _
                (and_true (list_any (may_end key (last_retired (printed s) key) (s.words name.Tick)) (endings_in s.pipes (printed s))) (is_quiet (printed s) key 1 (last_sweep (printed s))) (was_ended two.0)
                (was_quiet quiet q 1 (omega arith) (grind (arith, nat_tests))))
