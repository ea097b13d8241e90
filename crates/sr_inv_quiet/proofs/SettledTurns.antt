-- What is said of a settled entry's packets goes on, where it stands as it did.
use Rattle.sr_base.specs.declared.kind.Kind.{Kind}
use Rattle.sr_base.specs.declared.kind.Kind.TheVariants.{Carry, Ending, Opener}
use Rattle.sr_base.specs.declared.place.Place.{Place}
use Rattle.sr_inv_facts.proofs.Lists.{all_both, all_more, all_then}
use Rattle.sr_inv_facts.specs.Flying.{IfOther, OnLeg}
use Rattle.sr_inv_facts.specs.InSweeps.{FlightSettled, Found, IsFrom, LegSettled, LineSettled, SettledAt, base_by, base_of, rounds, since}
use Rattle.sr_inv_facts.specs.InTicks.{same}
use Rattle.sr_inv_facts.specs.Invariant.{Invariant}
use Rattle.sr_inv_matching.proofs.Stepping.{entered_drawn}
use Rattle.sr_inv_quiet.proofs.SweepTicks.{start_all}
use Rattle.sr_law.specs.Retire.{numbered_sweep}
use Rattle.sr_law.specs.Ticks.{is_controller, start_of}
use Rattle.sr_law.specs.declared.line.Line.{Line}
use Rattle.sr_machine.specs.Core.{Core, printed}
use Rattle.sr_machine.specs.Stages.{is_opener}
use Rattle.sr_machine.specs.declared.flight.Flight.{Flight}
use Rattle.sr_machine.specs.declared.job.Job.{Job}
use Rattle.sr_machine.specs.declared.leg.Leg.{Leg}
use Rattle.sr_machine.specs.declared.pipe_view.PipeView.{PipeView}
use Rattle.sr_machine.specs.declared.stage.Stage.{Stage}
use Rattle.sr_shadow.specs.declared.entry.Entry.{Entry}
use Rattle.std.proofs.Common.{List, None, Option, Some, ap, arith, false, option_map, refl, slice_get, subst, sym, true, ℕ, ◌++◌, ◌-◌, ◌<◌, ◌∙◌, ◌∷◌, ◌≡◌, ◌≤◌}
use Rattle.std.specs.List.{AllByRecursion}
use Rattle.sr_machine.specs.declared.leg.Leg.TheVariants as leg
use Rattle.sr_machine.specs.declared.stage.Stage.TheVariants as stage
use Rattle.sr_machine.specs.declared.name.Name.TheVariants as name
use Rattle.sr_law.specs.declared.verdict.Verdict.TheVariants as verdict
use Rattle.sr_law.specs.declared.line.Line.TheVariants as line

-- ---- packets of other kinds than openers

pub other_then : (kind : Kind) (P Q : Type 0) → (is_opener kind ≡ false → P → Q) → IfOther kind P → IfOther kind Q
other_then Opener P Q turn h = tt
other_then Carry P Q turn h = turn refl h
other_then Ending P Q turn h = turn refl h

-- a packet that entered at this tick, for other hits and an entry of the same version
module _ (hits after : Place → ℕ) (base next : Option ℕ) (place : Place) (e f : Entry) (versions : f.version ≡ e.version) (n : ℕ)
    (turn : (IsFrom base n → hits place ≡ 1) → IsFrom next n → after place ≡ 1) where
  found_turns : (version : ℕ) → Found hits base place e n version → Found after next place f n version
  found_turns version h = (h.0 ∙ sym versions, turn h.1)

  pub leg_turns : (a : Leg) → LegSettled hits base place e n a → LegSettled after next place f n a
  leg_turns (leg.Look at rest) h = h
  leg_turns (leg.Hit at version) h = (h.0, h.1 ∙ sym versions)
  leg_turns (leg.Filter bit rest) h = h
  leg_turns (leg.Chosen version load) h = found_turns version h
  leg_turns (leg.Judged (verdict.To server version pool) at) h = found_turns version h
  leg_turns (leg.Judged (verdict.Down server version pool) at) h = found_turns version h
  leg_turns (leg.Judged v at) h = tt

module _ (s : Core) (i : Invariant s) where
  -- the facts of an entry, for other hits, a line more, and another tick from which on a hit isn't swept
  module _ (hits after : Place → ℕ) (base next : Option ℕ) (place : Place) (e f : Entry) (keys : f.key ≡ e.key) (versions : f.version ≡ e.version)
      (turn : (n : ℕ) → n < s.words name.Tick → (IsFrom base n → hits place ≡ 1) → IsFrom next n → after place ≡ 1) where
    line_turns : (from : ℕ) (l : Line) → start_of l < s.words name.Tick → LineSettled hits base from place e l → LineSettled after next from place f l
    line_turns from (line.Packet number entered out pipe key kind v) low h =
        other_then kind _ _ (λ o g own late base_so. turn entered low (g (own ∙ keys) late) base_so) h
    line_turns from l low h = tt

    flight_turns : (from : ℕ) (g : Flight) (a : Leg) → g.entered < s.words name.Tick → FlightSettled hits base from place e g a
        → FlightSettled after next from place f g a
    flight_turns from g a low h =
        other_then g.packet.kind _ _ (λ o b own late. leg_turns hits after base next place e f versions g.entered (turn g.entered low) a (b (own ∙ keys) late)) h

    on_leg_then : (p : ℕ) (v : PipeView) → slice_get s.pipes p ≡ Some v → (from : ℕ) (a : Stage) → v.stage ≡ a → OnLeg a (FlightSettled hits base from place e)
        → OnLeg a (FlightSettled after next from place f)
    on_leg_then p v q from (stage.Fly g leg) d h = flight_turns from g leg (entered_drawn s i.ticks p v g leg q d).1 h
    on_leg_then p v q from a d h = tt

    pub settled_turns : (extra : List Line) → since (extra ++ printed s) f.key ≡ since (printed s) e.key
        → AllByRecursion (LineSettled after next (since (extra ++ printed s) f.key) place f) extra
        → SettledAt hits s.pipes (printed s) base e place → SettledAt after s.pipes (extra ++ printed s) next f place
    settled_turns extra same new h = record {
      flights = λ p v q.
          on_leg_then p v q (since (extra ++ printed s) f.key) v.stage refl
          (subst (λ n. OnLeg v.stage (FlightSettled hits base n place e)) (sym same) (h.flights p v q));
      told =
          all_more (LineSettled after next (since (extra ++ printed s) f.key) place f) extra (printed s) new
          (all_both (λ l. start_of l < s.words name.Tick) (LineSettled hits base (since (extra ++ printed s) f.key) place e) (LineSettled after next (since (extra ++ printed s) f.key) place f)
          (λ l low g. line_turns (since (extra ++ printed s) f.key) l low g) (printed s) (start_all s i)
          (subst (λ n. AllByRecursion (LineSettled hits base n place e) (printed s)) (sym same) h.told));
    }

  -- no packet entered since an entry stands where the last line tells
  pub settled_newly : (hits : Place → ℕ) (l : Line) (base : Option ℕ) (e : Entry) (place : Place) → is_controller l ≡ true
      → s.words name.Tick ≤ since (l ∷ printed s) e.key
      → SettledAt hits s.pipes (l ∷ printed s) base e place
  settled_newly hits l base e place own late = record {
    flights = λ p v q. flight p v q v.stage refl;
    told = (here l own, all_then (λ l. start_of l < s.words name.Tick) (LineSettled hits base (since (l ∷ printed s) e.key) place e) (λ m low. there m low) (printed s) (start_all s i));
  }
    where
      none : (kind : Kind) (P : Type 0) (n : ℕ) → n < s.words name.Tick → IfOther kind (P → since (l ∷ printed s) e.key < n → ⊥)
      none Opener P n low = tt
      none Carry P n low = λ p h. absurd (omega arith)
      none Ending P n low = λ p h. absurd (omega arith)

      flight : (p : ℕ) (v : PipeView) → slice_get s.pipes p ≡ Some v → (a : Stage) → v.stage ≡ a → OnLeg a (FlightSettled hits base (since (l ∷ printed s) e.key) place e)
      flight p v q (stage.Fly g leg) d =
          other_then g.packet.kind _ _ (λ o h own low. absurd (h own low)) (none g.packet.kind (g.packet.key ≡ e.key) g.entered (entered_drawn s i.ticks p v g leg q d).1)
      flight p v q a d = tt

      there : (m : Line) → start_of m < s.words name.Tick → LineSettled hits base (since (l ∷ printed s) e.key) place e m
      there (line.Packet number entered out pipe key kind v) low =
          other_then kind _ _ (λ o h own late. absurd (h own late)) (none kind (key ≡ e.key) entered low)
      there m low = tt

      here : (m : Line) → is_controller m ≡ true → LineSettled hits base (since (l ∷ printed s) e.key) place e m
      here (line.Packet number entered out pipe key kind v) d = cc
      here m d = tt

-- a line of the controller tells of no packet
pub none_told : (hits : Place → ℕ) (base : Option ℕ) (from : ℕ) (place : Place) (e : Entry) (l : Line) → is_controller l ≡ true → LineSettled hits base from place e l
none_told hits base from place e (line.Packet number entered out pipe key kind v) d = cc
none_told hits base from place e l d = tt

-- the tick from which on a hit isn't swept stays, where the sweeps do
pub base_same : (lines after : List Line) (sweeps : ℕ) (j m : Job) (e : Entry) → rounds sweeps m e.taken ≡ rounds sweeps j e.taken
    → ((n : ℕ) → numbered_sweep after n ≡ numbered_sweep lines n)
    → base_of after sweeps m e ≡ base_of lines sweeps j e
base_same lines after sweeps j m e gone same = ap (λ n. base_by after n e.quiet) gone ∙ at e.quiet
  where
    at : (o : Option ℕ) → base_by after (rounds sweeps j e.taken) o ≡ base_by lines (rounds sweeps j e.taken) o
    at None = refl
    at (Some q) = ap (option_map (λ w. w.to)) (same (rounds sweeps j e.taken - q))
