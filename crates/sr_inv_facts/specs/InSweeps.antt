-- Sweeps: a connection that was quiet for some sweeps was quiet by the lines. A packet of a placed entry that entered after it was placed finds the entry, and
-- leaves a hit there; and a connection that is marked as closed had an Ending packet in this life of it.
use Rattle.std.specs.List.{AllByRecursion, list_any}
use Rattle.std.specs.Prelude.{◌≡◌, ℕ, ◌+◌, ◌-◌, ◌<◌, ◌≤◌, max, Bool, true, false, ◌&&◌, ◌⊎◌, List, [], ◌∷◌, is_some, IfSome, if◌then◌else◌, nat_lt, ◌==◌, Some, None, Option, unwrap_or, option_map}
use Rattle.sr_base.specs.Key.{KeyView, same_key}
use Rattle.sr_base.specs.Layout.{LayoutView}
use Rattle.sr_base.specs.declared.kind.Kind.TheVariants.{Ending}
use Rattle.sr_base.specs.declared.place.Place.{Place}
use Rattle.sr_inv_facts.specs.Flying.{IfOther, OnLeg, OnVersion}
use Rattle.sr_inv_facts.specs.Readings.{EachPipe, IfClose, In, IsBehind, OnReport, SomePipe, from_place, hit_words, ring_words}
use Rattle.sr_law.specs.Retire.{EndingPacket, endings_of, is_before, last_placed, last_retired, last_sweep, numbered_sweep, uses_between, is_out_after}
use Rattle.sr_law.specs.Taken.{taken}
use Rattle.sr_law.specs.declared.line.Line.{Line}
use Rattle.sr_law.specs.declared.sweep.Sweep.{Sweep}
use Rattle.sr_law.specs.declared.taking.Taking.{Taking}
use Rattle.sr_machine.specs.Config.{Config}
use Rattle.sr_machine.specs.Core.{Core, printed}
use Rattle.sr_machine.specs.declared.flight.Flight.{Flight}
use Rattle.sr_machine.specs.declared.job.Job.{Job}
use Rattle.sr_machine.specs.declared.leg.Leg.{Leg}
use Rattle.sr_machine.specs.declared.leg.Leg.TheVariants.{Look, Hit, Filter, Chosen, Judged}
use Rattle.sr_machine.specs.declared.pipe_view.PipeView.{PipeView}
use Rattle.sr_machine.specs.declared.ring_count.RingCount.{RingCount}
use Rattle.sr_machine.specs.declared.stage.Stage.{Stage}
use Rattle.sr_machine.specs.declared.stage.Stage.TheVariants.{Fly}
use Rattle.sr_machine.specs.declared.wait.Wait.{Wait}
use Rattle.sr_shadow.specs.declared.entry.Entry.{Entry}
use Rattle.sr_machine.specs.declared.draw.Draw.TheVariants as draw
use Rattle.sr_machine.specs.declared.store.Store.TheVariants as store
use Rattle.sr_machine.specs.declared.wait.Wait.TheVariants as wait
use Rattle.sr_machine.specs.declared.why.Why.TheVariants as why
use Rattle.sr_machine.specs.declared.job.Job.TheVariants as job
use Rattle.sr_machine.specs.declared.leg.Last.TheVariants as last
use Rattle.sr_law.specs.declared.line.Line.TheVariants as line

-- ---- sweeps

-- of the capture time of a sweep that is under way or about to begin
abbrev pub OnSwept : Job → (ℕ → Type 0) → Type 0
OnSwept (job.Draw (draw.From ms)) P = P ms
OnSwept (job.Hit from ms key place number) P = P ms
OnSwept (job.Draw (draw.Swept from ms)) P = P ms
OnSwept j P = Unit {0}

-- the last sweep by the lines is the controller's
abbrev pub IsLastSweep : ℕ → ℕ → Option Sweep → Type 0
IsLastSweep sweeps ms None = (sweeps ≡ 0) × (ms ≡ 0)
IsLastSweep sweeps ms (Some w) = (sweeps ≡ w.number) × (ms ≡ w.at_ms)

-- the sweep that is under way is past the entry of this number
abbrev pub is_past : Job → ℕ → Bool
is_past (job.Hit from ms key place next) number = nat_lt number next
is_past (job.Draw (draw.Swept from ms)) number = true
is_past j number = false

-- how many sweeps have gone by the entry
abbrev pub rounds : ℕ → Job → ℕ → ℕ
rounds sweeps j number = if is_past j number then sweeps + 1 else sweeps

-- the tick at which the sweep that is under way began
abbrev pub running_from : Job → Option ℕ
running_from (job.Hit from ms key place next) = Some from
running_from (job.Draw (draw.Swept from ms)) = Some from
running_from j = None

-- the tick at which the sweep of this number began, and the one at which it ended
abbrev pub sweep_from : List Line → ℕ → Job → ℕ → Option ℕ
sweep_from lines sweeps j number =
    if number == (sweeps + 1) then running_from j else option_map (λ w. w.from) (numbered_sweep lines number)

abbrev pub sweep_to : List Line → ℕ → Option ℕ
sweep_to lines number = option_map (λ w. w.to) (numbered_sweep lines number)

-- ---- since when an entry stands where it stands

abbrev pub is_live_taking : Option Taking → Bool
is_live_taking None = false
is_live_taking (Some t) = t.placed

-- the tick of a line that empties a place at which the key's entry was live
abbrev pub moved_by : Line → List Line → KeyView → Option ℕ
moved_by (line.Cleared out key place) before c = if same_key key c && is_live_taking (taken before place) then Some out else None
moved_by l before c = None

-- the last such tick, 0 for none
abbrev pub last_moved : List Line → KeyView → ℕ
last_moved [] c = 0
last_moved (l ∷ before) c = unwrap_or (moved_by l before c) (last_moved before c)

-- the tick since which packets of the key find its entry where it is
abbrev pub since : List Line → KeyView → ℕ
since lines c = max (unwrap_or (last_placed lines c) 0) (last_moved lines c)

-- a live put's key, until the place that it left is cleared by the lines
abbrev pub is_put_by : KeyView → Wait → Bool
is_put_by key (wait.Live p) = same_key p.key key
is_put_by key w = false

abbrev pub is_fresh : Job → KeyView → Bool
is_fresh (job.Draw (draw.Placed p)) key = same_key p.key key
is_fresh (job.Draw (draw.Grace w)) key = is_put_by key w
is_fresh (job.Pass grace pipe w) key = is_put_by key w
is_fresh (job.Drain pipe count w) key = is_put_by key w
is_fresh (job.Store (store.Empty of place why.Source)) key = same_key of key
is_fresh (job.Draw (draw.Cleared of place why.Source)) key = same_key of key
is_fresh j key = false

-- the lines don't tell yet where the key's entry stands
abbrev pub is_unsettled : Job → KeyView → Bool
is_unsettled (job.Draw (draw.Placed p)) key = same_key p.key key
is_unsettled (job.Draw (draw.Cleared of place why.Source)) key = same_key of key
is_unsettled j key = false

-- ---- a quiet entry

-- the sweep of this number began after the key was placed where it is
pub record BeganAfter (lines : List Line) (sweeps : ℕ) (j : Job) (key : KeyView) (number : ℕ) : Type 0 where
  pub from : ℕ
  pub began : sweep_from lines sweeps j number ≡ Some from
  pub placed : is_before (last_placed lines key) from ≡ true
  pub since_then : since lines key < from

-- no packet that uses entries entered after the one sweep and was out before the other began
abbrev pub IsIdle : List Line → ℕ → Job → KeyView → ℕ → ℕ → Type 0
IsIdle lines sweeps j key early late =
    (to from : ℕ) → sweep_to lines early ≡ Some to → sweep_from lines sweeps j late ≡ Some from
    → list_any (uses_between key to from) lines ≡ false

-- an entry that was quiet for so many of the sweeps that went by it
pub record QuietHolds (lines : List Line) (sweeps : ℕ) (j : Job) (key : KeyView) (gone quiet : ℕ) : Type 0 where
  pub less : quiet < gone
  pub began : BeganAfter lines sweeps j key (gone - quiet)
  pub idle : 0 < quiet → IsIdle lines sweeps j key (gone - quiet) gone

abbrev pub EntryQuiet : List Line → ℕ → Job → Entry → Type 0
EntryQuiet lines sweeps j e = IfSome e.quiet (QuietHolds lines sweeps j e.key (rounds sweeps j e.taken))

-- no sweep goes by an entry that stands nowhere
abbrev pub UnplacedFresh : Entry → Type 0
UnplacedFresh e = e.place ≡ None → e.quiet ≡ None

-- ---- packets of a settled entry

-- the tick from which on a packet's hit isn't swept yet; none while that isn't drawn
abbrev pub base_by : List Line → ℕ → Option ℕ → Option ℕ
base_by lines gone None = Some 0
base_by lines gone (Some quiet) = sweep_to lines (gone - quiet)

abbrev pub base_of : List Line → ℕ → Job → Entry → Option ℕ
base_of lines sweeps j e = base_by lines (rounds sweeps j e.taken) e.quiet

-- it entered at that tick or later
abbrev pub IsFrom : Option ℕ → ℕ → Type 0
IsFrom None entered = ⊥
IsFrom (Some base) entered = base ≤ entered

-- it has the entry's version, and left a hit
abbrev pub Found : (Place → ℕ) → Option ℕ → Place → Entry → ℕ → ℕ → Type 0
Found hits base place e entered version = (version ≡ e.version) × (IsFrom base entered → hits place ≡ 1)

-- a packet that uses entries looks for the entry's place, finds it, and goes by its version
abbrev pub LegSettled : (Place → ℕ) → Option ℕ → Place → Entry → ℕ → Leg → Type 0
LegSettled hits base place e entered (Look at rest) = In place (at ∷ rest)
LegSettled hits base place e entered (Hit at version) = (at ≡ place) × (version ≡ e.version)
LegSettled hits base place e entered (Filter bit rest) = ⊥
LegSettled hits base place e entered (Chosen version load) = Found hits base place e entered version
LegSettled hits base place e entered (Judged v last) = OnVersion v (Found hits base place e entered)

abbrev pub FlightSettled : (Place → ℕ) → Option ℕ → ℕ → Place → Entry → Flight → Leg → Type 0
FlightSettled hits base from place e f at =
    IfOther f.packet.kind (f.packet.key ≡ e.key → from < f.entered → LegSettled hits base place e f.entered at)

-- its line tells of a hit
abbrev pub LineSettled : (Place → ℕ) → Option ℕ → ℕ → Place → Entry → Line → Type 0
LineSettled hits base from place e (line.Packet number entered out pipe key kind v) =
    IfOther kind (key ≡ e.key → from < entered → IsFrom base entered → hits place ≡ 1)
LineSettled hits base from place e l = Unit {0}

pub record SettledAt (hits : Place → ℕ) (pipes : List PipeView) (lines : List Line) (base : Option ℕ) (e : Entry) (place : Place) : Type 0 where
  pub flights : EachPipe (λ p v. OnLeg v.stage (FlightSettled hits base (since lines e.key) place e)) pipes
  pub told : AllByRecursion (LineSettled hits base (since lines e.key) place e) lines

abbrev pub EntrySettled : (Place → ℕ) → List PipeView → List Line → ℕ → Job → Entry → Type 0
EntrySettled hits pipes lines sweeps j e =
    e.also ≡ None → is_unsettled j e.key ≡ false → IfSome e.place (SettledAt hits pipes lines (base_of lines sweeps j e) e)

-- ---- closed connections

-- the Ending packet is of this connection, and was out after the tick, or isn't out
abbrev pub ends_after : KeyView → ℕ → EndingPacket → Bool
ends_after c retired ending = same_key ending.key c && is_out_after retired ending.out

-- an Ending packet of the key that has stored its report and isn't out
abbrev pub IsEnding : KeyView → Stage → Type 0
IsEnding key (Fly f (Judged v last.Out)) = (f.packet.kind ≡ Ending) × (f.packet.key ≡ key)
IsEnding key at = ⊥

-- the connection had an Ending packet since it was last retired
abbrev pub HasEnded : List PipeView → List Line → KeyView → Type 0
HasEnded pipes lines key =
    (list_any (ends_after key (last_retired lines key)) (endings_of lines) ≡ true) ⊎ SomePipe (λ p v. IsEnding key v.stage) pipes

-- a report of the life that is over may still be in a ring: the word at this position isn't behind the drain of its retirement
abbrev pub IsRetiring : LayoutView → Job → KeyView → ℕ → ℕ → Type 0
IsRetiring l (job.Store (store.Empty of place (why.Retired version))) key p i = of ≡ key
IsRetiring l (job.Draw (draw.Cleared of place (why.Retired version))) key p i = of ≡ key
IsRetiring l (job.Draw (draw.Grace (wait.Retire of))) key p i = of ≡ key
IsRetiring l (job.Pass grace pipe (wait.Retire of)) key p i = of ≡ key
IsRetiring l (job.Drain pipe count (wait.Retire of)) key p i = (of ≡ key) × (IsBehind l pipe count p i → ⊥)
IsRetiring l j key p i = ⊥

abbrev pub ClosesHold : LayoutView → (ℕ → ℕ → ℕ) → List RingCount → List PipeView → List Line → Job → Type 0
ClosesHold l ring rings pipes lines j =
    (p i : ℕ) → p < l.shape.pipes → i < l.shape.ring
    → OnReport l (from_place l rings ring p i) (λ w. IfClose w.kind (HasEnded pipes lines w.key ⊎ IsRetiring l j w.key p i))

-- ---- all of it

-- sweeps are counted as the lines tell, each comes no sooner than the idle time after the last one, and a key that is just made live has no
-- quiet sweep yet
pub record SweepsCounted (k : Config) (sweeps swept_ms : ℕ) (entries : List Entry) (j : Job) (lines : List Line) : Type 0 where
  pub idle : OnSwept j (λ ms. swept_ms + k.layout.shape.idle_ms ≤ ms)
  pub last : IsLastSweep sweeps swept_ms (last_sweep lines)
  pub each : (number : ℕ) → 1 ≤ number → number ≤ sweeps → is_some (numbered_sweep lines number) ≡ true
  pub fresh : AllByRecursion (λ e. is_fresh j e.key ≡ true → e.quiet ≡ None) entries

-- a registered key that is marked as closed had an Ending packet, and so had one of a report in a ring, unless its retirement is on
pub record ClosedHold (l : LayoutView) (ring : ℕ → ℕ → ℕ) (rings : List RingCount) (pipes : List PipeView) (entries : List Entry) (j : Job) (lines : List Line) : Type 0 where
  pub closed : AllByRecursion (λ e. e.closed ≡ true → HasEnded pipes lines e.key) entries
  pub closes : ClosesHold l ring rings pipes lines j

pub record SweepsHold (k : Config) (hits : Place → ℕ) (ring : ℕ → ℕ → ℕ) (pipes : List PipeView) (entries : List Entry) (rings : List RingCount) (sweeps swept_ms : ℕ) (j : Job) (lines : List Line) : Type 0 where
  pub counted : SweepsCounted k sweeps swept_ms entries j lines
  pub ended : ClosedHold k.layout ring rings pipes entries j lines
  pub quiet : AllByRecursion (EntryQuiet lines sweeps j) entries
  pub settled : AllByRecursion (EntrySettled hits pipes lines sweeps j) entries
  pub unplaced : AllByRecursion UnplacedFresh entries

pub record InSweeps (s : Core) : Type 0 where
  pub sweeps : SweepsHold s.config (hit_words s.words) (ring_words s.words) s.pipes s.controller.book.entries s.controller.rings
      s.controller.sweeps s.controller.swept_ms s.controller.job (printed s)

-- its first part alone: how sweeps are counted
abbrev pub SweepsAreCounted : Core → Type 0
SweepsAreCounted s =
    SweepsCounted s.config s.controller.sweeps s.controller.swept_ms s.controller.book.entries s.controller.job (printed s)

-- its second part alone: closed connections
abbrev pub ClosedAre : Core → Type 0
ClosedAre s =
    ClosedHold s.config.layout (ring_words s.words) s.controller.rings s.pipes s.controller.book.entries s.controller.job (printed s)

-- its third part alone: quiet entries
abbrev pub QuietAre : Core → Type 0
QuietAre s = AllByRecursion (EntryQuiet (printed s) s.controller.sweeps s.controller.job) s.controller.book.entries

-- its fourth part alone: packets of settled entries
abbrev pub SettledAre : Core → Type 0
SettledAre s =
    AllByRecursion (EntrySettled (hit_words s.words) s.pipes (printed s) s.controller.sweeps s.controller.job) s.controller.book.entries

-- its last part alone: entries that stand nowhere
abbrev pub UnplacedAre : Core → Type 0
UnplacedAre s = AllByRecursion UnplacedFresh s.controller.book.entries
