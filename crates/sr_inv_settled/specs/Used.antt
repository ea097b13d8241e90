-- Since when a connection was used: an entry that wasn't quiet for long was placed lately, or a packet of its key or of a clashing one passed lately; and what
-- a packet finds at a place is an entry that its key is taken for.
use Rattle.std.specs.List.{AllByRecursion, list_any}
use Rattle.std.specs.Prelude.{◌≡◌, ℕ, ◌+◌, ◌<◌, ◌≤◌, Bool, true, false, ◌||◌, ◌⊎◌, List, [], ◌∷◌, IfSome, if◌then◌else◌, Some, None, Option}
use Rattle.sr_base.specs.Key.{KeyView, same_key}
use Rattle.sr_base.specs.Place.{same_place}
use Rattle.sr_base.specs.declared.place.Place.{Place}
use Rattle.sr_base.specs.declared.shape.Shape.{Shape}
use Rattle.sr_inv_facts.specs.Doing.{MissedReserved, OnReserved}
use Rattle.sr_inv_facts.specs.Flying.{OnLeg}
use Rattle.sr_inv_facts.specs.InSweeps.{rounds, sweep_from}
use Rattle.sr_inv_facts.specs.Readings.{EachPipe, In, SomePipe, hit_words}
use Rattle.sr_law.specs.Keys.{clashes_in}
use Rattle.sr_law.specs.Settled.{uses_after}
use Rattle.sr_law.specs.declared.line.Line.{Line}
use Rattle.sr_machine.specs.Core.{Core, printed}
use Rattle.sr_machine.specs.declared.flight.Flight.{Flight}
use Rattle.sr_machine.specs.declared.job.Job.{Job}
use Rattle.sr_machine.specs.declared.leg.Leg.{Leg}
use Rattle.sr_machine.specs.declared.leg.Leg.TheVariants.{Hit}
use Rattle.sr_machine.specs.declared.pipe_view.PipeView.{PipeView}
use Rattle.sr_machine.specs.declared.stage.Stage.{Stage}
use Rattle.sr_machine.specs.declared.stage.Stage.TheVariants.{Fly}
use Rattle.sr_shadow.specs.declared.entry.Entry.{Entry}
use Rattle.sr_law.specs.declared.line.Line.TheVariants as line
use Rattle.sr_machine.specs.declared.draw.Draw.TheVariants as draw
use Rattle.sr_machine.specs.declared.job.Job.TheVariants as job

-- ---- what a packet has found

-- the other key is this one, or clashes with it in a way
abbrev pub is_related : Shape → KeyView → KeyView → Bool
is_related shape c key = same_key key c || (clashes_in shape 1 key c || clashes_in shape 2 key c)

-- of a packet that has found an entry and is about to leave a hit there
abbrev pub OnHit : Leg → (Place → Type 0) → Type 0
OnHit (Hit place version) P = P place
OnHit leg P = Unit {0}

-- an entry that stands there is one that the packet's key is taken for; and the place isn't reserved, unless the packet may have been there before
pub record FoundAt (shape : Shape) (entries : List Entry) (j : Job) (p : ℕ) (f : Flight) (place : Place) : Type 0 where
  pub own : (e : Entry) → In e entries → e.place ≡ Some place → is_related shape e.key f.packet.key ≡ true
  pub open_so : OnReserved j (λ q. q.place ≡ place → MissedReserved j p f.entered place)

abbrev pub StageFound : Shape → List Entry → Job → ℕ → Stage → Type 0
StageFound shape entries j p at = OnLeg at (λ f leg. OnHit leg (FoundAt shape entries j p f))

abbrev pub FoundKept : Core → Type 0
FoundKept s =
    EachPipe (λ p v. StageFound s.config.layout.shape s.controller.book.entries s.controller.job p v.stage) s.pipes

-- ---- when an entry was placed

-- the tick at which an entry was placed there, if the place wasn't cleared since
abbrev pub stood_by : Line → Place → Option ℕ → Option ℕ
stood_by (line.Placed out key at) place older = if same_place at place then Some out else older
stood_by (line.Cleared out key at) place older = if same_place at place then None else older
stood_by l place older = older

abbrev pub stood : List Line → Place → Option ℕ
stood [] place = None
stood (l ∷ before) place = stood_by l place (stood before place)

-- an entry was placed there after the tick
pub record IsPlacedAfter (lines : List Line) (place : Place) (tick : ℕ) : Type 0 where
  pub out : ℕ
  pub placed : stood lines place ≡ Some out
  pub later : tick < out

-- ---- when it was used

-- a packet of a related key is under way
abbrev pub IsFlyingFor : Shape → KeyView → Stage → Type 0
IsFlyingFor shape c (Fly f leg) = is_related shape c f.packet.key ≡ true
IsFlyingFor shape c at = ⊥

-- one was out after the tick, or will be
abbrev pub IsUsed : Shape → List PipeView → List Line → KeyView → ℕ → Type 0
IsUsed shape pipes lines key tick =
    (list_any (uses_after shape key tick) lines ≡ true) ⊎ SomePipe (λ p v. IsFlyingFor shape key v.stage) pipes

-- the entry was placed, or used, after the sweep of this number began
abbrev pub IsSince : Shape → List PipeView → List Line → ℕ → Job → KeyView → Place → ℕ → Type 0
IsSince shape pipes lines sweeps j key place number =
    (from : ℕ) → sweep_from lines sweeps j number ≡ Some from
    → IsPlacedAfter lines place from ⊎ IsUsed shape pipes lines key from

-- the sweeps that went by an entry before those that found it quiet; where so many were quiet that they aren't counted, nothing is said
abbrev pub IsCovered : Option ℕ → ℕ → ℕ → Type 0
IsCovered None gone number = number ≤ gone
IsCovered (Some quiet) gone number = (quiet < 255) × (number + quiet < gone)

-- since all of these it was placed or used; and where its place was hit, since each that went by it
pub record UsedAt (shape : Shape) (hits : Place → ℕ) (pipes : List PipeView) (lines : List Line) (sweeps : ℕ) (j : Job) (key : KeyView) (quiet : Option ℕ) (gone : ℕ) (place : Place) : Type 0 where
  pub long : (number : ℕ) → IsCovered quiet gone number → IsSince shape pipes lines sweeps j key place number
  pub hit : hits place ≡ 1 → (number : ℕ) → number ≤ gone → IsSince shape pipes lines sweeps j key place number

-- a key whose Placed line is about to be drawn
abbrev pub is_untold : Job → KeyView → Bool
is_untold (job.Draw (draw.Placed p)) key = same_key p.key key
is_untold j key = false

abbrev pub EntryUsed : Shape → (Place → ℕ) → List PipeView → List Line → ℕ → Job → Entry → Type 0
EntryUsed shape hits pipes lines sweeps j e =
    is_untold j e.key ≡ false → IfSome e.place (UsedAt shape hits pipes lines sweeps j e.key e.quiet (rounds sweeps j e.taken))

abbrev pub UsedKept : Core → Type 0
UsedKept s =
    AllByRecursion (EntryUsed s.config.layout.shape (hit_words s.words) s.pipes (printed s) s.controller.sweeps s.controller.job) s.controller.book.entries

-- both facts, of which the first serves the second
pub record UsesAreTold (s : Core) : Type 0 where
  pub found : FoundKept s
  pub used : UsedKept s
