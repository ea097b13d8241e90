-- What stage a pipe's own representation stands for, and what it keeps in range.
use Rattle.std.specs.Prelude.{◌≡◌, ℕ, ◌+◌, ◌<◌, ◌≤◌, List, [], ◌∷◌, drop, length, slice_index, slice_index_or}
use Rattle.sr_base.specs.Layout.{LayoutView}
use Rattle.sr_base.specs.WordName.{HasPlace}
use Rattle.sr_base.specs.declared.place.Place.{Place}
use Rattle.sr_base.specs.declared.place.Place.TheVariants as place
use Rattle.sr_base.specs.declared.shape.Shape.{Shape}
use Rattle.sr_machine.specs.declared.flight.Flight.{Flight}
use Rattle.sr_machine.specs.declared.leg.Last.TheVariants as last
use Rattle.sr_machine.specs.declared.leg.Leg.{Leg}
use Rattle.sr_machine.specs.declared.leg.Leg.TheVariants as leg
use Rattle.sr_machine.specs.declared.leg.Load.TheVariants as load
use Rattle.sr_machine.specs.declared.stage.Stage.{Stage}
use Rattle.sr_machine.specs.declared.stage.Stage.TheVariants as stage
use Rattle.sr_core.specs.declared.track.Course.{Course}
use Rattle.sr_core.specs.declared.track.Course.TheVariants.{Look, Hit, Filter, Head, Member, Down, Ring, Mark, Push, Out}
use Rattle.sr_core.specs.declared.track.Track.{Track}
use Rattle.sr_core.specs.declared.track.Track.TheVariants as track

-- ---- what it stands for

-- the place at a position, and those after it
abbrev pub place_at : List Place → ℕ → Place
place_at places at = slice_index_or places at (place.Slot 0 0 0)

abbrev pub leg_of : Course → Leg
leg_of (Look places at) = leg.Look (place_at places at) (drop (at + 1) places)
leg_of (Hit place version) = leg.Hit place version
leg_of (Filter bits at) = leg.Filter (slice_index bits at) (drop (at + 1) bits)
leg_of (Head version) = leg.Chosen version load.Head
leg_of (Member version head) = leg.Chosen version (load.Member head)
leg_of (Down version pool server) = leg.Chosen version (load.Down pool server)
leg_of (Ring verdict) = leg.Judged verdict last.Ring
leg_of (Mark verdict bits at) = leg.Judged verdict (last.Mark (slice_index bits at) (drop (at + 1) bits))
leg_of (Push verdict) = leg.Judged verdict last.Push
leg_of (Out verdict) = leg.Judged verdict last.Out

abbrev pub stage_of : Track → Stage
stage_of track.Idle = stage.Idle
stage_of (track.Enter packet) = stage.Enter packet
stage_of (track.Note packet entered) = stage.Note packet entered
stage_of (track.Vip packet entered) = stage.Vip packet entered
stage_of (track.Fly flight course) = stage.Fly flight (leg_of course)
stage_of (track.Leave flight) = stage.Leave flight

-- ---- ranges

-- the tables have each of these places
abbrev pub HavePlaces : Shape → List Place → Type 0
HavePlaces s [] = Unit {0}
HavePlaces s (place ∷ rest) = HasPlace s place × HavePlaces s rest

-- the filter has each of these
abbrev pub HaveBits : Shape → List ℕ → Type 0
HaveBits s [] = Unit {0}
HaveBits s (bit ∷ rest) = (bit < s.filter_bits) × HaveBits s rest

abbrev pub FitsCourse : LayoutView → Course → Type 0
FitsCourse l (Look places at) = (at < 12) × (length places ≡ 12) × HavePlaces l.shape places
FitsCourse l (Hit place version) = HasPlace l.shape place × (version < l.shape.versions)
FitsCourse l (Filter bits at) = (at < 3) × (length bits ≡ 3) × HaveBits l.shape bits
FitsCourse l (Head version) = version < l.shape.versions
FitsCourse l (Member version head) = (version < l.shape.versions) × (1 ≤ head.size) × (head.size ≤ l.shape.pool_max)
FitsCourse l (Down version pool server) = (version < l.shape.versions) × (server < l.servers)
FitsCourse l (Ring verdict) = Unit {0}
FitsCourse l (Mark verdict bits at) = (at < 3) × (length bits ≡ 3) × HaveBits l.shape bits
FitsCourse l (Push verdict) = Unit {0}
FitsCourse l (Out verdict) = Unit {0}

-- the packet's virtual address, and the versions that its word told, are the layout's
pub record FitsFlight (l : LayoutView) (f : Flight) : Type 0 where
  pub vip : f.packet.key.vip < l.vips
  pub cur : f.vip.cur < l.shape.versions
  pub next : f.vip.next < l.shape.versions

abbrev pub FitsTrack : LayoutView → Track → Type 0
FitsTrack l track.Idle = Unit {0}
FitsTrack l (track.Enter packet) = packet.key.vip < l.vips
FitsTrack l (track.Note packet entered) = packet.key.vip < l.vips
FitsTrack l (track.Vip packet entered) = packet.key.vip < l.vips
FitsTrack l (track.Fly flight course) = FitsFlight l flight × FitsCourse l course
FitsTrack l (track.Leave flight) = Unit {0}
