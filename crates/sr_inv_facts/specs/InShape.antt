-- Shape: everything is in its range. What a packet in flight has loaded is of the layout, what it is still to do is a part of what its key
-- asks for, and its verdict is one that its kind may have where it is; the controller's lists have their lengths, its entries differ and
-- stand at places of their keys, and what it is still to change is an end of its changes.
use Rattle.std.specs.List.{AllByRecursion}
use Rattle.std.specs.Prelude.{◌≡◌, ℕ, ◌<◌, ◌≤◌, true, List, [], ◌∷◌, ◌++◌, map, length, IfSome, Option}
use Rattle.sr_base.specs.Key.{IsKey, KeyView}
use Rattle.sr_base.specs.Layout.{LayoutView}
use Rattle.sr_base.specs.VipWord.{NextFits}
use Rattle.sr_base.specs.declared.kind.Kind.{Kind}
use Rattle.sr_base.specs.declared.kind.Kind.TheVariants.{Opener, Ending}
use Rattle.sr_base.specs.declared.packet.Packet.{Packet}
use Rattle.sr_base.specs.declared.place.Place.{Place}
use Rattle.sr_base.specs.declared.shape.Shape.{Shape}
use Rattle.sr_base.specs.declared.vip_word.Phase.TheVariants.{Steady, Recording, Holding, Transit}
use Rattle.sr_base.specs.declared.vip_word.VipWord.{VipWord}
use Rattle.sr_hash.specs.Uses.{is_place_of}
use Rattle.sr_inv_facts.specs.Fitted.{IsFitted}
use Rattle.sr_inv_facts.specs.Readings.{EachPipe, In, IsEnd}
use Rattle.sr_law.specs.declared.verdict.Verdict.{Verdict}
use Rattle.sr_machine.specs.Config.{Config}
use Rattle.sr_machine.specs.Core.{Core}
use Rattle.sr_machine.specs.Opening.{outages_in}
use Rattle.sr_machine.specs.Stages.{is_to, key_bits, key_places}
use Rattle.sr_machine.specs.declared.controller_view.ControllerView.{ControllerView}
use Rattle.sr_machine.specs.declared.flight.Flight.{Flight}
use Rattle.sr_machine.specs.declared.held_opener.HeldOpener.{HeldOpener}
use Rattle.sr_machine.specs.declared.job.Job.{Job}
use Rattle.sr_machine.specs.declared.leg.Last.{Last}
use Rattle.sr_machine.specs.declared.leg.Leg.{Leg}
use Rattle.sr_machine.specs.declared.leg.Leg.TheVariants.{Look, Hit, Filter, Chosen, Judged}
use Rattle.sr_machine.specs.declared.leg.Load.{Load}
use Rattle.sr_machine.specs.declared.outage.Outage.{Outage}
use Rattle.sr_machine.specs.declared.pipe_view.PipeView.{PipeView}
use Rattle.sr_machine.specs.declared.stage.Stage.{Stage}
use Rattle.sr_machine.specs.declared.stage.Stage.TheVariants.{Idle, Enter, Note, Vip, Fly, Leave}
use Rattle.sr_machine.specs.declared.wait.Wait.{Wait}
use Rattle.sr_shadow.specs.Book.{DistinctKeys, TakenFrom}
use Rattle.sr_shadow.specs.declared.book.Book.{Book}
use Rattle.sr_shadow.specs.declared.entry.Entry.{Entry}
use Rattle.sr_update.specs.Updates.{gives_after}
use Rattle.sr_machine.specs.declared.draw.Draw.TheVariants as draw
use Rattle.sr_machine.specs.declared.store.Store.TheVariants as store
use Rattle.sr_machine.specs.declared.wait.Wait.TheVariants as wait
use Rattle.sr_machine.specs.declared.why.Why.TheVariants as why
use Rattle.sr_machine.specs.declared.job.Job.TheVariants as job
use Rattle.sr_machine.specs.declared.leg.Last.TheVariants as last
use Rattle.sr_machine.specs.declared.leg.Load.TheVariants as load
use Rattle.sr_law.specs.declared.verdict.Verdict.TheVariants as verdict

-- ---- a packet

-- its key is one, and its virtual address is of the layout
pub record PacketFits (l : LayoutView) (packet : Packet) : Type 0 where
  pub key : IsKey packet.key
  pub vip : packet.key.vip < l.vips

-- the word that it loaded names versions of the layout, and in Steady one alone
pub record WordFits (l : LayoutView) (w : VipWord) : Type 0 where
  pub cur : w.cur < l.shape.versions
  pub next : w.next < l.shape.versions
  pub fits : NextFits w.phase w.cur w.next

pub record FlightFits (l : LayoutView) (f : Flight) : Type 0 where
  pub packet : PacketFits l f.packet
  pub word : WordFits l f.vip

-- ---- how far it has come

-- a server that was loaded is of the layout
abbrev pub LoadFits : LayoutView → Load → Type 0
LoadFits l load.Head = Unit {0}
LoadFits l (load.Member head) = Unit {0}
LoadFits l (load.Down pool server) = server < l.servers

-- so are the server and the version of a verdict
abbrev pub VerdictFits : LayoutView → Verdict → Type 0
VerdictFits l (verdict.To server version pool) = (server < l.servers) × (version < l.shape.versions)
VerdictFits l (verdict.Down server version pool) = (server < l.servers) × (version < l.shape.versions)
VerdictFits l v = Unit {0}

-- which packets have something to report: openers that were sent or held, and Ending ones with a server
abbrev pub MayReport : Kind → Verdict → Type 0
MayReport Opener (verdict.To server version pool) = Unit {0}
MayReport Opener (verdict.Held why) = Unit {0}
MayReport Ending (verdict.To server version pool) = Unit {0}
MayReport Ending (verdict.Down server version pool) = Unit {0}
MayReport kind v = ⊥

-- which verdicts a line may have: an opener's any but the controller's own, another packet's names a server
abbrev pub MayBeOut : Kind → Verdict → Type 0
MayBeOut kind (verdict.To server version pool) = Unit {0}
MayBeOut kind (verdict.Down server version pool) = Unit {0}
MayBeOut Opener (verdict.Held why) = Unit {0}
MayBeOut Opener verdict.Full = Unit {0}
MayBeOut kind v = ⊥

-- an opener that is recorded was sent, loaded Recording, and is still to set an end of its key's places
pub record MarkFits (l : LayoutView) (f : Flight) (v : Verdict) (bits : List ℕ) : Type 0 where
  pub opener : f.packet.kind ≡ Opener
  pub sent : is_to v ≡ true
  pub recording : f.vip.phase ≡ Recording
  pub end : IsEnd bits (key_bits l f.packet.key)

abbrev pub LastFits : LayoutView → Flight → Verdict → Last → Type 0
LastFits l f v last.Ring = MayReport f.packet.kind v
LastFits l f v (last.Mark bit rest) = MarkFits l f v (bit ∷ rest)
LastFits l f v last.Push = MayReport f.packet.kind v
LastFits l f v last.Out = MayBeOut f.packet.kind v

-- one that found an entry found it at a place of its key
pub record HitFits (l : LayoutView) (f : Flight) (place : Place) (version : ℕ) : Type 0 where
  pub own : In place (key_places l f.packet.key)
  pub below : version < l.shape.versions

-- one that looks at the filter loaded Transit
pub record FilterFits (l : LayoutView) (f : Flight) (bits : List ℕ) : Type 0 where
  pub transit : f.vip.phase ≡ Transit
  pub end : IsEnd bits (key_bits l f.packet.key)

abbrev pub LegFits : LayoutView → Flight → Leg → Type 0
LegFits l f (Look place rest) = IsEnd (place ∷ rest) (key_places l f.packet.key)
LegFits l f (Hit place version) = HitFits l f place version
LegFits l f (Filter bit rest) = FilterFits l f (bit ∷ rest)
LegFits l f (Chosen version load) = (version < l.shape.versions) × LoadFits l load
LegFits l f (Judged v last) = VerdictFits l v × LastFits l f v last

abbrev pub StageFits : LayoutView → Stage → Type 0
StageFits l Idle = Unit {0}
StageFits l (Enter packet) = PacketFits l packet
StageFits l (Note packet entered) = PacketFits l packet
StageFits l (Vip packet entered) = PacketFits l packet
StageFits l (Fly f leg) = FlightFits l f × LegFits l f leg
StageFits l (Leave f) = FlightFits l f

-- each pipe knows its number, and what its packet has loaded is in range
pub record PipesFit (l : LayoutView) (pipes : List PipeView) : Type 0 where
  pub count : length pipes ≡ l.shape.pipes
  pub number : EachPipe (λ p v. v.number ≡ p) pipes
  pub stage : EachPipe (λ p v. StageFits l v.stage) pipes

-- ---- the book

-- an entry's place is one of its key, and so is the one that it is about to leave
abbrev pub PlaceFits : Shape → KeyView → Option Place → Type 0
PlaceFits shape key place = IfSome place (λ p. is_place_of shape key p ≡ true)

pub record EntryFits (l : LayoutView) (e : Entry) : Type 0 where
  pub key : IsKey e.key
  pub vip : e.key.vip < l.vips
  pub version : e.version < l.shape.versions
  pub place : PlaceFits l.shape e.key e.place
  pub also : PlaceFits l.shape e.key e.also

-- entries are of different keys, and numbered in the order in which they were taken
pub record BookFits (l : LayoutView) (book : Book) : Type 0 where
  pub entries : AllByRecursion (EntryFits l) book.entries
  pub distinct : DistinctKeys book.entries
  pub rising : TakenFrom 0 book.entries book.taken

-- ---- the controller

-- a held opener is of a pipe and a key of the layout
pub record OpenerFits (l : LayoutView) (h : HeldOpener) : Type 0 where
  pub pipe : h.pipe < l.shape.pipes
  pub key : IsKey h.key
  pub vip : h.key.vip < l.vips

-- a list has a row of so many for each virtual address
pub record RowsFit {X : Type 0} (l : LayoutView) (rows : List (List X)) : Type 0 where
  pub count : length rows ≡ l.vips
  pub each : AllByRecursion (λ row. length row ≡ l.shape.versions) rows

-- the servers of some outages, in order
abbrev pub servers_of : List Outage → List ℕ
servers_of outages = map (λ o. o.server) outages

-- the server whose line the controller is about to draw
abbrev pub downing : Job → List ℕ
downing (job.Draw (draw.TakenDown server)) = server ∷ []
downing j = []

-- a wait after whose graces rings are drained: all but those for Holding and Steady
abbrev pub MayDrain : Wait → Type 0
MayDrain (wait.Comes u Steady) = ⊥
MayDrain (wait.Comes u Holding) = ⊥
MayDrain w = Unit {0}

-- a job's pipe and count are in range, and what was given up isn't emptied again
abbrev pub JobFits : LayoutView → Job → Type 0
JobFits l (job.Pass grace pipe w) = pipe < l.shape.pipes
JobFits l (job.Drain pipe count w) = (pipe < l.shape.pipes) × (count < l.shape.ring) × MayDrain w
JobFits l (job.Look pipe) = pipe < l.shape.pipes
JobFits l (job.Store (store.Empty key place (why.Withdrawn reply))) = ⊥
JobFits l j = Unit {0}

pub record ControllerFits (k : Config) (c : ControllerView) : Type 0 where
  pub vips : length c.vips ≡ k.layout.vips
  pub words : AllByRecursion (WordFits k.layout) c.vips
  pub numbers : RowsFit k.layout c.numbers
  pub named : RowsFit k.layout c.named
  pub rings : length c.rings ≡ k.layout.shape.pipes
  pub held : AllByRecursion (OpenerFits k.layout) c.held
  pub mark : c.mark ≤ c.book.taken
  pub gives : IsEnd c.gives (gives_after [] k.changes)
  pub outages : servers_of (outages_in k.changes) ≡ (c.down ++ downing c.job) ++ servers_of c.outages
  pub job : JobFits k.layout c.job

pub record InShape (s : Core) : Type 0 where
  pub config : IsFitted s.config
  pub pipes : PipesFit s.config.layout s.pipes
  pub book : BookFits s.config.layout s.controller.book
  pub controller : ControllerFits s.config s.controller
