-- Packets in flight: what a packet has loaded is what the words say, or what they said before a step that the controller still waits with; and what it has
-- chosen follows from what it has loaded.
use Rattle.std.specs.List.{AllByRecursion}
use Rattle.std.specs.Prelude.{◌≡◌, ℕ, ◌+◌, ◌<◌, Bool, true, ◌≢◌, ◌⊎◌, List, ◌∷◌, length, Some}
use Rattle.sr_base.specs.Key.{IsKey, KeyView}
use Rattle.sr_base.specs.Layout.{LayoutView}
use Rattle.sr_base.specs.declared.vip_word.Phase.{Phase}
use Rattle.sr_base.specs.declared.vip_word.Phase.TheVariants.{Steady, Recording, Holding, Transit}
use Rattle.sr_base.specs.declared.vip_word.VipWord.{VipWord}
use Rattle.sr_inv_facts.specs.Doing.{HasEarlier, OnReleased}
use Rattle.sr_inv_facts.specs.Flying.{OnChoice, OnFlight, OnLeg, OnNumber, OnUnmatched}
use Rattle.sr_inv_facts.specs.InUpdate.{is_used}
use Rattle.sr_inv_facts.specs.Readings.{EachPipe, In, bit_words, is_marked, is_set_in}
use Rattle.sr_law.specs.Held.{last_hold, not_finished, not_switched}
use Rattle.sr_law.specs.Pools.{picked, pool_of}
use Rattle.sr_law.specs.declared.line.Line.{Line}
use Rattle.sr_law.specs.declared.verdict.Verdict.{Verdict}
use Rattle.sr_machine.specs.Config.{Config}
use Rattle.sr_machine.specs.Core.{Core, printed}
use Rattle.sr_machine.specs.Deciding.{learned_in, named_at, ring_count, vip_at}
use Rattle.sr_machine.specs.Stages.{is_recorded, key_bits}
use Rattle.sr_machine.specs.declared.flight.Flight.{Flight}
use Rattle.sr_machine.specs.declared.job.Job.{Job}
use Rattle.sr_machine.specs.declared.leg.Last.{Last}
use Rattle.sr_machine.specs.declared.leg.Leg.{Leg}
use Rattle.sr_machine.specs.declared.leg.Leg.TheVariants.{Filter, Chosen, Judged}
use Rattle.sr_machine.specs.declared.leg.Load.{Load}
use Rattle.sr_machine.specs.declared.ring_count.RingCount.{RingCount}
use Rattle.sr_update.specs.declared.number_state.NumberState.{NumberState}
use Rattle.sr_machine.specs.declared.job.Job.TheVariants as job
use Rattle.sr_machine.specs.declared.leg.Last.TheVariants as last
use Rattle.sr_machine.specs.declared.leg.Load.TheVariants as load
use Rattle.sr_machine.specs.declared.store.Store.TheVariants as store
use Rattle.sr_machine.specs.declared.why.Why.TheVariants as why
use Rattle.sr_law.specs.declared.verdict.Verdict.TheVariants as verdict
use Rattle.sr_law.specs.declared.verdict.HeldBy.TheVariants as by

-- ---- the word of its virtual address

-- it is the present one, or the one before a phase that is waited with
abbrev pub HasWord : List VipWord → Job → ℕ → Flight → Type 0
HasWord vips j p f =
    (f.vip ≡ vip_at vips f.packet.key.vip) ⊎ HasEarlier j p f.entered f.packet.key.vip f.vip

-- in Holding, no switch is known since the last Hold line; in Transit, no finish is
abbrev pub WordKnown : List Line → ℕ → ℕ → Phase → Type 0
WordKnown lines vip entered Steady = Unit {0}
WordKnown lines vip entered Recording = Unit {0}
WordKnown lines vip entered Holding = not_switched lines vip entered (last_hold lines vip) ≡ true
WordKnown lines vip entered Transit = not_finished lines vip entered (last_hold lines vip) ≡ true

-- ---- what it has chosen

-- an opener that nothing matched chooses by its word, and never in Holding
abbrev pub ChoosesBy : VipWord → ℕ → Type 0
ChoosesBy w version = (version ≡ learned_in w.phase w.cur w.next) × (w.phase ≢ Holding)

-- one that was held by a phase loaded that phase
abbrev pub HeldIn : Phase → Verdict → Type 0
HeldIn phase (verdict.Held by.Hold) = phase ≡ Holding
HeldIn phase (verdict.Held by.Transit) = phase ≡ Transit
HeldIn phase v = Unit {0}

-- where it was held by the filter, its places are set there
abbrev pub HeldMarked : Bool → Verdict → Type 0
HeldMarked marked (verdict.Held by.Transit) = marked ≡ true
HeldMarked marked v = Unit {0}

-- the pool of a version, its servers, and the one of them that the key's hash picks
pub record HasPool (k : Config) (named : List (List ℕ)) (key : KeyView) (version size number : ℕ) : Type 0 where
  pub pool : List ℕ
  pub there : pool_of k.pools key.vip number ≡ Some pool
  pub names : named_at named key.vip version ≡ number
  pub sized : size ≡ length pool

pub record HasServer (k : Config) (named : List (List ℕ)) (key : KeyView) (version number server : ℕ) : Type 0 where
  pub pool : List ℕ
  pub there : pool_of k.pools key.vip number ≡ Some pool
  pub names : named_at named key.vip version ≡ number
  pub is : server ≡ picked pool key

-- what was loaded of a version is its pool's
abbrev pub LoadTells : Config → List (List ℕ) → KeyView → ℕ → Load → Type 0
LoadTells k named key version load.Head = Unit {0}
LoadTells k named key version (load.Member head) = HasPool k named key version head.size head.pool
LoadTells k named key version (load.Down number server) = HasServer k named key version number server

abbrev pub VerdictTells : Config → List (List ℕ) → KeyView → Verdict → Type 0
VerdictTells k named key (verdict.To server version number) = HasServer k named key version number server
VerdictTells k named key (verdict.Down server version number) = HasServer k named key version number server
VerdictTells k named key v = Unit {0}

abbrev pub LegTells : Config → List (List ℕ) → KeyView → Leg → Type 0
LegTells k named key (Chosen version load) = LoadTells k named key version load
LegTells k named key (Judged v last) = VerdictTells k named key v
LegTells k named key leg = Unit {0}

-- ---- the filter and the ring

-- each of the key's places is still to be looked at, or set
abbrev pub RestSet : LayoutView → (ℕ → ℕ) → KeyView → List ℕ → Type 0
RestSet l bits key rest = AllByRecursion (λ bit. In bit rest ⊎ (is_set_in bits bit ≡ true)) (key_bits l key)

-- an opener that was sent, of a virtual address that said Recording, stores its report once its places are set
abbrev pub PushesMarked : Flight → Verdict → Bool → Type 0
PushesMarked f v marked = is_recorded f v ≡ true → marked ≡ true

abbrev pub LastSet : LayoutView → (ℕ → ℕ) → Flight → Verdict → Last → Type 0
LastSet l bits f v (last.Mark bit rest) = RestSet l bits f.packet.key (bit ∷ rest)
LastSet l bits f v last.Push = PushesMarked f v (is_marked l bits f.packet.key)
LastSet l bits f v last = Unit {0}

abbrev pub LegSet : LayoutView → (ℕ → ℕ) → Flight → Leg → Type 0
LegSet l bits f (Filter bit rest) = RestSet l bits f.packet.key (bit ∷ rest)
LegSet l bits f (Judged v last) = HeldMarked (is_marked l bits f.packet.key) v × LastSet l bits f v last
LegSet l bits f leg = Unit {0}

-- the cell that the next report goes into is empty
abbrev pub LastFree : ℕ → ℕ → ℕ → Last → Type 0
LastFree ring taken pushed (last.Mark bit rest) = pushed < taken + ring
LastFree ring taken pushed last.Push = pushed < taken + ring
LastFree ring taken pushed last = Unit {0}

abbrev pub LegFree : ℕ → ℕ → ℕ → Leg → Type 0
LegFree ring taken pushed (Judged v last) = LastFree ring taken pushed last
LegFree ring taken pushed leg = Unit {0}

abbrev pub LegHeldIn : Phase → Leg → Type 0
LegHeldIn phase (Judged v last) = HeldIn phase v
LegHeldIn phase leg = Unit {0}

-- ---- a connection that is over

-- of its key, while its place is still to be emptied
abbrev pub OnOver : Job → (KeyView → Type 0) → Type 0
OnOver (job.Store (store.Empty key place (why.Retired version))) P = P key
OnOver j P = Unit {0}

-- ---- all of it

-- of a packet in flight, by what it reads
pub record LegHolds (k : Config) (bits : ℕ → ℕ) (named : List (List ℕ)) (numbers : List (List NumberState)) (rings : List RingCount) (j : Job) (p pushed : ℕ) (f : Flight) (leg : Leg) : Type 0 where
  pub choice : OnUnmatched f leg (λ looks. OnChoice leg (ChoosesBy f.vip))
  pub held : LegHeldIn f.vip.phase leg
  pub set : LegSet k.layout bits f leg
  pub server : LegTells k named f.packet.key leg
  pub cell : LegFree k.layout.shape.ring (ring_count rings p).words pushed leg
  pub used : OnNumber leg (λ version. is_used numbers f.packet.key.vip version ≡ true)
  pub release : OnReleased j p f.entered (λ vip version. f.packet.key.vip ≡ vip → OnNumber leg (λ n. n ≢ version))

pub record FlightHolds (vips : List VipWord) (j : Job) (lines : List Line) (p : ℕ) (f : Flight) : Type 0 where
  pub word : HasWord vips j p f
  pub known : WordKnown lines f.packet.key.vip f.entered f.vip.phase

pub record InFlight (s : Core) : Type 0 where
  pub flights : EachPipe (λ p v. OnFlight v.stage (FlightHolds s.controller.vips s.controller.job (printed s) p)) s.pipes
  pub legs : EachPipe (λ p v. OnLeg v.stage
      (LegHolds s.config (bit_words s.words) s.controller.named s.controller.numbers s.controller.rings s.controller.job p v.pushed)) s.pipes
  pub over : OnOver s.controller.job IsKey

-- ---- parts of it that stand alone

-- each packet in flight has loaded the present word of its virtual address, or the one before a phase that is waited with
abbrev pub WordsLoaded : Core → Type 0
WordsLoaded s = EachPipe (λ p v. OnFlight v.stage (HasWord s.controller.vips s.controller.job p)) s.pipes

-- what a packet has chosen, and why it was held, by the word that it loaded
pub record Chooses (f : Flight) (leg : Leg) : Type 0 where
  pub choice : OnUnmatched f leg (λ looks. OnChoice leg (ChoosesBy f.vip))
  pub held : LegHeldIn f.vip.phase leg

abbrev pub ChoicesHold : Core → Type 0
ChoicesHold s = EachPipe (λ p v. OnLeg v.stage Chooses) s.pipes

-- the filter as far as a packet has looked at it, or has recorded itself there
abbrev pub FiltersSet : Core → Type 0
FiltersSet s = EachPipe (λ p v. OnLeg v.stage (LegSet s.config.layout (bit_words s.words))) s.pipes

-- what a packet has loaded of its version is its pool's
abbrev pub ServersTold : Core → Type 0
ServersTold s = EachPipe (λ p v. OnLeg v.stage (λ f leg. LegTells s.config s.controller.named f.packet.key leg)) s.pipes

-- a packet that has found its cell empty has a cell to store its report in
abbrev pub CellsFree : Core → Type 0
CellsFree s =
    EachPipe (λ p v. OnLeg v.stage (λ f leg. LegFree s.config.layout.shape.ring (ring_count s.controller.rings p).words v.pushed leg)) s.pipes

-- the version that a packet has chosen or found is in use
abbrev pub NumbersUsed : Core → Type 0
NumbersUsed s =
    EachPipe (λ p v. OnLeg v.stage (λ f leg. OnNumber leg (λ version. is_used s.controller.numbers f.packet.key.vip version ≡ true))) s.pipes

-- no packet of a pipe that a release has passed has chosen the version that is released
abbrev pub Unreleased : Job → ℕ → Flight → Leg → Type 0
Unreleased j p f leg = OnReleased j p f.entered (λ vip version. f.packet.key.vip ≡ vip → OnNumber leg (λ n. n ≢ version))

abbrev pub ReleasesPassed : Core → Type 0
ReleasesPassed s = EachPipe (λ p v. OnLeg v.stage (Unreleased s.controller.job p)) s.pipes

-- a packet that loaded Holding or Transit entered before the line that ends it, if that is out
abbrev pub PhasesKnown : Core → Type 0
PhasesKnown s = EachPipe (λ p v. OnFlight v.stage (λ f. WordKnown (printed s) f.packet.key.vip f.entered f.vip.phase)) s.pipes

-- the key of a connection that is over is one, while its place is still to be emptied
abbrev pub OverKeyed : Core → Type 0
OverKeyed s = OnOver s.controller.job IsKey
