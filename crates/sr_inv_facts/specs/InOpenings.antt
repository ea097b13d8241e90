-- Openings: a connection is open exactly where an opener of it was sent to a server by the version that the controller registers, or is about to.
use Rattle.std.specs.List.{AllByRecursion}
use Rattle.std.specs.Prelude.{◌≡◌, ℕ, true, false, ◌≢◌, ◌⊎◌, List, IfSome, Some, None, Option}
use Rattle.sr_base.specs.Key.{KeyView}
use Rattle.sr_base.specs.Layout.{LayoutView}
use Rattle.sr_base.specs.declared.kind.Kind.{Kind}
use Rattle.sr_base.specs.declared.kind.Kind.TheVariants.{Opener}
use Rattle.sr_base.specs.declared.vip_word.VipWord.{VipWord}
use Rattle.sr_inv_facts.specs.Doing.{OnAnswer}
use Rattle.sr_inv_facts.specs.Flying.{BeforePush, IfOpener, OnLeg, OnTo, SomeLeaving}
use Rattle.sr_inv_facts.specs.Readings.{EachLearn, EachPipe, SomeLearn, ring_words}
use Rattle.sr_law.specs.Opening.{opening}
use Rattle.sr_law.specs.declared.line.Line.{Line}
use Rattle.sr_law.specs.declared.opening.Opening.{Opening}
use Rattle.sr_law.specs.declared.verdict.Verdict.{Verdict}
use Rattle.sr_machine.specs.Config.{Config}
use Rattle.sr_machine.specs.Core.{Core, printed}
use Rattle.sr_machine.specs.Deciding.{learned, is_down, named_at, server_for}
use Rattle.sr_machine.specs.declared.flight.Flight.{Flight}
use Rattle.sr_machine.specs.declared.job.Job.{Job}
use Rattle.sr_machine.specs.declared.leg.Last.{Last}
use Rattle.sr_machine.specs.declared.leg.Leg.{Leg}
use Rattle.sr_machine.specs.declared.leg.Leg.TheVariants.{Judged}
use Rattle.sr_machine.specs.declared.pipe_view.PipeView.{PipeView}
use Rattle.sr_machine.specs.declared.put.Aim.{Aim}
use Rattle.sr_machine.specs.declared.put.Put.{Put}
use Rattle.sr_machine.specs.declared.reply.Reply.{Reply}
use Rattle.sr_machine.specs.declared.wait.Wait.{Wait}
use Rattle.sr_shadow.specs.Book.{entry_for, is_registered}
use Rattle.sr_shadow.specs.Entry.{is_pending, is_placed}
use Rattle.sr_shadow.specs.declared.entry.Entry.{Entry}
use Rattle.sr_machine.specs.declared.draw.Draw.TheVariants as draw
use Rattle.sr_machine.specs.declared.wait.Wait.TheVariants as wait
use Rattle.sr_machine.specs.declared.put.Aim.TheVariants as aim
use Rattle.sr_machine.specs.declared.job.Job.TheVariants as job
use Rattle.sr_machine.specs.declared.leg.Last.TheVariants as last
use Rattle.sr_law.specs.declared.verdict.Verdict.TheVariants as verdict

-- the key is registered with this version
abbrev pub IsRegisteredWith : List Entry → KeyView → ℕ → Type 0
IsRegisteredWith entries key version = (e : Entry) × (entry_for key entries ≡ Some e) × (e.version ≡ version)

-- the connection is open with this version
abbrev pub IsOpenWith : List Line → KeyView → ℕ → Type 0
IsOpenWith lines key version = (o : Opening) × (opening lines key ≡ Some o) × (o.version ≡ version)

-- an opener that was sent and isn't out has its report in a ring, or its key is registered
abbrev pub IsPushed : LayoutView → (ℕ → ℕ → ℕ) → List Entry → KeyView → Kind → Verdict → Last → Type 0
IsPushed l ring entries key Opener (verdict.To server version pool) last.Out =
    SomeLearn l ring key version ⊎ IsRegisteredWith entries key version
IsPushed l ring entries key kind v at = Unit {0}

abbrev pub LegPushed : LayoutView → (ℕ → ℕ → ℕ) → List Entry → Flight → Leg → Type 0
LegPushed l ring entries f (Judged v at) = IsPushed l ring entries f.packet.key f.packet.kind v at
LegPushed l ring entries f leg = Unit {0}

-- what was learned is what the connection was opened with, or what an opener that isn't out yet is sent by
abbrev pub IsLearned : List Line → List PipeView → KeyView → ℕ → Type 0
IsLearned lines pipes key version =
    IsOpenWith lines key version ⊎ ((opening lines key ≡ None) × SomeLeaving pipes key version)

-- ---- a registered key that isn't open

-- the held opener of the key is about to be sent by this version
abbrev pub AimsAt : KeyView → Put → Aim → Type 0
AimsAt key p (aim.Held h) = p.key ≡ key
AimsAt key p a = ⊥

abbrev pub LivesFor : KeyView → Wait → Type 0
LivesFor key (wait.Live p) = AimsAt key p p.aim
LivesFor key w = ⊥

abbrev pub IsAwaited : Job → KeyView → Type 0
IsAwaited (job.Draw (draw.Placed p)) key = AimsAt key p p.aim
IsAwaited (job.Draw (draw.Grace w)) key = LivesFor key w
IsAwaited (job.Pass grace pipe w) key = LivesFor key w
IsAwaited (job.Drain pipe count w) key = LivesFor key w
IsAwaited (job.Draw (draw.Answer r)) key = r.held.key ≡ key
IsAwaited j key = ⊥

-- a held opener's key was registered as its entry was made live: the version is the one that is learned, and its server isn't
-- down
pub record IsToBeAnswered (k : Config) (vips : List VipWord) (named : List (List ℕ)) (down : List ℕ) (j : Job) (e : Entry) : Type 0 where
  pub placed : is_placed e ≡ true
  pub awaited : IsAwaited j e.key
  pub newest : e.version ≡ learned vips e.key.vip
  pub up : is_down down (server_for k named e.key e.version) ≡ false

-- its opener isn't out yet, or is held and about to be answered
abbrev pub IsUnopened : Config → List VipWord → List (List ℕ) → List ℕ → Job → List PipeView → Entry → Type 0
IsUnopened k vips named down j pipes e = ((is_pending e ≡ true) × SomeLeaving pipes e.key e.version) ⊎ IsToBeAnswered k vips named down j e

-- the opening has the entry's version, and the pool that it names
pub record OpenedAs (named : List (List ℕ)) (e : Entry) (o : Opening) : Type 0 where
  pub version : o.version ≡ e.version
  pub pool : o.pool ≡ named_at named e.key.vip e.version

abbrev pub EntryOpened : Config → List VipWord → List (List ℕ) → List ℕ → Job → List PipeView → Entry → Option Opening → Type 0
EntryOpened k vips named down j pipes e None = IsUnopened k vips named down j pipes e
EntryOpened k vips named down j pipes e (Some o) = OpenedAs named e o

-- ---- a key that is open and isn't registered

-- its report is in a ring
abbrev pub IsReported : LayoutView → (ℕ → ℕ → ℕ) → List (List ℕ) → KeyView → Option Opening → Type 0
IsReported l ring named key None = Unit {0}
IsReported l ring named key (Some o) = SomeLearn l ring key o.version × (o.pool ≡ named_at named key.vip o.version)

-- ---- a key whose server is down

-- an opener of the key that was sent hasn't stored its report
abbrev pub IsSilent : KeyView → Flight → Leg → Type 0
IsSilent key f (Judged v at) = IfOpener f.packet.kind (f.packet.key ≡ key → BeforePush at (OnTo v (λ version. ⊥)))
IsSilent key f leg = Unit {0}

-- no report of a key that is to be answered Down is in a ring, and none is about to be stored
pub record NothingLearned (l : LayoutView) (ring : ℕ → ℕ → ℕ) (pipes : List PipeView) (key : KeyView) : Type 0 where
  pub ring_free : EachLearn l ring (λ other version. other ≢ key)
  pub pipes_free : EachPipe (λ p v. OnLeg v.stage (IsSilent key)) pipes

abbrev pub IfUnregistered : List Entry → Reply → Type 0 → Type 0
IfUnregistered entries r P = is_registered r.held.key entries ≡ false → IfSome r.version (λ version. P)

-- ---- all of it

pub record OpeningsHold (k : Config) (ring : ℕ → ℕ → ℕ) (pipes : List PipeView) (entries : List Entry) (vips : List VipWord) (named : List (List ℕ)) (down : List ℕ) (j : Job) (lines : List Line) : Type 0 where
  pub pushed : EachPipe (λ p v. OnLeg v.stage (LegPushed k.layout ring entries)) pipes
  pub learned : EachLearn k.layout ring (IsLearned lines pipes)
  pub entry : AllByRecursion (λ e. EntryOpened k vips named down j pipes e (opening lines e.key)) entries
  pub reported : (key : KeyView) → is_registered key entries ≡ false
      → IsReported k.layout ring named key (opening lines key)
  pub dead : OnAnswer j (λ r. IfUnregistered entries r (NothingLearned k.layout ring pipes r.held.key))

pub record InOpenings (s : Core) : Type 0 where
  pub openings : OpeningsHold s.config (ring_words s.words) s.pipes s.controller.book.entries s.controller.vips s.controller.named
      s.controller.down s.controller.job (printed s)
