-- The transit filter: in an update the keys that keep the old version are in the filter before the switch, and no key that takes the new one is; and each place
-- that is set was set by an opener that an update recorded.
use Rattle.std.specs.List.{AllByRecursion}
use Rattle.std.specs.Prelude.{◌≡◌, ℕ, ◌<◌, Bool, true, false, ◌≢◌, ◌⊎◌, List, ◌∷◌, ◌++◌, nat_lt, Some, None, Option}
use Rattle.sr_base.specs.Key.{KeyView}
use Rattle.sr_base.specs.Layout.{LayoutView}
use Rattle.sr_base.specs.declared.ring_word.RingWord.{RingWord}
use Rattle.sr_base.specs.declared.vip_word.Phase.{Phase}
use Rattle.sr_base.specs.declared.vip_word.Phase.TheVariants.{Steady, Recording, Holding, Transit}
use Rattle.sr_base.specs.declared.vip_word.VipWord.{VipWord}
use Rattle.sr_inv_facts.specs.Flying.{OnLeg, OnMayLearn}
use Rattle.sr_inv_facts.specs.Readings.{EachBehind, EachLearn, EachPipe, IfLearn, In, SomePipe, bit_words, is_marked, is_set_in, ring_words}
use Rattle.sr_law.specs.Held.{is_set, recorded_giving}
use Rattle.sr_law.specs.declared.line.Line.{Line}
use Rattle.sr_machine.specs.Core.{Core, printed}
use Rattle.sr_machine.specs.Deciding.{vip_at}
use Rattle.sr_machine.specs.Reads.{steady}
use Rattle.sr_machine.specs.Stages.{is_recorded, key_bits}
use Rattle.sr_machine.specs.declared.job.Job.{Job}
use Rattle.sr_machine.specs.declared.leg.Last.{Last}
use Rattle.sr_machine.specs.declared.pipe_view.PipeView.{PipeView}
use Rattle.sr_machine.specs.declared.pool_update.PoolUpdate.{PoolUpdate}
use Rattle.sr_machine.specs.declared.ring_count.RingCount.{RingCount}
use Rattle.sr_machine.specs.declared.stage.Stage.{Stage}
use Rattle.sr_machine.specs.declared.wait.Wait.{Wait}
use Rattle.sr_shadow.specs.Entry.{is_pending}
use Rattle.sr_shadow.specs.declared.entry.Entry.{Entry}
use Rattle.sr_machine.specs.declared.draw.Draw.TheVariants as draw
use Rattle.sr_machine.specs.declared.wait.Wait.TheVariants as wait
use Rattle.sr_machine.specs.declared.job.Job.TheVariants as job
use Rattle.sr_machine.specs.declared.stage.Stage.TheVariants as stage
use Rattle.sr_machine.specs.declared.leg.Leg.TheVariants as leg
use Rattle.sr_machine.specs.declared.leg.Last.TheVariants as last

-- ---- versions that a key may have

-- the current version of a virtual address, or in Transit the next one
abbrev pub IsOfWord : VipWord → ℕ → Type 0
IsOfWord w version = (version ≡ w.cur) ⊎ ((w.phase ≡ Transit) × (version ≡ w.next))

-- ---- waits of an update

-- the wait for this phase is on: from its store on, until its graces and its drain are over
abbrev pub waits_for : Phase → Wait → Bool
waits_for Recording (wait.Comes u Recording) = true
waits_for Transit (wait.Comes u Transit) = true
waits_for p w = false

abbrev pub is_settling : Phase → Job → Bool
is_settling Transit (job.Draw (draw.Comes u Transit)) = true
is_settling p (job.Draw (draw.Grace w)) = waits_for p w
is_settling p (job.Pass grace pipe w) = waits_for p w
is_settling p (job.Drain pipe count w) = waits_for p w
is_settling p j = false

-- ---- what holds of a key by the phase of its virtual address

-- the version is the one that the update replaces; that it gives
abbrev pub IfReplaced : PoolUpdate → ℕ → Type 0 → Type 0
IfReplaced u version P = version ≡ u.replaced → P

abbrev pub IfGiven : PoolUpdate → ℕ → Type 0 → Type 0
IfGiven u version P = version ≡ u.given → P

-- Of a key of the update's virtual address that was learned with this version, and that an update in Recording waits for or not: once
-- Recording is settled, it is in the filter where the update doesn't wait for it; in Holding it is in the filter; in Transit it is
-- where it has the old version, and isn't where it has the new one.
abbrev pub KeyMarked : PoolUpdate → Phase → Bool → Bool → ℕ → Bool → Type 0
KeyMarked u Steady settling awaited version marked = Unit {0}
KeyMarked u Recording settling awaited version marked = settling ≡ false → awaited ≡ false → marked ≡ true
KeyMarked u Holding settling awaited version marked = marked ≡ true
KeyMarked u Transit settling awaited version marked =
    IfReplaced u version (marked ≡ true) × IfGiven u version (marked ≡ false)

-- once Transit is settled, no report is left that tells the old version
abbrev pub NoneReplaced : PoolUpdate → Phase → Bool → ℕ → Type 0
NoneReplaced u Steady settling version = Unit {0}
NoneReplaced u Recording settling version = Unit {0}
NoneReplaced u Holding settling version = Unit {0}
NoneReplaced u Transit settling version = settling ≡ false → version ≢ u.replaced

-- an opener that may yet be learned by the new version isn't in the filter
abbrev pub LearnerMarked : PoolUpdate → Phase → ℕ → Bool → Type 0
LearnerMarked u Transit version marked = IfGiven u version (marked ≡ false)
LearnerMarked u p version marked = Unit {0}

-- of a key of the update's virtual address
abbrev pub OfUpdate : Option PoolUpdate → KeyView → (PoolUpdate → Type 0) → Type 0
OfUpdate None key P = Unit {0}
OfUpdate (Some u) key P = key.vip ≡ u.vip → P u

-- the phase of an update
abbrev pub phase_at : List VipWord → PoolUpdate → Phase
phase_at vips u = (vip_at vips u.vip).phase

-- a pending entry; a report of what was learned; an opener that may yet report so
abbrev pub EntryMarked : LayoutView → (ℕ → ℕ) → List VipWord → Job → ℕ → PoolUpdate → Entry → Type 0
EntryMarked l bits vips j mark u e =
    KeyMarked u (phase_at vips u) (is_settling Recording j) (nat_lt e.taken mark) e.version (is_marked l bits e.key)

abbrev pub PendingMarked : LayoutView → (ℕ → ℕ) → Option PoolUpdate → List VipWord → Job → ℕ → Entry → Type 0
PendingMarked l bits update vips j mark e =
    is_pending e ≡ true → IsOfWord (vip_at vips e.key.vip) e.version × OfUpdate update e.key (λ u. EntryMarked l bits vips j mark u e)

pub record LearnMarked (l : LayoutView) (bits : ℕ → ℕ) (vips : List VipWord) (j : Job) (key : KeyView) (version : ℕ) (u : PoolUpdate) : Type 0 where
  pub marked : KeyMarked u (phase_at vips u) (is_settling Recording j) false version (is_marked l bits key)
  pub moved : NoneReplaced u (phase_at vips u) (is_settling Transit j) version

abbrev pub ReportMarked : LayoutView → (ℕ → ℕ) → Option PoolUpdate → List VipWord → Job → KeyView → ℕ → Type 0
ReportMarked l bits update vips j key version =
    IsOfWord (vip_at vips key.vip) version × OfUpdate update key (LearnMarked l bits vips j key version)

abbrev pub MayMarked : LayoutView → (ℕ → ℕ) → Option PoolUpdate → List VipWord → KeyView → ℕ → Type 0
MayMarked l bits update vips key version =
    OfUpdate update key (λ u. LearnerMarked u (phase_at vips u) version (is_marked l bits key))

-- ---- behind a drain

-- what a report behind the drain of a phase tells: in Recording its key is in the filter, in Transit it isn't of the old version
abbrev pub BehindPhase : LayoutView → (ℕ → ℕ) → PoolUpdate → Phase → RingWord → Type 0
BehindPhase l bits u Recording w = IfLearn w.kind (w.key.vip ≡ u.vip → is_marked l bits w.key ≡ true)
BehindPhase l bits u Transit w = IfLearn w.kind (w.key.vip ≡ u.vip → w.version ≢ u.replaced)
BehindPhase l bits u p w = Unit {0}

abbrev pub Drained : LayoutView → (ℕ → ℕ) → List RingCount → (ℕ → ℕ → ℕ) → Job → Type 0
Drained l bits rings ring (job.Drain pipe count (wait.Comes u p)) = EachBehind l rings ring pipe count (BehindPhase l bits u p)
Drained l bits rings ring j = Unit {0}

-- ---- who set a place

-- the place is one that the opener has set by now
abbrev pub HasSet : List ℕ → ℕ → Last → Type 0
HasSet places bit (last.Mark next rest) = (front : List ℕ) × (places ≡ front ++ (next ∷ rest)) × In bit front
HasSet places bit last.Ring = ⊥
HasSet places bit last.Push = In bit places
HasSet places bit last.Out = In bit places

-- a packet that is being recorded, or was and isn't out, has set the place
abbrev pub SetsNow : LayoutView → ℕ → ℕ → Stage → Type 0
SetsNow l vip bit (stage.Fly f (leg.Judged v last)) =
    (is_recorded f v ≡ true) × (f.packet.key.vip ≡ vip) × HasSet (key_bits l f.packet.key) bit last
SetsNow l vip bit at = ⊥

-- from the store of Recording on, each place that is set was set by an opener that was sent to another pool since the update was recorded
abbrev pub IsSetBy : LayoutView → List Line → List PipeView → PoolUpdate → ℕ → Type 0
IsSetBy l lines pipes u bit =
    (is_set l.shape.filter_bits u.vip (recorded_giving lines u.vip) bit lines ≡ true)
    ⊎ SomePipe (λ p v. SetsNow l u.vip bit v.stage) pipes

abbrev pub Markers : LayoutView → (ℕ → ℕ) → List VipWord → List Line → List PipeView → Option PoolUpdate → Type 0
Markers l bits vips lines pipes None = Unit {0}
Markers l bits vips lines pipes (Some u) =
    vip_at vips u.vip ≢ steady u.replaced → (bit : ℕ) → bit < l.shape.filter_bits → is_set_in bits bit ≡ true
    → IsSetBy l lines pipes u bit

-- ---- all of it

pub record FilterHolds (l : LayoutView) (bits : ℕ → ℕ) (ring : ℕ → ℕ → ℕ) (pipes : List PipeView) (entries : List Entry) (vips : List VipWord) (rings : List RingCount) (update : Option PoolUpdate) (mark : ℕ) (j : Job) (lines : List Line) : Type 0 where
  pub pending : AllByRecursion (PendingMarked l bits update vips j mark) entries
  pub reports : EachLearn l ring (ReportMarked l bits update vips j)
  pub learners : EachPipe (λ p v. OnLeg v.stage (λ f at. OnMayLearn f at (MayMarked l bits update vips f.packet.key))) pipes
  pub drained : Drained l bits rings ring j
  pub markers : Markers l bits vips lines pipes update

pub record InFilter (s : Core) : Type 0 where
  pub filter : FilterHolds s.config.layout (bit_words s.words) (ring_words s.words) s.pipes s.controller.book.entries s.controller.vips
      s.controller.rings s.controller.update s.controller.mark s.controller.job (printed s)

-- ---- parts of it that stand alone

-- the keys that wait for a place
abbrev pub PendingKept : Core → Type 0
PendingKept s =
    AllByRecursion (PendingMarked s.config.layout (bit_words s.words) s.controller.update s.controller.vips s.controller.job s.controller.mark)
    s.controller.book.entries

-- the reports in the rings
abbrev pub ReportsKept : Core → Type 0
ReportsKept s =
    EachLearn s.config.layout (ring_words s.words)
    (ReportMarked s.config.layout (bit_words s.words) s.controller.update s.controller.vips s.controller.job)

-- the openers that may yet report so
abbrev pub LearnersKept : Core → Type 0
LearnersKept s =
    EachPipe (λ p v. OnLeg v.stage (λ f at.
    OnMayLearn f at (MayMarked s.config.layout (bit_words s.words) s.controller.update s.controller.vips f.packet.key))) s.pipes

-- what a drain has behind it
abbrev pub DrainedKept : Core → Type 0
DrainedKept s = Drained s.config.layout (bit_words s.words) s.controller.rings (ring_words s.words) s.controller.job

-- who set the places that are set
abbrev pub MarkersKept : Core → Type 0
MarkersKept s =
    Markers s.config.layout (bit_words s.words) s.controller.vips (printed s) s.pipes s.controller.update
