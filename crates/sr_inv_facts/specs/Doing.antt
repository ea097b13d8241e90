-- What is read off the controller's job.
use Rattle.std.specs.Prelude.{◌≡◌, ℕ, ◌<◌, ◌≤◌, ◌⊎◌, Some}
use Rattle.sr_base.specs.Key.{KeyView}
use Rattle.sr_base.specs.declared.place.Place.{Place}
use Rattle.sr_base.specs.declared.vip_word.Phase.{Phase}
use Rattle.sr_base.specs.declared.vip_word.Phase.TheVariants.{Steady, Recording, Holding, Transit}
use Rattle.sr_base.specs.declared.vip_word.VipWord.{VipWord}
use Rattle.sr_machine.specs.Reads.{steady}
use Rattle.sr_machine.specs.Stores.{phase_word}
use Rattle.sr_machine.specs.declared.job.Job.{Job}
use Rattle.sr_machine.specs.declared.job.Job.TheVariants.{Draw, Store, Pass, Drain}
use Rattle.sr_machine.specs.declared.pool_update.PoolUpdate.{PoolUpdate}
use Rattle.sr_machine.specs.declared.put.Put.{Put}
use Rattle.sr_machine.specs.declared.reply.Reply.{Reply}
use Rattle.sr_machine.specs.declared.wait.Wait.{Wait}
use Rattle.sr_machine.specs.declared.draw.Draw.TheVariants as draw
use Rattle.sr_machine.specs.declared.store.Store.TheVariants as store
use Rattle.sr_machine.specs.declared.wait.Wait.TheVariants as wait
use Rattle.sr_machine.specs.declared.why.Why.TheVariants as why

-- ---- a put

-- of what a wait is to make live or give up
abbrev pub OnJudge : Wait → (Put → Type 0) → Type 0
OnJudge (wait.Judge p) P = P p
OnJudge w P = Unit {0}

-- of what a wait has made live
abbrev pub OnLived : Wait → (Put → Type 0) → Type 0
OnLived (wait.Live p) P = P p
OnLived w P = Unit {0}

-- of a put that isn't live yet: from its plan on until it is made live or given up
abbrev pub OnPut : Job → (Put → Type 0) → Type 0
OnPut (Draw (draw.Reserved p)) P = P p
OnPut (Draw (draw.Grace w)) P = OnJudge w P
OnPut (Store (store.Reserved p)) P = P p
OnPut (Store (store.Judge p)) P = P p
OnPut (Pass grace pipe w) P = OnJudge w P
OnPut (Drain pipe count w) P = OnJudge w P
OnPut j P = Unit {0}

-- of one whose place is reserved: its word tells so
abbrev pub OnReserved : Job → (Put → Type 0) → Type 0
OnReserved (Draw (draw.Grace w)) P = OnJudge w P
OnReserved (Store (store.Judge p)) P = P p
OnReserved (Pass grace pipe w) P = OnJudge w P
OnReserved (Drain pipe count w) P = OnJudge w P
OnReserved j P = Unit {0}

-- of one whose entry is live, until the wait after it is over
abbrev pub OnLive : Job → (Put → Type 0) → Type 0
OnLive (Draw (draw.Placed p)) P = P p
OnLive (Draw (draw.Grace w)) P = OnLived w P
OnLive (Pass grace pipe w) P = OnLived w P
OnLive (Drain pipe count w) P = OnLived w P
OnLive j P = Unit {0}

-- ---- an update's step

-- of an update whose phase a wait is for
abbrev pub OnComing : Wait → (PoolUpdate → Phase → Type 0) → Type 0
OnComing (wait.Comes u p) P = P u p
OnComing w P = Unit {0}

-- ---- an answer

-- of an answer that is to be drawn, now or after the Cleared line of what was given up
abbrev pub OnAnswer : Job → (Reply → Type 0) → Type 0
OnAnswer (Draw (draw.Answer r)) P = P r
OnAnswer (Draw (draw.Cleared key place (why.Withdrawn (Some r)))) P = P r
OnAnswer j P = Unit {0}

-- ---- a wait for the packets under way

-- The packets of this pipe aren't waited for yet: a packet that entered at this tick may still be one from before the wait.
abbrev pub IsUnpassed : ℕ → ℕ → ℕ → ℕ → Type 0
IsUnpassed grace pipe p entered = (pipe ≤ p) × (entered < grace)

-- a packet that entered at this tick on this pipe may have looked at the put's place before the place was reserved
abbrev pub MissedReserved : Job → ℕ → ℕ → Place → Type 0
MissedReserved (Draw (draw.Grace (wait.Judge q))) p entered place = place ≡ q.place
MissedReserved (Pass grace pipe (wait.Judge q)) p entered place = (place ≡ q.place) × IsUnpassed grace pipe p entered
MissedReserved j p entered place = ⊥

-- a packet of this key may have looked at the put's place before the entry was live there
abbrev pub MissedLive : Job → ℕ → ℕ → KeyView → Type 0
MissedLive (Draw (draw.Placed q)) p entered key = q.key ≡ key
MissedLive (Draw (draw.Grace (wait.Live q))) p entered key = q.key ≡ key
MissedLive (Pass grace pipe (wait.Live q)) p entered key = (q.key ≡ key) × IsUnpassed grace pipe p entered
MissedLive j p entered key = ⊥

-- the word that a virtual address had before an update came to this phase
abbrev pub word_before : PoolUpdate → Phase → VipWord
word_before u Steady = phase_word u Transit
word_before u Recording = steady u.replaced
word_before u Holding = phase_word u Recording
word_before u Transit = phase_word u Holding

-- this word, of this virtual address, is that of the update before the phase
abbrev pub IsEarlier : PoolUpdate → Phase → ℕ → VipWord → Type 0
IsEarlier u p vip w = (vip ≡ u.vip) × (w ≡ word_before u p)

-- a packet that entered at this tick on this pipe may have loaded this word before the phase was stored
abbrev pub HasEarlier : Job → ℕ → ℕ → ℕ → VipWord → Type 0
HasEarlier (Draw (draw.Grace (wait.Comes u q))) p entered vip w = IsEarlier u q vip w
HasEarlier (Draw (draw.Comes u Steady)) p entered vip w = IsEarlier u Steady vip w
HasEarlier (Draw (draw.Comes u Transit)) p entered vip w = IsEarlier u Transit vip w
HasEarlier (Pass grace pipe (wait.Comes u q)) p entered vip w = IsEarlier u q vip w × IsUnpassed grace pipe p entered
HasEarlier j p entered vip w = ⊥

-- no packet of this pipe that entered at this tick can know the number that is waited for
abbrev pub OnReleased : Job → ℕ → ℕ → (ℕ → ℕ → Type 0) → Type 0
OnReleased (Pass grace pipe (wait.Release vip version)) p entered P = ((p < pipe) ⊎ (grace < entered)) → P vip version
OnReleased (Drain pipe count (wait.Release vip version)) p entered P = P vip version
OnReleased j p entered P = Unit {0}

-- of a number that is waited for
abbrev pub OnRelease : Job → (ℕ → ℕ → Type 0) → Type 0
OnRelease (Draw (draw.Grace (wait.Release vip version))) P = P vip version
OnRelease (Pass grace pipe (wait.Release vip version)) P = P vip version
OnRelease (Drain pipe count (wait.Release vip version)) P = P vip version
OnRelease j P = Unit {0}
