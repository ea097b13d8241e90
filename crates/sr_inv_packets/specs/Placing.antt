-- A placing: once its drain has ended, its place says Reserved to nobody that was learned or may be.
use Rattle.std.specs.Prelude.{◌≡◌, true, ◌≢◌}
use Rattle.sr_base.specs.Key.{KeyView}
use Rattle.sr_hash.specs.Uses.{is_place_of}
use Rattle.sr_inv_facts.specs.Flying.{OnLeg, OnMayLearn}
use Rattle.sr_inv_facts.specs.Invariant.{Invariant}
use Rattle.sr_inv_facts.specs.Readings.{EachLearn, EachPipe, ring_words}
use Rattle.sr_machine.specs.Core.{Core}
use Rattle.sr_machine.specs.Reads.{says}
use Rattle.sr_machine.specs.declared.put.Put.{Put}
use Rattle.sr_machine.specs.declared.job.Job.TheVariants as job
use Rattle.sr_machine.specs.declared.name.Name.TheVariants as name
use Rattle.sr_machine.specs.declared.said.Said.TheVariants as said
use Rattle.sr_machine.specs.declared.store.Store.TheVariants as store

-- the put's place is none of the key's, or doesn't say Reserved to it
abbrev pub Misses : Core → Put → KeyView → Type 0
Misses s q key =
    is_place_of s.config.layout.shape key q.place ≡ true
    → says s.config.layout q.place key (s.words (name.Entry q.place)) ≢ said.Reserved

-- no report of a learned key, and no opener that may yet be learned, matches the reserved word
pub record LearnersMiss (s : Core) (q : Put) : Type 0 where
  pub learns : EachLearn s.config.layout (ring_words s.words) (λ key version. Misses s q key)
  pub openers : EachPipe (λ p v. OnLeg v.stage (λ f leg. OnMayLearn f leg (λ n. Misses s q f.packet.key))) s.pipes

-- the drain of a placing has ended when the store that makes it live or gives it up is next
abbrev pub DrainedMiss : Type 0
DrainedMiss = (s : Core) → Invariant s → (q : Put) → s.controller.job ≡ job.Store (store.Judge q) → LearnersMiss s q
