-- A grace: what a packet knows that the grace has passed, or that entered after it began.
use Rattle.std.specs.Prelude.{◌≡◌, ℕ, ◌<◌, true, ◌≢◌, ◌⊎◌}
use Rattle.sr_hash.specs.Uses.{is_place_of}
use Rattle.sr_inv_facts.specs.Flying.{OnLeg, OnLook, OnNumber, OnUnmatched}
use Rattle.sr_inv_facts.specs.Invariant.{Invariant}
use Rattle.sr_inv_facts.specs.Readings.{EachPipe, In, Speaks}
use Rattle.sr_inv_packets.specs.Filter.{word_of}
use Rattle.sr_machine.specs.Core.{Core}
use Rattle.sr_machine.specs.Reads.{says}
use Rattle.sr_machine.specs.declared.flight.Flight.{Flight}
use Rattle.sr_machine.specs.declared.leg.Leg.{Leg}
use Rattle.sr_machine.specs.declared.wait.Wait.{Wait}
use Rattle.sr_machine.specs.declared.job.Job.TheVariants as job
use Rattle.sr_machine.specs.declared.name.Name.TheVariants as name
use Rattle.sr_machine.specs.declared.wait.Wait.TheVariants as wait

-- What the packet has loaded is as after the store that the grace follows. After a phase's: it has loaded its virtual address's present word.
-- After a place was reserved: an opener that nothing has matched and to which the place speaks is still to look at it. After an entry
-- was made live: a packet of its key that looks at places is still to look at its place. Before a number is free: it has not chosen it.
abbrev pub KnowsStore : Core → Wait → Flight → Leg → Type 0
KnowsStore s (wait.Judge q) f leg =
    OnUnmatched f leg (λ looks. is_place_of s.config.layout.shape f.packet.key q.place ≡ true
    → Speaks (says s.config.layout q.place f.packet.key (s.words (name.Entry q.place))) → In q.place looks)
KnowsStore s (wait.Live q) f leg = OnLook leg (λ looks. f.packet.key ≡ q.key → In q.place looks)
KnowsStore s (wait.Retire key) f leg = Unit {0}
KnowsStore s (wait.Comes u phase) f leg = f.vip ≡ word_of s f.packet.key.vip
KnowsStore s (wait.Release vip version) f leg = f.packet.key.vip ≡ vip → OnNumber leg (λ n. n ≢ version)

-- the pipe has passed, or its packet entered after the grace's tick
abbrev pub HasPassed : ℕ → ℕ → ℕ → Flight → Type 0
HasPassed grace pipe p f = (p < pipe) ⊎ (grace < f.entered)

abbrev pub PassedKnow : Type 0
PassedKnow =
    (s : Core) → Invariant s → (grace pipe : ℕ) (w : Wait) → s.controller.job ≡ job.Pass grace pipe w
    → EachPipe (λ p v. OnLeg v.stage (λ f leg. HasPassed grace pipe p f → KnowsStore s w f leg)) s.pipes
