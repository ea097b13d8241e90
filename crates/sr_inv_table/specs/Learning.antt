-- Which keys are about to be learned, and with which version: by a report in a ring, or by an opener in flight that is yet to store one.
use Rattle.std.specs.Prelude.{◌≡◌, ℕ, ◌⊎◌}
use Rattle.sr_base.specs.Key.{KeyView}
use Rattle.sr_base.specs.declared.kind.Kind.TheVariants.{Opener}
use Rattle.sr_inv_facts.specs.InOpenings.{IsRegisteredWith}
use Rattle.sr_inv_facts.specs.Readings.{SomeLearn, SomePipe, ring_words}
use Rattle.sr_machine.specs.Core.{Core}
use Rattle.sr_machine.specs.declared.leg.Leg.{Leg}
use Rattle.sr_machine.specs.declared.leg.Leg.TheVariants.{Chosen, Judged}
use Rattle.sr_machine.specs.declared.stage.Stage.{Stage}
use Rattle.sr_machine.specs.declared.stage.Stage.TheVariants.{Fly}
use Rattle.sr_law.specs.declared.verdict.Verdict.TheVariants as verdict
use Rattle.sr_machine.specs.declared.leg.Last.TheVariants as last

-- a packet has chosen the version, its server isn't known to be down, and it hasn't stored its report
abbrev pub HasChosen : Leg → ℕ → Type 0
HasChosen (Chosen version load) n = version ≡ n
HasChosen (Judged (verdict.To server version pool) last.Ring) n = version ≡ n
HasChosen (Judged (verdict.To server version pool) (last.Mark bit rest)) n = version ≡ n
HasChosen (Judged (verdict.To server version pool) last.Push) n = version ≡ n
HasChosen leg n = ⊥

-- An opener of the key has. It learns the version where its server turns out not to be down and its ring's cell to be empty.
abbrev pub MayLearn : KeyView → ℕ → Stage → Type 0
MayLearn key n (Fly f leg) = (f.packet.kind ≡ Opener) × (f.packet.key ≡ key) × HasChosen leg n
MayLearn key n a = ⊥

-- a report in a ring tells that the key was learned with the version, or an opener of it may learn that
abbrev pub IsLearned : Core → KeyView → ℕ → Type 0
IsLearned s key n = SomeLearn s.config.layout (ring_words s.words) key n ⊎ SomePipe (λ p v. MayLearn key n v.stage) s.pipes

-- the key has the version by its entry, by a report, or by such an opener
abbrev pub HasVersion : Core → KeyView → ℕ → Type 0
HasVersion s key n = IsRegisteredWith s.controller.book.entries key n ⊎ IsLearned s key n

-- these all have one version
abbrev pub VersionsAreOne : Core → Type 0
VersionsAreOne s = (key : KeyView) (m n : ℕ) → HasVersion s key m → HasVersion s key n → m ≡ n
