-- On track: where a packet goes whose key has a version, by what is left for it to load.
use Rattle.std.specs.List.{AllByRecursion}
use Rattle.std.specs.Prelude.{◌≡◌, ℕ, Bool, true, ◌⊎◌, List, [], ◌∷◌, if◌then◌else◌}
use Rattle.sr_base.specs.Key.{KeyView}
use Rattle.sr_base.specs.declared.kind.Kind.TheVariants.{Opener}
use Rattle.sr_base.specs.declared.place.Place.{Place}
use Rattle.sr_base.specs.declared.vip_word.Phase.{Phase}
use Rattle.sr_base.specs.declared.vip_word.Phase.TheVariants.{Steady, Recording, Holding, Transit}
use Rattle.sr_inv_facts.specs.Flying.{OnLeg, to_look}
use Rattle.sr_inv_facts.specs.Invariant.{Invariant}
use Rattle.sr_inv_facts.specs.OnTrack.{IsKnown, IsOnDuty}
use Rattle.sr_inv_facts.specs.Readings.{EachPipe, In, Speaks, SpeaksLive, bit_words, is_marked, ring_words}
use Rattle.sr_machine.specs.Core.{Core, printed}
use Rattle.sr_machine.specs.Reads.{says}
use Rattle.sr_machine.specs.declared.flight.Flight.{Flight}
use Rattle.sr_machine.specs.declared.leg.Leg.{Leg}
use Rattle.sr_machine.specs.declared.leg.Leg.TheVariants.{Look, Hit, Filter, Chosen, Judged}
use Rattle.sr_machine.specs.declared.said.Said.{Said}
use Rattle.sr_law.specs.declared.verdict.Verdict.TheVariants as verdict
use Rattle.sr_machine.specs.declared.name.Name.TheVariants as name
use Rattle.sr_machine.specs.declared.said.Said.TheVariants as said

-- it has chosen the version, or found an entry that has it
abbrev pub HasChosen : ℕ → Leg → Type 0
HasChosen n (Hit place version) = version ≡ n
HasChosen n (Chosen version load) = version ≡ n
HasChosen n (Judged (verdict.To server version pool) last) = version ≡ n
HasChosen n (Judged (verdict.Down server version pool) last) = version ≡ n
HasChosen n leg = ⊥

-- it is held, or its ring was full
abbrev pub IsHeld : Leg → Type 0
IsHeld (Judged (verdict.Held why) last) = Unit {0}
IsHeld (Judged verdict.Full last) = Unit {0}
IsHeld leg = ⊥

-- what a place says to the packet now
abbrev pub said_to : Core → KeyView → Place → Said
said_to s key place = says s.config.layout place key (s.words (name.Entry place))

-- the first of these places that says Live says this version
abbrev pub IfLive : Said → ℕ → Type 0 → Type 0
IfLive said.Nothing n P = P
IfLive said.Reserved n P = P
IfLive (said.Live version) n P = version ≡ n

abbrev pub FindsLive : Core → KeyView → ℕ → List Place → Type 0
FindsLive s key n [] = ⊥
FindsLive s key n (place ∷ rest) = IfLive (said_to s key place) n (FindsLive s key n rest)

-- none of them says Live
abbrev pub NoneLive : Core → KeyView → List Place → Type 0
NoneLive s key places = AllByRecursion (λ place. SpeaksLive (said_to s key place) → ⊥) places

-- one of them says Reserved or Live
abbrev pub SomeSpeaks : Core → KeyView → List Place → Type 0
SomeSpeaks s key places = (place : Place) × In place places × Speaks (said_to s key place)

-- an opener that nothing matches is held by its word: in Holding, and in Transit where all its places of the filter are set
abbrev pub HoldsAt : Phase → Bool → Type 0
HoldsAt Steady marked = ⊥
HoldsAt Recording marked = ⊥
HoldsAt Holding marked = Unit {0}
HoldsAt Transit marked = marked ≡ true

-- the version that the word gives after a miss
abbrev pub given_at : Phase → ℕ → ℕ → Bool → ℕ
given_at Steady cur next marked = cur
given_at Recording cur next marked = cur
given_at Holding cur next marked = cur
given_at Transit cur next marked = if marked then cur else next

-- the key's places of the filter are all set now
abbrev pub is_in_filter : Core → Flight → Bool
is_in_filter s f = is_marked s.config.layout (bit_words s.words) f.packet.key

-- if no word changes, an opener is held by what it has found, by a place that it is still to look at, or by its word
abbrev pub WillBeHeld : Core → Flight → Leg → Type 0
WillBeHeld s f (Look place rest) = SomeSpeaks s f.packet.key (place ∷ rest) ⊎ HoldsAt f.vip.phase (is_in_filter s f)
WillBeHeld s f (Hit place version) = Unit {0}
WillBeHeld s f (Filter bit rest) = HoldsAt f.vip.phase (is_in_filter s f)
WillBeHeld s f leg = ⊥

-- if no word changes, nothing matches it, and its word and the filter give it this version
abbrev pub GivesVersion : Core → Flight → ℕ → Type 0
GivesVersion s f n = given_at f.vip.phase f.vip.cur f.vip.next (is_in_filter s f) ≡ n

abbrev pub WillMiss : Core → Flight → ℕ → Leg → Type 0
WillMiss s f n (Look place rest) = NoneLive s f.packet.key (place ∷ rest) × GivesVersion s f n
WillMiss s f n (Filter bit rest) = GivesVersion s f n
WillMiss s f n leg = ⊥

-- where a packet goes by this version, or is held
pub data GoesOn (s : Core) (n : ℕ) (f : Flight) (leg : Leg) : Type 0 where
  has_chosen : HasChosen n leg → GoesOn s n f leg
  is_held : IsHeld leg → GoesOn s n f leg
  will_be_held : f.packet.kind ≡ Opener → WillBeHeld s f leg → GoesOn s n f leg
  will_find : FindsLive s f.packet.key n (to_look leg) → GoesOn s n f leg
  will_miss : WillMiss s f n leg → GoesOn s n f leg

-- a packet in flight whose key is registered with a version, or told with it by a report in a ring, and that is an opener or entered after its
-- connection was opened
abbrev pub PacketsOnTrack : Type 0
PacketsOnTrack =
    (s : Core) → Invariant s
    → EachPipe (λ p v. OnLeg v.stage (λ f leg. (n : ℕ)
    → IsKnown s.config.layout (ring_words s.words) s.controller.book.entries f.packet.key n → IsOnDuty (printed s) f
    → GoesOn s n f leg)) s.pipes
