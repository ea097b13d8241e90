-- What an opener learns: the version that its virtual address's word gives to openers now.
use Rattle.std.specs.Prelude.{◌≡◌, ℕ}
use Rattle.sr_base.specs.declared.kind.Kind.TheVariants.{Opener}
use Rattle.sr_base.specs.declared.vip_word.Phase.{Phase}
use Rattle.sr_base.specs.declared.vip_word.Phase.TheVariants.{Steady, Recording, Holding, Transit}
use Rattle.sr_base.specs.declared.vip_word.VipWord.{VipWord}
use Rattle.sr_inv_facts.specs.Flying.{OnLeg, OnVersion}
use Rattle.sr_inv_facts.specs.Invariant.{Invariant}
use Rattle.sr_inv_facts.specs.Readings.{EachPipe}
use Rattle.sr_inv_packets.specs.Filter.{word_of}
use Rattle.sr_machine.specs.Core.{Core}
use Rattle.sr_machine.specs.declared.leg.Leg.{Leg}
use Rattle.sr_machine.specs.declared.leg.Leg.TheVariants.{Look, Hit, Filter, Chosen, Judged}

-- the number that learning openers take
abbrev pub taken_in : VipWord → Phase → ℕ
taken_in w Steady = w.cur
taken_in w Recording = w.cur
taken_in w Holding = w.cur
taken_in w Transit = w.next

abbrev pub next_number : Core → ℕ → ℕ
next_number s vip = taken_in (word_of s vip) (word_of s vip).phase

-- Of the version that an opener with this word chooses when nothing matches it: in Holding it is held, and in Transit too where all its places
-- of the filter are set.
abbrev pub OnMissed : VipWord → Phase → (ℕ → Type 0) → Type 0
OnMissed w Steady P = P w.cur
OnMissed w Recording P = P w.cur
OnMissed w Holding P = Unit {0}
OnMissed w Transit P = P w.next

-- of the version that an opener has chosen, or will choose unless it is held; one that found an entry is held
abbrev pub OnChosen : VipWord → Leg → (ℕ → Type 0) → Type 0
OnChosen w (Look place rest) P = OnMissed w w.phase P
OnChosen w (Hit place version) P = Unit {0}
OnChosen w (Filter bit rest) P = OnMissed w w.phase P
OnChosen w (Chosen version load) P = P version
OnChosen w (Judged v last) P = OnVersion v P

abbrev pub OpenersLearn : Type 0
OpenersLearn =
    (s : Core) → Invariant s
    → EachPipe (λ p v. OnLeg v.stage (λ f leg. f.packet.kind ≡ Opener
    → OnChosen f.vip leg (λ n. n ≡ next_number s f.packet.key.vip))) s.pipes
