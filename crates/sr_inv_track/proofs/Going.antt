-- A packet's own steps keep where it goes.
use Rattle.std.proofs.Common.{◌≡◌, ℕ, Bool, true, false, List, [], ◌∷◌, if◌then◌else◌, ◌==◌, sym, subst}
use Rattle.sr_base.specs.Layout.{LayoutView}
use Rattle.sr_base.specs.declared.place.Place.{Place}
use Rattle.sr_base.specs.declared.vip_word.Phase.{Phase}
use Rattle.sr_base.specs.declared.vip_word.Phase.TheVariants.{Steady, Recording, Holding, Transit}
use Rattle.sr_inv_facts.specs.Flying.{OnLeg}
use Rattle.sr_inv_facts.specs.OnTrack.{GoesBit, GoesBits, GoesBy, GoesMissed, GoesPlaces, GoesSaid, GoesVerdict, HeldIf}
use Rattle.sr_law.specs.declared.verdict.HeldBy.{HeldBy}
use Rattle.sr_law.specs.declared.verdict.Verdict.{Verdict}
use Rattle.sr_machine.specs.Reads.{filter_word, has_bit, read_flag, says}
use Rattle.sr_machine.specs.Stages.{filtered, filtering, held_or, is_opener, key_bits, leg_after, loaded, looked, looking, missed_in, verdict_at, verdict_by}
use Rattle.sr_machine.specs.declared.flight.Flight.{Flight}
use Rattle.sr_machine.specs.declared.leg.Leg.{Leg}
use Rattle.sr_machine.specs.declared.leg.Leg.TheVariants.{Look, Hit, Filter, Chosen, Judged}
use Rattle.sr_machine.specs.declared.leg.Load.{Load}
use Rattle.sr_machine.specs.declared.said.Said.{Said}
use Rattle.sr_law.specs.declared.verdict.HeldBy.TheVariants as by
use Rattle.sr_law.specs.declared.verdict.Verdict.TheVariants as verdict
use Rattle.sr_machine.specs.declared.leg.Last.TheVariants as last
use Rattle.sr_machine.specs.declared.leg.Load.TheVariants as load
use Rattle.sr_machine.specs.declared.said.Said.TheVariants as said

-- what a leg loads next is what the words say
abbrev pub Answered : (Place → ℕ) → (ℕ → ℕ) → Leg → ℕ → Type 0
Answered w bits (Look place rest) x = x ≡ w place
Answered w bits (Filter bit rest) x = x ≡ bits (filter_word bit)
Answered w bits leg x = Unit {0}

module _ (l : LayoutView) (w : Place → ℕ) (bits : ℕ → ℕ) (f : Flight) (n : ℕ) where
  abbrev Goes : Leg → Type 0
  Goes = GoesBy l w bits n f

  goes_held_or : (why : HeldBy) (m : ℕ) → HeldIf (is_opener f.packet.kind) (m ≡ n) → Goes (held_or f why m)
  goes_held_or why m = at (is_opener f.packet.kind)
    where
      at : (b : Bool) → HeldIf b (m ≡ n) → Goes (if b then Judged (verdict.Held why) last.Ring else Chosen m load.Head)
      at true h = tt
      at false h = h

  goes_filtering : (rest : List ℕ) → GoesBits bits f n rest → Goes (filtering f rest)
  goes_filtering [] h = goes_held_or by.Transit f.vip.cur h
  goes_filtering (bit ∷ rest) h = h

  goes_missed : (p : Phase) → GoesMissed l bits f n p → Goes (missed_in l f p)
  goes_missed Steady h = h
  goes_missed Recording h = h
  goes_missed Holding h = goes_held_or by.Hold f.vip.cur h
  goes_missed Transit h = goes_filtering (key_bits l f.packet.key) h

  -- places are looked at from here on
  pub goes_looking : (rest : List Place) → GoesPlaces l w bits f n rest → Goes (looking l f rest)
  goes_looking [] h = goes_missed f.vip.phase h
  goes_looking (place ∷ rest) h = h

  goes_looked : (place : Place) (rest : List Place) (t : Said) → GoesSaid (is_opener f.packet.kind) n t (GoesPlaces l w bits f n rest)
      → Goes (looked l f place rest t)
  goes_looked place rest said.Nothing h = goes_looking rest h
  goes_looked place rest said.Reserved h = at (is_opener f.packet.kind) h
    where
      at : (b : Bool) → HeldIf b (GoesPlaces l w bits f n rest) → Goes (if b then Judged (verdict.Held by.Clash) last.Ring else looking l f rest)
      at true h = tt
      at false h = goes_looking rest h
  goes_looked place rest (said.Live m) h = h

  goes_filtered : (rest : List ℕ) (set : Bool) → GoesBit set (GoesBits bits f n rest) f n → Goes (filtered f rest set)
  goes_filtered rest true h = goes_filtering rest h
  goes_filtered rest false h = h

  goes_loaded : (m : ℕ) (next : Load) (x : ℕ) → m ≡ n → Goes (loaded l f m next x)
  goes_loaded m load.Head x h = h
  goes_loaded m (load.Member head) x h = h
  goes_loaded m (load.Down pool server) x h = at (read_flag x)
    where
      at : (b : Bool) → GoesVerdict n (verdict_by b server m pool)
      at true = h
      at false = h

  goes_ring : (v : Verdict) (empty : Bool) → GoesVerdict n v → GoesVerdict n (verdict_at f v empty)
  goes_ring v true h = h
  goes_ring v false h = at (is_opener f.packet.kind)
    where
      at : (b : Bool) → GoesVerdict n (if b then verdict.Full else v)
      at true = tt
      at false = h

  pub own_goes : (leg : Leg) (x : ℕ) → Answered w bits leg x → Goes leg → OnLeg (leg_after l f leg x) (λ g next. Goes next)
  own_goes (Look place rest) x a h =
      subst (λ z. Goes (looked l f place rest (says l place f.packet.key z))) (sym a) (goes_looked place rest (says l place f.packet.key (w place)) h)
  own_goes (Hit place m) x a h = goes_held_or by.Clash m h
  own_goes (Filter bit rest) x a h = subst (λ z. Goes (filtered f rest (has_bit bit z))) (sym a) (goes_filtered rest (has_bit bit (bits (filter_word bit))) h)
  own_goes (Chosen m next) x a h = goes_loaded m next x h
  own_goes (Judged v last.Ring) x a h = goes_ring v (x == 0) h
  own_goes (Judged v (last.Mark bit rest)) x a h = h
  own_goes (Judged v last.Push) x a h = h
  own_goes (Judged v last.Out) x a h = tt
