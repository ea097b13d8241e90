-- An opener that nothing has matched is still to look at each place that speaks to its key, but perhaps for one that was reserved behind it.
use Rattle.std.proofs.Common.{◌≡◌, ℕ, Bool, true, false, ◌⊎◌, List, [], ◌∷◌, if◌then◌else◌, ◌==◌, sym, refl, ap, ◌∙◌, subst, inl, inr}
use Rattle.sr_base.specs.Layout.{LayoutView}
use Rattle.sr_base.specs.declared.kind.Kind.{Kind}
use Rattle.sr_base.specs.declared.kind.Kind.TheVariants.{Opener, Carry, Ending}
use Rattle.sr_base.specs.declared.place.Place.{Place}
use Rattle.sr_base.specs.declared.vip_word.Phase.{Phase}
use Rattle.sr_base.specs.declared.vip_word.Phase.TheVariants.{Steady, Recording, Holding, Transit}
use Rattle.sr_inv_facts.specs.Doing.{MissedReserved}
use Rattle.sr_inv_facts.specs.Flying.{IfMissed, IfOpener, OnLeg, OnMissing, OnUnmatched}
use Rattle.sr_inv_facts.specs.InMatching.{Unmatched}
use Rattle.sr_inv_facts.specs.Readings.{In, Speaks}
use Rattle.sr_law.specs.declared.verdict.Verdict.{Verdict}
use Rattle.sr_machine.specs.Reads.{has_bit, read_flag, says}
use Rattle.sr_machine.specs.Stages.{begun_flight, filtered, filtering, held_or, is_opener, key_bits, key_places, last_at, last_by, leg_after, loaded, looked, looking, missed_in, stage_after, verdict_at, verdict_by}
use Rattle.sr_machine.specs.declared.flight.Flight.{Flight}
use Rattle.sr_machine.specs.declared.job.Job.{Job}
use Rattle.sr_machine.specs.declared.leg.Leg.{Leg}
use Rattle.sr_machine.specs.declared.leg.Leg.TheVariants.{Look, Hit, Filter, Chosen, Judged}
use Rattle.sr_machine.specs.declared.leg.Load.{Load}
use Rattle.sr_machine.specs.declared.said.Said.{Said}
use Rattle.sr_machine.specs.declared.stage.Stage.{Stage}
use Rattle.sr_machine.specs.declared.stage.Stage.TheVariants.{Idle, Enter, Note, Vip, Fly, Leave}
use Rattle.sr_inv_matching.proofs.KeyPlaces.{place_looked}
use Rattle.sr_machine.specs.declared.said.Said.TheVariants as said
use Rattle.sr_machine.specs.declared.leg.Last.TheVariants as last
use Rattle.sr_machine.specs.declared.leg.Load.TheVariants as load
use Rattle.sr_law.specs.declared.verdict.Verdict.TheVariants as verdict
use Rattle.sr_law.specs.declared.verdict.HeldBy.{HeldBy}
use Rattle.sr_law.specs.declared.verdict.HeldBy.TheVariants as by

-- ---- openers

pub opener_fact : (kind : Kind) (P : Type 0) → (kind ≡ Opener → P) → IfOpener kind P
opener_fact Opener P h = h refl
opener_fact Carry P h = tt
opener_fact Ending P h = tt

pub opener_has : (kind : Kind) (P : Type 0) → kind ≡ Opener → IfOpener kind P → P
opener_has Opener P e h = h
opener_has Carry P e h = absurd cc
opener_has Ending P e h = absurd cc

pub opener_then : (kind : Kind) (P Q : Type 0) → (kind ≡ Opener → P → Q) → IfOpener kind P → IfOpener kind Q
opener_then Opener P Q f h = f refl h
opener_then Carry P Q f h = tt
opener_then Ending P Q f h = tt

-- ---- how far it has come, by what was found

module _ (l : LayoutView) (f : Flight) (P : List Place → Type 0) where
  held_or_missing : (why : HeldBy) (n : ℕ) → P [] → OnMissing (held_or f why n) P
  held_or_missing why n h = at (is_opener f.packet.kind) why
    where
      at : (b : Bool) (why : HeldBy) → OnMissing (if b then Judged (verdict.Held why) last.Ring else Chosen n load.Head) P
      at true by.Clash = tt
      at true by.Hold = h
      at true by.Transit = h
      at false why = h

  filtering_missing : (bits : List ℕ) → P [] → OnMissing (filtering f bits) P
  filtering_missing [] h = held_or_missing by.Transit f.vip.cur h
  filtering_missing (bit ∷ rest) h = h

  missed_missing : (p : Phase) → P [] → OnMissing (missed_in l f p) P
  missed_missing Steady h = h
  missed_missing Recording h = h
  missed_missing Holding h = held_or_missing by.Hold f.vip.cur h
  missed_missing Transit h = filtering_missing (key_bits l f.packet.key) h

  looking_missing : (rest : List Place) → P rest → OnMissing (looking l f rest) P
  looking_missing [] h = missed_missing f.vip.phase h
  looking_missing (place ∷ rest) h = h

  looked_missing : (place : Place) (rest : List Place) (t : Said) → f.packet.kind ≡ Opener → (t ≡ said.Nothing → P rest)
      → OnMissing (looked l f place rest t) P
  looked_missing place rest said.Nothing e h = looking_missing rest (h refl)
  looked_missing place rest said.Reserved e h =
      subst (λ b. OnMissing (if b then Judged (verdict.Held by.Clash) last.Ring else looking l f rest) P) (sym (ap is_opener e)) tt
  looked_missing place rest (said.Live n) e h = tt

  filtered_missing : (rest : List ℕ) (set : Bool) → P [] → OnMissing (filtered f rest set) P
  filtered_missing rest true h = filtering_missing rest h
  filtered_missing rest false h = h

  loaded_missing : (n : ℕ) (next : Load) (x : ℕ) → P [] → OnMissing (loaded l f n next x) P
  loaded_missing n load.Head x h = h
  loaded_missing n (load.Member head) x h = h
  loaded_missing n (load.Down pool server) x h = at (read_flag x)
    where
      at : (b : Bool) → OnMissing (Judged (verdict_by b server n pool) (last_by f.packet.kind b)) P
      at true = h
      at false = h

  ring_missing : (v : Verdict) (empty : Bool) → OnMissing (Judged v last.Ring) P
      → OnMissing (Judged (verdict_at f v empty) (last_at l f v empty)) P
  ring_missing v true h = h
  ring_missing v false h = at (is_opener f.packet.kind)
    where
      at : (b : Bool) → IfMissed (if b then verdict.Full else v) (P [])
      at true = tt
      at false = h

  -- a step of an opener that nothing has matched
  leg_missing : (leg : Leg) (x : ℕ) → f.packet.kind ≡ Opener
      → ((place : Place) (rest : List Place) → leg ≡ Look place rest → says l place f.packet.key x ≡ said.Nothing → P (place ∷ rest) → P rest)
      → OnMissing leg P → OnLeg (leg_after l f leg x) (λ g next. OnMissing next P)
  leg_missing (Look place rest) x e m h = looked_missing place rest (says l place f.packet.key x) e (λ q. m place rest refl q h)
  leg_missing (Hit place n) x e m h =
      subst (λ b. OnMissing (if b then Judged (verdict.Held by.Clash) last.Ring else Chosen n load.Head) P) (sym (ap is_opener e)) tt
  leg_missing (Filter bit rest) x e m h = filtered_missing rest (has_bit bit x) h
  leg_missing (Chosen n next) x e m h = loaded_missing n next x h
  leg_missing (Judged v last.Ring) x e m h = ring_missing v (x == 0) h
  leg_missing (Judged v (last.Mark bit rest)) x e m h = h
  leg_missing (Judged v last.Push) x e m h = h
  leg_missing (Judged v last.Out) x e m h = tt

-- ---- a packet's step

module _ (l : LayoutView) (w : Place → ℕ) (j : Job) (p : ℕ) where
  -- a place that says nothing needn't be looked at
  passes_by : (f : Flight) (place : Place) (rest : List Place) → says l place f.packet.key (w place) ≡ said.Nothing
      → Unmatched l w j p f (place ∷ rest) → Unmatched l w j p f rest
  passes_by f place rest none h other own sp = at (h other own sp)
    where
      at : In other (place ∷ rest) ⊎ MissedReserved j p f.entered other → In other rest ⊎ MissedReserved j p f.entered other
      at (inl (inl e)) = absurd (subst Speaks (ap (λ z. says l z f.packet.key (w z)) e ∙ none) sp)
      at (inl (inr i)) = inl i
      at (inr m) = inr m

  abbrev Unmet : Flight → Leg → Type 0
  Unmet f leg = OnUnmatched f leg (Unmatched l w j p f)

  opener_leg : (f : Flight) (leg : Leg) (x : ℕ)
      → (f.packet.kind ≡ Opener → OnLeg (leg_after l f leg x) (λ g next. OnMissing next (Unmatched l w j p f)))
      → OnLeg (leg_after l f leg x) Unmet
  opener_leg f (Look place rest) x h = opener_fact f.packet.kind _ h
  opener_leg f (Hit place n) x h = opener_fact f.packet.kind _ h
  opener_leg f (Filter bit rest) x h = opener_fact f.packet.kind _ h
  opener_leg f (Chosen n next) x h = opener_fact f.packet.kind _ h
  opener_leg f (Judged v last.Ring) x h = opener_fact f.packet.kind _ h
  opener_leg f (Judged v (last.Mark bit rest)) x h = opener_fact f.packet.kind _ h
  opener_leg f (Judged v last.Push) x h = opener_fact f.packet.kind _ h
  opener_leg f (Judged v last.Out) x h = tt

  -- a step of its own, by what its look was answered
  pub stage_unmet : (at : Stage) (x : ℕ) → ((f : Flight) (place : Place) (rest : List Place) → at ≡ Fly f (Look place rest) → x ≡ w place)
      → OnLeg at Unmet → OnLeg (stage_after l at x) Unmet
  stage_unmet Idle x q h = tt
  stage_unmet (Enter packet) x q h = tt
  stage_unmet (Note packet e) x q h = tt
  stage_unmet (Vip packet e) x q h =
      let f = begun_flight l packet e x in
      opener_fact packet.kind _ (λ o. looking_missing l f (Unmatched l w j p f) (key_places l packet.key) (λ place own sp. inl (place_looked l packet.key place own)))
  stage_unmet (Fly f leg) x q h =
      opener_leg f leg x (λ o.
      leg_missing l f (Unmatched l w j p f) leg x o
      (λ place rest same none all. passes_by f place rest (ap (says l place f.packet.key) (sym (q f place rest (ap (Fly f) same))) ∙ none) all)
      (opener_has f.packet.kind _ o h))
  stage_unmet (Leave f) x q h = tt
