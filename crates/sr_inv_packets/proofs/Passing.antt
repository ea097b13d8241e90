-- What a packet knows that a grace has passed, or that entered after it began.
use Rattle.std.proofs.Common.{◌≡◌, ℕ, ◌≢◌, ◌⊎◌, true, List, [], ◌∷◌, IfSome, Some, sym, ap, ◌∙◌, subst, inl, inr, arith}
use Rattle.sr_base.specs.declared.kind.Kind.{Kind}
use Rattle.sr_base.specs.declared.kind.Kind.TheVariants.{Opener, Carry, Ending}
use Rattle.sr_base.specs.declared.place.Place.{Place}
use Rattle.sr_base.specs.declared.vip_word.Phase.{Phase}
use Rattle.sr_hash.specs.Uses.{is_place_of}
use Rattle.sr_inv_facts.specs.Doing.{HasEarlier, IsUnpassed, MissedLive, MissedReserved, OnReleased}
use Rattle.sr_inv_facts.specs.Flying.{IfMissed, IfOpener, OnLook, OnMissing, OnNumber, OnUnmatched}
use Rattle.sr_inv_facts.specs.InFlight.{FlightHolds, LegHolds}
use Rattle.sr_inv_facts.specs.InJobs.{JobHolds, StandsAt, seen}
use Rattle.sr_inv_facts.specs.InMatching.{LooksOn, Unmatched}
use Rattle.sr_inv_facts.specs.Invariant.{Invariant}
use Rattle.sr_inv_facts.specs.Readings.{In, Speaks, bit_words, entry_words}
use Rattle.sr_inv_packets.proofs.Numbers.{vip_loaded}
use Rattle.sr_inv_packets.proofs.Parts.{leg_both, leg_then}
use Rattle.sr_inv_packets.specs.Filter.{word_of}
use Rattle.sr_inv_packets.specs.Passing.{HasPassed, KnowsStore, PassedKnow}
use Rattle.sr_law.specs.declared.verdict.Verdict.{Verdict}
use Rattle.sr_machine.specs.Core.{Core, printed}
use Rattle.sr_machine.specs.Deciding.{vip_at}
use Rattle.sr_machine.specs.Reads.{says}
use Rattle.sr_machine.specs.declared.flight.Flight.{Flight}
use Rattle.sr_machine.specs.declared.leg.Leg.{Leg}
use Rattle.sr_machine.specs.declared.leg.Leg.TheVariants.{Look, Hit, Filter, Chosen, Judged}
use Rattle.sr_machine.specs.declared.pipe_view.PipeView.{PipeView}
use Rattle.sr_machine.specs.declared.pool_update.PoolUpdate.{PoolUpdate}
use Rattle.sr_machine.specs.declared.put.Put.{Put}
use Rattle.sr_shadow.specs.Book.{entry_for}
use Rattle.sr_law.specs.declared.verdict.HeldBy.TheVariants as by
use Rattle.sr_law.specs.declared.verdict.Verdict.TheVariants as verdict
use Rattle.sr_machine.specs.declared.job.Job.TheVariants as job
use Rattle.sr_machine.specs.declared.name.Name.TheVariants as name
use Rattle.sr_machine.specs.declared.wait.Wait.TheVariants as wait

missed_then : (v : Verdict) (M N : Type 0) → (M → N) → IfMissed v M → IfMissed v N
missed_then (verdict.To server version pool) M N turn h = turn h
missed_then (verdict.Held by.Clash) M N turn h = tt
missed_then (verdict.Held by.Hold) M N turn h = turn h
missed_then (verdict.Held by.Transit) M N turn h = turn h
missed_then (verdict.Down server version pool) M N turn h = turn h
missed_then verdict.Full M N turn h = tt
missed_then verdict.NoPlace M N turn h = turn h

missing_then : (leg : Leg) (M N : List Place → Type 0) → ((looks : List Place) → M looks → N looks) → OnMissing leg M → OnMissing leg N
missing_then (Look place rest) M N turn h = turn (place ∷ rest) h
missing_then (Hit place version) M N turn h = tt
missing_then (Filter bit rest) M N turn h = turn [] h
missing_then (Chosen version load) M N turn h = turn [] h
missing_then (Judged v at) M N turn h = missed_then v (M []) (N []) (turn []) h

opener_then : (k : Kind) (M N : Type 0) → (M → N) → IfOpener k M → IfOpener k N
opener_then Opener M N turn h = turn h
opener_then Carry M N turn h = tt
opener_then Ending M N turn h = tt

look_then : (leg : Leg) (M N : List Place → Type 0) → ((looks : List Place) → M looks → N looks) → OnLook leg M → OnLook leg N
look_then (Look place rest) M N turn h = turn (place ∷ rest) h
look_then leg M N turn h = tt

not_under_way : (grace pipe p : ℕ) (f : Flight) → HasPassed grace pipe p f → IsUnpassed grace pipe p f.entered → ⊥
not_under_way grace pipe p f (inl h) u = let low = u.0 in omega (arith, h, low)
not_under_way grace pipe p f (inr h) u = let low = u.1 in omega (arith, h, low)

module _ (s : Core) (i : Invariant s) (grace pipe : ℕ) where
  comes : (u : PoolUpdate) (q : Phase) → s.controller.job ≡ job.Pass grace pipe (wait.Comes u q) → (p : ℕ) (f : Flight)
      → FlightHolds s.controller.vips s.controller.job (printed s) p f → HasPassed grace pipe p f → f.vip ≡ word_of s f.packet.key.vip
  comes u q e p f a h = at a.word
    where
      at : (f.vip ≡ vip_at s.controller.vips f.packet.key.vip) ⊎ HasEarlier s.controller.job p f.entered f.packet.key.vip f.vip → f.vip ≡ word_of s f.packet.key.vip
      at (inl w) = w ∙ sym (vip_loaded s i f.packet.key.vip)
      at (inr w) =
          let t = subst (λ j. HasEarlier j p f.entered f.packet.key.vip f.vip) e w in absurd (not_under_way grace pipe p f h t.1)

  judges : (q : Put) → s.controller.job ≡ job.Pass grace pipe (wait.Judge q) → (p : ℕ) (f : Flight) (leg : Leg)
      → OnUnmatched f leg (Unmatched s.config.layout (entry_words s.words) s.controller.job p f) → HasPassed grace pipe p f
      → KnowsStore s (wait.Judge q) f leg
  judges q e p f leg h passed =
      opener_then f.packet.kind (OnMissing leg (Unmatched s.config.layout (entry_words s.words) s.controller.job p f)) (OnMissing leg Sees)
      (missing_then leg (Unmatched s.config.layout (entry_words s.words) s.controller.job p f) Sees sees) h
    where
      Sees : List Place → Type 0
      Sees looks =
          is_place_of s.config.layout.shape f.packet.key q.place ≡ true
          → Speaks (says s.config.layout q.place f.packet.key (s.words (name.Entry q.place))) → In q.place looks

      sees : (looks : List Place) → Unmatched s.config.layout (entry_words s.words) s.controller.job p f looks → Sees looks
      sees looks u own speaks = at (u q.place own speaks)
        where
          at : In q.place looks ⊎ MissedReserved s.controller.job p f.entered q.place → In q.place looks
          at (inl x) = x
          at (inr x) =
              let t = subst (λ j. MissedReserved j p f.entered q.place) e x in absurd (not_under_way grace pipe p f passed t.1)

  lives : (q : Put) → s.controller.job ≡ job.Pass grace pipe (wait.Live q) → (p : ℕ) (f : Flight) (leg : Leg)
      → OnLook leg (LooksOn s.controller.job p s.controller.book.entries f) → HasPassed grace pipe p f → KnowsStore s (wait.Live q) f leg
  lives q e p f leg h passed =
      look_then leg (LooksOn s.controller.job p s.controller.book.entries f) (λ looks. f.packet.key ≡ q.key → In q.place looks) sees h
    where
      stands : StandsAt q.key q.place s.controller.book.entries
      stands = (subst (JobHolds s.config (seen s.controller) (printed s)) e i.jobs.holds.stands).1.stands

      sees : (looks : List Place) → LooksOn s.controller.job p s.controller.book.entries f looks → f.packet.key ≡ q.key → In q.place looks
      sees looks l same = at (subst (λ o. IfSome o Finds) stands.2 (subst (λ o. IfSome o (λ x. IfSome x.place Finds)) found l))
        where
          Finds : Place → Type 0
          Finds place = In place looks ⊎ MissedLive s.controller.job p f.entered f.packet.key

          found : entry_for f.packet.key s.controller.book.entries ≡ Some stands.0
          found = ap (λ k. entry_for k s.controller.book.entries) same ∙ stands.1

          at : Finds q.place → In q.place looks
          at (inl x) = x
          at (inr x) =
              let t = subst (λ j. MissedLive j p f.entered f.packet.key) e x in absurd (not_under_way grace pipe p f passed t.1)

  releases : (vip version : ℕ) → s.controller.job ≡ job.Pass grace pipe (wait.Release vip version) → (p : ℕ) (v : PipeView) (f : Flight) (leg : Leg)
      → LegHolds s.config (bit_words s.words) s.controller.named s.controller.numbers s.controller.rings s.controller.job p v.pushed f leg
      → HasPassed grace pipe p f → KnowsStore s (wait.Release vip version) f leg
  releases vip version e p v f leg h passed =
      subst (λ j. OnReleased j p f.entered (λ vip version. f.packet.key.vip ≡ vip → OnNumber leg (λ n. n ≢ version))) e h.release passed

pub passed_know : PassedKnow
passed_know s i grace pipe (wait.Judge q) e p v g =
    leg_then v.stage (λ f leg. OnUnmatched f leg (Unmatched s.config.layout (entry_words s.words) s.controller.job p f))
    (λ f leg. HasPassed grace pipe p f → KnowsStore s (wait.Judge q) f leg) (λ f leg h. judges s i grace pipe q e p f leg h)
    (i.matching.matching.unmatched p v g)
passed_know s i grace pipe (wait.Live q) e p v g =
    leg_then v.stage (λ f leg. OnLook leg (LooksOn s.controller.job p s.controller.book.entries f))
    (λ f leg. HasPassed grace pipe p f → KnowsStore s (wait.Live q) f leg) (λ f leg h. lives s i grace pipe q e p f leg h)
    (i.matching.matching.looks p v g)
passed_know s i grace pipe (wait.Retire key) e p v g =
    leg_then v.stage (λ f leg. OnLook leg (LooksOn s.controller.job p s.controller.book.entries f))
    (λ f leg. HasPassed grace pipe p f → KnowsStore s (wait.Retire key) f leg) (λ f leg h passed. tt) (i.matching.matching.looks p v g)
passed_know s i grace pipe (wait.Comes u q) e p v g =
    leg_both v.stage (FlightHolds s.controller.vips s.controller.job (printed s) p)
    (LegHolds s.config (bit_words s.words) s.controller.named s.controller.numbers s.controller.rings s.controller.job p v.pushed)
    (λ f leg. HasPassed grace pipe p f → KnowsStore s (wait.Comes u q) f leg) (λ f leg a h. comes s i grace pipe u q e p f a)
    (i.flight.flights p v g) (i.flight.legs p v g)
passed_know s i grace pipe (wait.Release vip version) e p v g =
    leg_then v.stage
    (LegHolds s.config (bit_words s.words) s.controller.named s.controller.numbers s.controller.rings s.controller.job p v.pushed)
    (λ f leg. HasPassed grace pipe p f → KnowsStore s (wait.Release vip version) f leg)
    (λ f leg h. releases s i grace pipe vip version e p v f leg h) (i.flight.legs p v g)
