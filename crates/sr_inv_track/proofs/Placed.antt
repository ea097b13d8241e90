-- Where a packet goes whose key's entry stands at a place that it is still to look at.
use Rattle.std.proofs.Common.{◌≡◌, ℕ, true, true≢false, not, ◌⊎◌, List, Some, sym, refl, ap, ◌∙◌, subst, inl, inr}
use Rattle.std.proofs.lemmas.Option.{same_Some}
use Rattle.sr_base.proofs.Sameness.{same_key-true}
use Rattle.sr_base.specs.Key.{KeyView}
use Rattle.sr_base.specs.Layout.{LayoutView}
use Rattle.sr_base.specs.declared.place.Place.{Place}
use Rattle.sr_base.specs.declared.place.Place.TheVariants.{Row, Slot}
use Rattle.sr_hash.specs.Uses.{is_place_of}
use Rattle.sr_inv_facts.proofs.Books.{found_key}
use Rattle.sr_inv_facts.proofs.FoundVersions.{FoundEntry, FoundOver, version_found}
use Rattle.sr_inv_facts.proofs.Lists.{all_in}
use Rattle.sr_inv_facts.specs.InJobs.{JobHolds, seen}
use Rattle.sr_inv_facts.specs.InMatching.{OwnSpeak}
use Rattle.sr_inv_facts.specs.Invariant.{Invariant}
use Rattle.sr_inv_facts.specs.OnTrack.{GoesPlaces}
use Rattle.sr_inv_facts.specs.Readings.{In, IsEnd, SpeaksLive, entry_words}
use Rattle.sr_inv_matching.proofs.Members.{in_found, in_own, registered_found}
use Rattle.sr_inv_matching.proofs.Saying.{at_held, own_said}
use Rattle.sr_inv_track.proofs.Passing.{end_leads, found_goes, looked_own, row_goes}
use Rattle.sr_machine.specs.Core.{Core, printed}
use Rattle.sr_machine.specs.Reads.{says}
use Rattle.sr_machine.specs.Stages.{key_places}
use Rattle.sr_machine.specs.declared.flight.Flight.{Flight}
use Rattle.sr_machine.specs.declared.job.Job.{Job}
use Rattle.sr_machine.specs.declared.said.Said.{Said}
use Rattle.sr_shadow.specs.Book.{entry_for, is_registered}
use Rattle.sr_shadow.specs.Entry.{holds, is_of, is_outside, is_row}
use Rattle.sr_shadow.specs.declared.entry.Entry.{Entry}
use Rattle.sr_machine.specs.declared.job.Job.TheVariants as job
use Rattle.sr_machine.specs.declared.said.Said.TheVariants as said
use Rattle.sr_machine.specs.declared.store.Store.TheVariants as store
use Rattle.sr_machine.specs.declared.why.Why.TheVariants as why

pub live_speaks_so : (t : Said) (m : ℕ) → t ≡ said.Live m → SpeaksLive t
live_speaks_so t m e = subst SpeaksLive (sym e) tt

live_same : (t : Said) (a b : ℕ) → t ≡ said.Live a → t ≡ said.Live b → a ≡ b
live_same t a b e f = cc (sym e ∙ f)

module _ (s : Core) (i : Invariant s) where
  abbrev l : LayoutView
  l = s.config.layout

  abbrev es : List Entry
  es = s.controller.book.entries

  abbrev w : Place → ℕ
  w = entry_words s.words

  module _ (key : KeyView) (e : Entry) (q : entry_for key es ≡ Some e) where
    own : key ≡ e.key
    own = found_key key es e q

    -- where an entry is outside the full-key table, what speaks live to its key says its version
    pub outside_live : is_outside e ≡ true → (place : Place) (m : ℕ) → is_place_of l.shape key place ≡ true → says l place key (w place) ≡ said.Live m → m ≡ e.version
    outside_live out place m of_key t =
        let speaks : OwnSpeak l w e = all_in (OwnSpeak l w) es e i.matching.matching.own (in_found (is_of key) es e q) in
        let h : holds place e ≡ true =
        speaks out place (subst (λ k. is_place_of l.shape k place ≡ true) own of_key) (subst (λ k. SpeaksLive (says l place k (w place))) own (live_speaks_so (says l place key (w place)) m t)) in
        live_same (says l place key (w place)) m e.version t (own_said s i key e place q h)

    -- so does what a row says
    pub row_live : (row m : ℕ) → says l (Row row) key (w (Row row)) ≡ said.Live m → m ≡ e.version
    row_live row m t = at (version_found s i (Row row) key m t)
      where
        over : (j : Job) → s.controller.job ≡ j → FoundOver l j (Row row) key m → ⊥
        over (job.Store (store.Empty of at (why.Retired version))) r h =
            let gone = (subst (JobHolds s.config (seen s.controller) (printed s)) r i.jobs.holds.stands).1 in
            true≢false (sym (registered_found key es e q) ∙ (ap (λ k. is_registered k es) (same_key-true key of h.2) ∙ gone))
        over j r h = h

        at : FoundEntry l es (Row row) key m ⊎ FoundOver l s.controller.job (Row row) key m → m ≡ e.version
        at (inr h) = absurd (over s.controller.job refl h)
        at (inl h) =
            let same : key ≡ h.entry.key = same_key-true key h.entry.key h.stands in
            let found : entry_for key es ≡ Some h.entry =
            subst (λ k. entry_for k es ≡ Some h.entry) (sym same) (in_own es h.entry i.shape.book.distinct (in_found (holds (Row row)) es h.entry h.holder)) in
            h.version ∙ ap (λ z. z.version) (same_Some h.entry e (sym found ∙ q))

    -- The words may have changed since, where each place that speaks live to the key spoke so before: where an entry is in a row,
    -- only those of rows count.
    abbrev Fewer : (Place → ℕ) → Place → Type 0
    Fewer after place = (m : ℕ) → says l place key (after place) ≡ said.Live m → says l place key (w place) ≡ said.Live m

    pub placed_goes : (after : Place → ℕ) (bits : ℕ → ℕ) (f : Flight) (looks : List Place) (at : Place) → f.packet.key ≡ key → IsEnd looks (key_places l key)
        → In at looks → e.place ≡ Some at → after at ≡ w at
        → ((place : Place) → In place looks → (is_outside e ≡ true) ⊎ ((row : ℕ) × (place ≡ Row row)) → Fewer after place)
        → GoesPlaces l after bits f e.version looks
    placed_goes after bits f looks at of_key end in_looks stands same fewer = by at stands in_looks here refl
      where
        said_now : (place : Place) (m : ℕ) → says l place f.packet.key (after place) ≡ said.Live m → says l place key (after place) ≡ said.Live m
        said_now place m t = ap (λ k. says l place k (after place)) (sym of_key) ∙ t

        here : says l at f.packet.key (after at) ≡ said.Live e.version
        here = ap (λ k. says l at k (after at)) of_key ∙ (ap (says l at key) same ∙ own_said s i key e at q (at_held at e stands))

        by : (place : Place) → e.place ≡ Some place → In place looks → says l place f.packet.key (after place) ≡ said.Live e.version → place ≡ at
            → GoesPlaces l after bits f e.version looks
        by (Row row) r i t z =
            row_goes l f e.version after bits looks row (end_leads l key looks end) i t (λ other m j u.
            row_live other m (fewer (Row other) j (inr (other, refl)) m (said_now (Row other) m u)))
        by (Slot way bucket cell) r i t z =
            let out : is_outside e ≡ true = ap (λ o. not (is_row o)) r in
            found_goes l f e.version after bits looks (Slot way bucket cell) i t (λ place m j u.
            outside_live out place m (looked_own l key looks place end j) (fewer place j (inl out) m (said_now place m u)))
