-- What is known of a key by its version: its entry stands somewhere, or it waits for a place and no place speaks live to it.
use Rattle.std.proofs.Common.{◌≡◌, ℕ, Bool, true, false, true≢false, not, ◌||◌, ◌⊎◌, List, [], ◌∷◌, if◌then◌else◌, Some, None, Option, is_some, sym, refl, ap, ◌∙◌, subst, inl, inr}
use Rattle.std.proofs.lemmas.Option.{same_Some}
use Rattle.sr_base.proofs.Sameness.{same_key-true}
use Rattle.sr_base.specs.Key.{KeyView, same_key}
use Rattle.sr_base.specs.Layout.{LayoutView}
use Rattle.sr_base.specs.declared.place.Place.{Place}
use Rattle.sr_base.specs.declared.ring_word.RingKind.TheVariants.{Learn}
use Rattle.sr_hash.specs.Uses.{is_place_of}
use Rattle.sr_inv_facts.proofs.Books.{found_key}
use Rattle.sr_inv_facts.proofs.Lists.{all_in, end_whole}
use Rattle.sr_inv_facts.specs.Doing.{OnLived}
use Rattle.sr_inv_facts.proofs.Ranges.{entry_fits}
use Rattle.sr_inv_facts.specs.InJobs.{JobHolds, LiveHolds, StandsAt, leaving, leaving_by, leaving_lived, seen}
use Rattle.sr_inv_facts.specs.InMatching.{IsUnspoken, OwnSpeak}
use Rattle.sr_inv_facts.specs.InShape.{PlaceFits}
use Rattle.sr_inv_facts.specs.Invariant.{Invariant}
use Rattle.sr_inv_facts.specs.OnTrack.{GoesMissed, GoesPlaces, GoesSaid, IsKnown}
use Rattle.sr_inv_facts.specs.Readings.{In, IsEnd, SpeaksLive, bit_words, entry_words, ring_words}
use Rattle.sr_inv_matching.proofs.KeyPlaces.{place_looked}
use Rattle.sr_inv_matching.proofs.Members.{in_found}
use Rattle.sr_inv_track.proofs.Missing.{IsKept, learned_kept, pending_kept, present_missed}
use Rattle.sr_inv_track.proofs.Passing.{held_of, looked_own}
use Rattle.sr_inv_track.proofs.Placed.{placed_goes}
use Rattle.sr_machine.specs.Core.{Core, printed}
use Rattle.sr_machine.specs.Deciding.{vip_at}
use Rattle.sr_machine.specs.Reads.{says}
use Rattle.sr_machine.specs.Stages.{is_opener, key_places}
use Rattle.sr_machine.specs.declared.flight.Flight.{Flight}
use Rattle.sr_machine.specs.declared.job.Job.{Job}
use Rattle.sr_machine.specs.declared.put.Aim.{Aim}
use Rattle.sr_machine.specs.declared.put.Put.{Put}
use Rattle.sr_machine.specs.declared.said.Said.{Said}
use Rattle.sr_machine.specs.declared.wait.Wait.{Wait}
use Rattle.sr_shadow.specs.Book.{entry_for}
use Rattle.sr_shadow.specs.Entry.{holds, is_at, is_of, is_outside, is_placed, is_row}
use Rattle.sr_shadow.specs.declared.entry.Entry.{Entry}
use Rattle.sr_machine.specs.declared.draw.Draw.TheVariants as draw
use Rattle.sr_machine.specs.declared.job.Job.TheVariants as job
use Rattle.sr_machine.specs.declared.put.Aim.TheVariants as aim
use Rattle.sr_machine.specs.declared.said.Said.TheVariants as said
use Rattle.sr_machine.specs.declared.store.Store.TheVariants as store
use Rattle.sr_machine.specs.declared.wait.Wait.TheVariants as wait
use Rattle.sr_machine.specs.declared.why.Why.TheVariants as why

none_placed : (e : Entry) (place : Place) → e.place ≡ None → e.place ≡ Some place → ⊥
none_placed e place a b = let n : None ≡ Some place = sym a ∙ b in cc n

module _ (s : Core) (i : Invariant s) where
  abbrev l : LayoutView
  l = s.config.layout

  abbrev es : List Entry
  es = s.controller.book.entries

  abbrev w : Place → ℕ
  w = entry_words s.words

  abbrev bits : ℕ → ℕ
  bits = bit_words s.words

  -- ---- a pending key leaves no place

  module _ (key : KeyView) (e : Entry) (q : entry_for key es ≡ Some e) (none : e.place ≡ None) where
    own_key : key ≡ e.key
    own_key = found_key key es e q

    elsewhere : (of : KeyView) (place : Place) → StandsAt of place es → same_key of e.key ≡ true → ⊥
    elsewhere of place (d, r, t) same =
        let k : of ≡ key = same_key-true of e.key same ∙ sym own_key in
        none_placed e place none (ap (λ z. z.place) (same_Some e d (sym q ∙ (ap (λ z. entry_for z es) (sym k) ∙ r))) ∙ t)

    leaves_none : (p : Put) (a : Aim) → StandsAt p.key p.place es → leaving_by e.key p a ≡ None
    leaves_none p aim.Pending h = refl
    leaves_none p (aim.Held o) h = refl
    leaves_none p (aim.Move from planned) h = at (same_key p.key e.key) refl
      where
        at : (b : Bool) → same_key p.key e.key ≡ b → (if b then Some from else None) ≡ None
        at true t = absurd (elsewhere p.key p.place h t)
        at false t = refl

    lived_none : (wt : Wait) → OnLived wt (LiveHolds es s.controller.held) → leaving_lived e.key wt ≡ None
    lived_none (wait.Live p) h = leaves_none p p.aim h.stands
    lived_none (wait.Judge p) h = refl
    lived_none (wait.Retire of) h = refl
    lived_none (wait.Comes u p) h = refl
    lived_none (wait.Release vip n) h = refl

    job_none : (j : Job) → JobHolds s.config (seen s.controller) (printed s) j → leaving j e.key ≡ None
    job_none (job.Draw (draw.Placed p)) h = leaves_none p p.aim h.1.stands
    job_none (job.Draw (draw.Grace wt)) h = lived_none wt h.1
    job_none (job.Pass g n wt) h = lived_none wt h.1
    job_none (job.Drain n c wt) h = lived_none wt h.1
    job_none (job.Store (store.Empty of place why.Source)) h = at (same_key of e.key) refl
      where
        at : (b : Bool) → same_key of e.key ≡ b → (if b then Some place else None) ≡ None
        at false t = refl
        at true t =
            let k : of ≡ key = same_key-true of e.key t ∙ sym own_key in
            let d : e ≡ h.0 = same_Some e h.0 (sym q ∙ (ap (λ z. entry_for z es) (sym k) ∙ h.1)) in
            absurd (true≢false (sym h.2 ∙ (ap is_placed (sym d) ∙ ap is_some none)))
    job_none j h = refl

    pending_alone : e.also ≡ None
    pending_alone =
        all_in (λ e. e.also ≡ leaving s.controller.job e.key) es e i.jobs.holds.also (in_found (is_of key) es e q) ∙ job_none s.controller.job i.jobs.holds.stands

    -- so no place speaks live to it
    pub pending_unspoken : IsUnspoken l w key
    pending_unspoken place of_key sp =
        let out : is_outside e ≡ true = ap (λ o. not (is_row o)) none in
        let speaks : OwnSpeak l w e = all_in (OwnSpeak l w) es e i.matching.matching.own (in_found (is_of key) es e q) in
        let h : holds place e ≡ true =
        speaks out place (subst (λ k. is_place_of l.shape k place ≡ true) own_key of_key) (subst (λ k. SpeaksLive (says l place k (w place))) own_key sp) in
        true≢false (sym h ∙ (ap (λ o. is_at place o || is_at place e.also) none ∙ ap (is_at place) pending_alone))

  -- ---- what is known

  -- its entry has the version, and stands there
  pub record PlacedAs (key : KeyView) (n : ℕ) : Type 0 where
    pub entry : Entry
    pub found : entry_for key es ≡ Some entry
    pub version : entry.version ≡ n
    pub place : Place
    pub stands : entry.place ≡ Some place

  -- it waits for a place, and no place speaks live to it
  pub record Waits (key : KeyView) (n : ℕ) : Type 0 where
    pub kept : IsKept s i key n
    pub unspoken : IsUnspoken l w key

  pub known_cases : (key : KeyView) (n : ℕ) → IsKnown l (ring_words s.words) es key n → PlacedAs key n ⊎ Waits key n
  known_cases key n (inl (e, q, v)) = at e.place refl
    where
      at : (o : Option Place) → e.place ≡ o → PlacedAs key n ⊎ Waits key n
      at None t =
          inr (record { kept = subst (IsKept s i key) v (pending_kept s i key e q t); unspoken = pending_unspoken key e q t })
      at (Some place) t = inl (record { entry = e; found = q; version = v; place = place; stands = t })
  known_cases key n (inr (pipe, cell, read)) =
      inr (record {
        kept = learned_kept s i key n (pipe, cell, read);
        unspoken = i.matching.matching.unlearned pipe cell (record { kind = Learn; version = n; key = key }) read;
      })

  -- ---- a packet that begins to look

  unspoken_goes : (f : Flight) (n : ℕ) (looks : List Place) → ((place : Place) → In place looks → SpeaksLive (says l place f.packet.key (w place)) → ⊥)
      → GoesMissed l bits f n f.vip.phase → GoesPlaces l w bits f n looks
  unspoken_goes f n [] quiet h = h
  unspoken_goes f n (place ∷ rest) quiet h =
      at (says l place f.packet.key (w place)) (quiet place (inl refl)) (unspoken_goes f n rest (λ p j. quiet p (inr j)) h)
    where
      at : (t : Said) → (SpeaksLive t → ⊥) → GoesPlaces l w bits f n rest → GoesSaid (is_opener f.packet.kind) n t (GoesPlaces l w bits f n rest)
      at said.Nothing silent g = g
      at said.Reserved silent g = held_of (is_opener f.packet.kind) (GoesPlaces l w bits f n rest) g
      at (said.Live m) silent g = absurd (silent tt)

  pub first_goes : (f : Flight) (n : ℕ) → f.vip ≡ vip_at s.controller.vips f.packet.key.vip → IsKnown l (ring_words s.words) es f.packet.key n
      → GoesPlaces l w bits f n (key_places l f.packet.key)
  first_goes f n same known = at (known_cases f.packet.key n known)
    where
      whole : IsEnd (key_places l f.packet.key) (key_places l f.packet.key)
      whole = end_whole (key_places l f.packet.key)

      at : PlacedAs f.packet.key n ⊎ Waits f.packet.key n → GoesPlaces l w bits f n (key_places l f.packet.key)
      at (inl p) =
          let fits = entry_fits s.config i.shape.config.layout s.controller i.shape.book i.shape.controller f.packet.key p.entry p.found in
          let of_key : is_place_of l.shape f.packet.key p.place ≡ true =
          subst (λ k. is_place_of l.shape k p.place ≡ true) (sym (found_key f.packet.key es p.entry p.found)) (subst (PlaceFits l.shape p.entry.key) p.stands fits.place) in
          subst (λ m. GoesPlaces l w bits f m (key_places l f.packet.key)) p.version
          (placed_goes s i f.packet.key p.entry p.found w bits f (key_places l f.packet.key) p.place refl whole (place_looked l f.packet.key p.place of_key) p.stands refl (λ place j c m t. t))
      at (inr k) =
          unspoken_goes f n (key_places l f.packet.key) (λ place j sp. k.unspoken place (looked_own l f.packet.key (key_places l f.packet.key) place whole j) sp)
          (present_missed s i f n k.kept same)
