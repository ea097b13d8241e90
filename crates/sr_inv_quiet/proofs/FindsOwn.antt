-- A packet of a settled entry that is still to look for it finds it, and no other.
use Rattle.sr_base.proofs.Sameness.{same_key-self, same_key-true, same_place-true}
use Rattle.sr_base.specs.Key.{KeyView, same_key}
use Rattle.sr_base.specs.Layout.{LayoutView}
use Rattle.sr_base.specs.Place.{same_place}
use Rattle.sr_base.specs.declared.place.Place.{Place}
use Rattle.sr_base.specs.declared.place.Place.TheVariants.{Row, Slot}
use Rattle.sr_hash.specs.Uses.{is_place_of}
use Rattle.sr_inv_facts.proofs.FoundVersions.{FoundEntry, FoundOver, version_found}
use Rattle.sr_inv_facts.proofs.Lists.{all_back, all_in, in_end}
use Rattle.sr_inv_facts.specs.InJobs.{JobHolds, seen}
use Rattle.sr_inv_facts.specs.InMatching.{OwnSpeak}
use Rattle.sr_inv_facts.specs.Invariant.{Invariant}
use Rattle.sr_inv_facts.specs.Readings.{In, IsEnd, SpeaksLive, entry_words}
use Rattle.sr_inv_matching.proofs.Members.{in_found, in_own, member_other}
use Rattle.sr_inv_matching.proofs.Saying.{at_held, own_said}
use Rattle.sr_inv_verdicts.proofs.OwnPlaces.{looked_own}
use Rattle.sr_machine.specs.Core.{Core, printed}
use Rattle.sr_machine.specs.Reads.{says}
use Rattle.sr_machine.specs.Stages.{key_places}
use Rattle.sr_machine.specs.declared.job.Job.{Job}
use Rattle.sr_shadow.proofs.Finding.{found_passes}
use Rattle.sr_shadow.specs.Book.{entry_for, is_registered}
use Rattle.sr_shadow.specs.Entry.{holds, is_at, is_outside, is_row, is_slot}
use Rattle.sr_shadow.specs.declared.entry.Entry.{Entry}
use Rattle.std.proofs.Common.{Bool, List, None, Some, [], ap, false, inl, inr, not, refl, subst, sym, true, true≢false, ℕ, ◌++◌, ◌||◌, ◌∙◌, ◌∷◌, ◌≡◌, ◌⊎◌}
use Rattle.std.proofs.lemmas.Option.{same_Some}
use Rattle.std.specs.List.{AllByRecursion}
use Rattle.sr_machine.specs.declared.store.Store.TheVariants as store
use Rattle.sr_machine.specs.declared.why.Why.TheVariants as why
use Rattle.sr_machine.specs.declared.job.Job.TheVariants as job
use Rattle.sr_machine.specs.declared.said.Said.TheVariants as said
use Rattle.sr_machine.specs.declared.name.Name.TheVariants as name

-- once a slot is looked at, only slots are left
abbrev AllSlots : List Place → Type 0
AllSlots places = AllByRecursion (λ p. is_slot p ≡ true) places

abbrev RowsFirst : List Place → Type 0
RowsFirst [] = Unit {0}
RowsFirst (Row row ∷ rest) = RowsFirst rest
RowsFirst (Slot way bucket cell ∷ rest) = AllSlots rest

rows_first : (l : LayoutView) (key : KeyView) → RowsFirst (key_places l key)
rows_first l key = (refl, (refl, (refl, (refl, (refl, (refl, (refl, tt)))))))

slots_left : (way bucket cell : ℕ) (rest front : List Place) → RowsFirst (front ++ Slot way bucket cell ∷ rest) → AllSlots rest
slots_left way bucket cell rest [] h = h
slots_left way bucket cell rest (Row row ∷ front) h = slots_left way bucket cell rest front h
slots_left way bucket cell rest (Slot a b c ∷ front) h = (all_back (λ p. is_slot p ≡ true) front (Slot way bucket cell ∷ rest) h).1

-- so no row is
pub no_row_left : (l : LayoutView) (key : KeyView) (way bucket cell row : ℕ) (rest : List Place) → IsEnd (Slot way bucket cell ∷ rest) (key_places l key)
    → In (Row row) (Slot way bucket cell ∷ rest) → ⊥
no_row_left l key way bucket cell row rest (front, q) (inl e) = apart e
  where
    apart : Row row ≡ Slot way bucket cell → ⊥
    apart z = cc
no_row_left l key way bucket cell row rest (front, q) (inr m) =
    true≢false (sym (all_in (λ p. is_slot p ≡ true) rest (Row row) (slots_left way bucket cell rest front (subst RowsFirst q (rows_first l key))) m))

module _ (s : Core) (i : Invariant s) (e : Entry) (m : In e s.controller.book.entries) (also : e.also ≡ None) (place : Place) (q : e.place ≡ Some place) where
  abbrev l : LayoutView
  l = s.config.layout

  abbrev es : List Entry
  es = s.controller.book.entries

  found : entry_for e.key s.controller.book.entries ≡ Some e
  found = in_own s.controller.book.entries e i.shape.book.distinct m

  -- its place says its version to its key
  pub place_says : says s.config.layout place e.key (s.words (name.Entry place)) ≡ said.Live e.version
  place_says = own_said s i e.key e place found (at_held place e q)

  -- and it is at no other
  pub only_place : (at : Place) → holds at e ≡ true → at ≡ place
  only_place at h = by (same_place at place) (sym (ap (λ o. is_at at o || is_at at e.also) q ∙ ap (λ o. same_place at place || is_at at o) also) ∙ h) refl
    where
      by : (b : Bool) → (b || false) ≡ true → same_place at place ≡ b → at ≡ place
      by true z w = same_place-true at place w
      by false z w = cc

  version_is : (at : Place) (n : ℕ) → says s.config.layout at e.key (s.words (name.Entry at)) ≡ said.Live n → at ≡ place → n ≡ e.version
  version_is at n said_so same =
      live_same (sym (subst (λ z. says s.config.layout z e.key (s.words (name.Entry z)) ≡ said.Live n) same said_so) ∙ place_says)
    where
      live_same : said.Live n ≡ said.Live e.version → n ≡ e.version
      live_same z = cc

  -- a row that says to its key that an entry is live is its own
  own_row : (row n : ℕ) → says s.config.layout (Row row) e.key (s.words (name.Entry (Row row))) ≡ said.Live n → Row row ≡ place
  own_row row n said_so = at (version_found s i (Row row) e.key n said_so)
    where
      over : (j : Job) → s.controller.job ≡ j → FoundOver s.config.layout j (Row row) e.key n → ⊥
      over (job.Store (store.Empty own at (why.Retired version))) g h =
          let none : is_registered own es ≡ false = (subst (JobHolds s.config (seen s.controller) (printed s)) g i.jobs.holds.stands).1 in
          let same : e.key ≡ own = same_key-true e.key own h.2 in
          true≢false (sym (ap (same_key own) same ∙ same_key-self own) ∙ member_other own es e none m)
      over j g h = absurd h

      at : FoundEntry s.config.layout s.controller.book.entries (Row row) e.key n ⊎ FoundOver s.config.layout s.controller.job (Row row) e.key n → Row row ≡ place
      at (inl w) =
          let own : e.key ≡ w.entry.key = same_key-true e.key w.entry.key w.stands in
          let inside : In w.entry es = in_found (holds (Row row)) es w.entry w.holder in
          let same : w.entry ≡ e =
          same_Some w.entry e (sym (in_own es w.entry i.shape.book.distinct inside) ∙ (ap (λ z. entry_for z es) (sym own) ∙ found)) in
          only_place (Row row) (ap (holds (Row row)) (sym same) ∙ found_passes (holds (Row row)) es w.entry w.holder)
      at (inr w) = absurd (over s.controller.job refl w)

  -- what is found is the entry
  pub finds_own : (at : Place) (rest : List Place) (n : ℕ) → IsEnd (at ∷ rest) (key_places s.config.layout e.key) → In place (at ∷ rest)
      → says s.config.layout at e.key (s.words (name.Entry at)) ≡ said.Live n → (at ≡ place) × (n ≡ e.version)
  finds_own at rest n end here said_so = let same = by (is_outside e) refl in (same, version_is at n said_so same)
    where
      looked : is_place_of s.config.layout.shape e.key at ≡ true
      looked = looked_own s.config.layout e.key at (in_end at (at ∷ rest) (key_places s.config.layout e.key) end (inl refl))

      row : (p : Place) → place ≡ p → is_row (Some p) ≡ true → (a : Place) → at ≡ a → at ≡ place
      row (Slot way bucket cell) d r a f = cc
      row (Row number) d r (Row other) f =
          f ∙ own_row other n (subst (λ z. says s.config.layout z e.key (s.words (name.Entry z)) ≡ said.Live n) f said_so)
      row (Row number) d r (Slot way bucket cell) f =
          absurd (no_row_left s.config.layout e.key way bucket cell number rest (subst (λ z. IsEnd (z ∷ rest) (key_places s.config.layout e.key)) f end)
          (subst (λ z. In z (Slot way bucket cell ∷ rest)) d (subst (λ z. In place (z ∷ rest)) f here)))

      by : (b : Bool) → is_outside e ≡ b → at ≡ place
      by true o =
          only_place at (all_in (OwnSpeak s.config.layout (entry_words s.words)) es e i.matching.matching.own m o at looked (subst SpeaksLive (sym said_so) tt))
      by false o = row place refl (two (is_row (Some place)) (sym (ap (λ z. not (is_row z)) q) ∙ o)) at refl
        where
          two : (b : Bool) → not b ≡ false → b ≡ true
          two true z = refl
          two false z = cc
