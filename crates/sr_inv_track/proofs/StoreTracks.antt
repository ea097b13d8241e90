-- A place is reserved, emptied, or comes to be live: packets stay on track.
use Rattle.std.proofs.Common.{◌≡◌, ℕ, ◌+◌, ◌≤◌, Bool, true, false, cond, ◌||◌, ◌⊎◌, List, [], ◌∷◌, sum_by, if◌then◌else◌, option_map, slice_get, Some, None, sym, refl, ap, ◌∙◌, subst, inl, inr, arith}
use Rattle.std.proofs.lemmas.List.Sums.{sum_by-cons}
use Rattle.std.proofs.lemmas.Option.{same_Some}
use Rattle.std.specs.Prelude.{IfSome}
use Rattle.sr_base.proofs.Sameness.{same_place-self, same_place-true}
use Rattle.sr_base.specs.Key.{KeyView}
use Rattle.sr_base.specs.Layout.{LayoutView}
use Rattle.sr_base.specs.Place.{same_place}
use Rattle.sr_base.specs.declared.kind.Kind.{Kind}
use Rattle.sr_base.specs.declared.kind.Kind.TheVariants.{Opener, Carry, Ending}
use Rattle.sr_base.specs.declared.place.Place.{Place}
use Rattle.sr_inv_facts.proofs.Lists.{of_some}
use Rattle.sr_inv_facts.proofs.Ranges.{PutFits, put_fits}
use Rattle.sr_inv_facts.specs.Doing.{MissedLive}
use Rattle.sr_inv_facts.specs.Flying.{OnLeg, OnLook}
use Rattle.sr_inv_facts.specs.InJobs.{JobHolds, PutHolds, seen}
use Rattle.sr_inv_facts.specs.InMatching.{LooksOn}
use Rattle.sr_inv_facts.specs.Invariant.{Invariant}
use Rattle.sr_inv_facts.specs.OnTrack.{GoesPlaces, GoesSaid, HeldIf, IsKnown}
use Rattle.sr_inv_facts.specs.Readings.{EachPipe, In, IsEnd, SpeaksLive, bit_words, entry_words, ring_words}
use Rattle.sr_inv_matching.proofs.Members.{in_found}
use Rattle.sr_inv_matching.proofs.Saying.{at_held, holder_found, unheld_word_is}
use Rattle.sr_inv_track.proofs.JobTracks.{each_tracked}
use Rattle.sr_inv_track.proofs.Known.{PlacedAs, Waits, known_cases}
use Rattle.sr_inv_track.proofs.Missing.{opener_missed}
use Rattle.sr_inv_track.proofs.Passing.{held_of, looked_own, opener_goes, places_then, words_go}
use Rattle.sr_inv_track.proofs.Placed.{placed_goes}
use Rattle.sr_inv_track.proofs.StageTracks.{Tracked, leg_fits, loaded_word, other_kind}
use Rattle.sr_machine.proofs.Written.{empty_says, reserved_says}
use Rattle.sr_machine.specs.Core.{Core, printed}
use Rattle.sr_machine.specs.Reads.{reserved_word, says, stands_for}
use Rattle.sr_machine.specs.Stages.{is_opener, key_places}
use Rattle.sr_machine.specs.declared.flight.Flight.{Flight}
use Rattle.sr_machine.specs.declared.job.Job.{Job}
use Rattle.sr_machine.specs.declared.leg.Leg.TheVariants.{Look}
use Rattle.sr_machine.specs.declared.pipe_view.PipeView.{PipeView}
use Rattle.sr_machine.specs.declared.put.Put.{Put}
use Rattle.sr_machine.specs.declared.said.Said.{Said}
use Rattle.sr_machine.specs.declared.stage.Stage.TheVariants.{Fly}
use Rattle.sr_shadow.specs.Book.{entry_for, holder_entry, holder_of}
use Rattle.sr_shadow.specs.Entry.{holds, is_at, is_of, times_held}
use Rattle.sr_shadow.specs.declared.entry.Entry.{Entry}
use Rattle.sr_machine.specs.declared.job.Job.TheVariants as job
use Rattle.sr_machine.specs.declared.said.Said.TheVariants as said
use Rattle.sr_machine.specs.declared.store.Store.TheVariants as store

-- ---- what a place lets through

-- what is reserved lets through what nothing did
reserved_lets : (b : Bool) (n : ℕ) (t : Bool) (P : Type 0) → P → GoesSaid b n (if t then said.Reserved else said.Nothing) P
reserved_lets b n true P h = held_of b P h
reserved_lets b n false P h = h

-- and what came to be live, where it is of the version
pub live_lets : (b : Bool) (n m : ℕ) (t : Bool) (P : Type 0) → (t ≡ true → HeldIf b (m ≡ n)) → GoesSaid b n (if t then said.Reserved else said.Nothing) P
    → GoesSaid b n (if t then said.Live m else said.Nothing) P
live_lets b n m true P f h = f refl
live_lets b n m false P f h = h

-- where nothing live spoke to another packet, nothing lets it through too
silent_lets : (n : ℕ) (t : Said) (P : Type 0) → (SpeaksLive t → ⊥) → GoesSaid false n t P → P
silent_lets n said.Nothing P f h = h
silent_lets n said.Reserved P f h = h
silent_lets n (said.Live m) P f h = absurd (f tt)

pub no_opener : (kind : Kind) → (kind ≡ Opener → ⊥) → is_opener kind ≡ false
no_opener Opener f = absurd (f refl)
no_opener Carry f = refl
no_opener Ending f = refl

held_once : (place : Place) (es : List Entry) (e : Entry) → In e es → times_held place e ≤ sum_by (times_held place) es
held_once place [] e m = absurd m
held_once place (x ∷ es) e (inl q) =
    let same : times_held place e ≡ times_held place x = ap (times_held place) q in omega (arith, same, sum_by-cons (times_held place) x es)
held_once place (x ∷ es) e (inr m) = omega (arith, held_once place es e m, sum_by-cons (times_held place) x es)

module _ (s : Core) (i : Invariant s) where
  abbrev l : LayoutView
  l = s.config.layout

  abbrev es : List Entry
  es = s.controller.book.entries

  abbrev w : Place → ℕ
  w = entry_words s.words

  abbrev bits : ℕ → ℕ
  bits = bit_words s.words

  abbrev ring : ℕ → ℕ → ℕ
  ring = ring_words s.words

  abbrev pub after : Place → ℕ → Place → ℕ
  after at x place = if same_place at place then x else w place

  -- what is said at the place that is written, and elsewhere
  pub after_said : (at : Place) (x : ℕ) (key : KeyView) (P : Said → Said → Type 0) → ((t : Said) → P t t) → P (says l at key (w at)) (says l at key x)
      → (place : Place) → P (says l place key (w place)) (says l place key (after at x place))
  after_said at x key P same here place = by (same_place at place) refl
    where
      by : (b : Bool) → same_place at place ≡ b → P (says l place key (w place)) (says l place key (if b then x else w place))
      by false t = same (says l place key (w place))
      by true t =
          subst (λ z. P (says l z key (w z)) (says l z key x)) (same_place-true at place t) here

  pub holds_of : (j : Job) → s.controller.job ≡ j → JobHolds s.config (seen s.controller) (printed s) j
  holds_of j e = subst (JobHolds s.config (seen s.controller) (printed s)) e i.jobs.holds.stands

  pub fits_of : (q : Put) → PutHolds l.shape es s.controller.held q → PutFits l q
  fits_of q put = put_fits s.config i.shape.config.layout s.controller i.shape.book i.shape.controller q put

  pub looks_end : (p : ℕ) (v : PipeView) (f : Flight) (place : Place) (rest : List Place) → slice_get s.pipes p ≡ Some v → v.stage ≡ Fly f (Look place rest)
      → IsEnd (place ∷ rest) (key_places l f.packet.key)
  looks_end p v f place rest q e = leg_fits s i p v f (Look place rest) q e

  -- where an entry's key came to be live is still to be looked at
  pub looks_there : (j : Job) → s.controller.job ≡ j → ((p entered : ℕ) (key : KeyView) → MissedLive j p entered key → ⊥)
      → (p : ℕ) (v : PipeView) (f : Flight) (place : Place) (rest : List Place) → slice_get s.pipes p ≡ Some v → v.stage ≡ Fly f (Look place rest)
      → (x : Entry) (at : Place) → entry_for f.packet.key es ≡ Some x → x.place ≡ Some at → In at (place ∷ rest)
  looks_there j e none p v f place rest q k x at found stands =
      by (of_some (λ at. In at (place ∷ rest) ⊎ MissedLive j p f.entered f.packet.key) x.place at (of_some (λ x. IfSome x.place (λ at. In at (place ∷ rest) ⊎ MissedLive j p f.entered f.packet.key)) (entry_for f.packet.key es) x looks found) stands)
    where
      looks : LooksOn j p es f (place ∷ rest)
      looks =
          subst (λ z. LooksOn z p es f (place ∷ rest)) e
          (subst (λ z. OnLeg z (λ f leg. OnLook leg (LooksOn s.controller.job p es f))) k (i.matching.matching.looks p v q))

      by : In at (place ∷ rest) ⊎ MissedLive j p f.entered f.packet.key → In at (place ∷ rest)
      by (inl m) = m
      by (inr m) = absurd (none p f.entered f.packet.key m)

  -- ---- a place is reserved

  pub reserved_tracks : (y : Put) → s.controller.job ≡ job.Store (store.Reserved y)
      → EachPipe (λ p v. OnLeg v.stage (Tracked l (after y.place (reserved_word l y.place y.key)) bits ring es (printed s))) s.pipes
  reserved_tracks y e =
      each_tracked s i (after y.place x) bits ring es (printed s) (λ p v f leg q k h n known duty.
      words_go l f n w (after y.place x) bits leg (λ place rest z g.
      places_then l f n w (after y.place x) bits bits (place ∷ rest) (λ at P m.
      after_said y.place x f.packet.key (λ a b. GoesSaid (is_opener f.packet.kind) n a P → GoesSaid (is_opener f.packet.kind) n b P) (λ t g. g) (lets f n P) at) (λ g. g) g) (h n known duty))
    where
      x : ℕ
      x = reserved_word l y.place y.key

      put : PutHolds l.shape es s.controller.held y
      put = (holds_of (job.Store (store.Reserved y)) e).0

      empty : w y.place ≡ 0
      empty = unheld_word_is s i y.place (job.Store (store.Reserved y)) e put.free

      lets : (f : Flight) (n : ℕ) (P : Type 0) → GoesSaid (is_opener f.packet.kind) n (says l y.place f.packet.key (w y.place)) P
          → GoesSaid (is_opener f.packet.kind) n (says l y.place f.packet.key x) P
      lets f n P g =
          let was : P = subst (λ t. GoesSaid (is_opener f.packet.kind) n t P) (ap (says l y.place f.packet.key) empty ∙ empty_says l y.place f.packet.key) g in
          subst (λ t. GoesSaid (is_opener f.packet.kind) n t P) (sym (reserved_says l i.shape.config.layout y.place y.key f.packet.key (fits_of y put).key.is_key))
          (reserved_lets (is_opener f.packet.kind) n (stands_for l y.place y.key f.packet.key) P was)

  -- ---- a place is emptied

  -- no entry stands there
  abbrev Unstood : Place → Type 0
  Unstood at = (key : KeyView) (x : Entry) (place : Place) → entry_for key es ≡ Some x → x.place ≡ Some place → same_place at place ≡ false

  emptied_places : (at : Place) (j : Job) → s.controller.job ≡ j → ((p entered : ℕ) (key : KeyView) → MissedLive j p entered key → ⊥) → Unstood at
      → (p : ℕ) (v : PipeView) (f : Flight) (place : Place) (rest : List Place) → slice_get s.pipes p ≡ Some v → v.stage ≡ Fly f (Look place rest)
      → (n : ℕ) → IsKnown l ring es f.packet.key n → GoesPlaces l w bits f n (place ∷ rest) → GoesPlaces l (after at 0) bits f n (place ∷ rest)
  emptied_places at j e none unstood p v f place rest q k n known g = by (known_cases s i f.packet.key n known)
    where
      looks : List Place
      looks = place ∷ rest

      end : IsEnd (place ∷ rest) (key_places l f.packet.key)
      end = looks_end p v f place rest q k

      fewer : (other : Place) (m : ℕ) → says l other f.packet.key (after at 0 other) ≡ said.Live m → says l other f.packet.key (w other) ≡ said.Live m
      fewer other m =
          after_said at 0 f.packet.key (λ a b. b ≡ said.Live m → a ≡ said.Live m) (λ t r. r) (λ r. absurd (nothing_live m (sym (empty_says l at f.packet.key) ∙ r))) other
        where
          nothing_live : (m : ℕ) → said.Nothing ≡ said.Live m → ⊥
          nothing_live m z = cc

      waiting : Waits s i f.packet.key n → (f.packet.kind ≡ Opener) ⊎ (f.packet.kind ≡ Opener → ⊥) → GoesPlaces l (after at 0) bits f n (place ∷ rest)
      waiting wk (inl o) =
          opener_goes l f n (after at 0) bits o (place ∷ rest) (opener_missed s i p f n wk.kept o (loaded_word s i p v f (Look place rest) q k))
      waiting wk (inr other) =
          places_then l f n w (after at 0) bits bits (place ∷ rest) (λ z P m.
          lets z P m) (λ g. g) g
        where
          b_is : is_opener f.packet.kind ≡ false
          b_is = no_opener f.packet.kind other

          lets : (z : Place) (P : Type 0) → In z (place ∷ rest) → GoesSaid (is_opener f.packet.kind) n (says l z f.packet.key (w z)) P
              → GoesSaid (is_opener f.packet.kind) n (says l z f.packet.key (after at 0 z)) P
          lets z P m h = two (same_place at z) refl
            where
              two : (b : Bool) → same_place at z ≡ b → GoesSaid (is_opener f.packet.kind) n (says l z f.packet.key (if b then 0 else w z)) P
              two false t = h
              two true t =
                  subst (λ u. GoesSaid (is_opener f.packet.kind) n u P) (sym (empty_says l z f.packet.key))
                  (silent_lets n (says l z f.packet.key (w z)) P (λ sp. wk.unspoken z (looked_own l f.packet.key (place ∷ rest) z end m) sp) (subst (λ b. GoesSaid b n (says l z f.packet.key (w z)) P) b_is h))

      by : PlacedAs s i f.packet.key n ⊎ Waits s i f.packet.key n → GoesPlaces l (after at 0) bits f n (place ∷ rest)
      by (inl a) =
          subst (λ m. GoesPlaces l (after at 0) bits f m (place ∷ rest)) a.version
          (placed_goes s i f.packet.key a.entry a.found (after at 0) bits f (place ∷ rest) a.place refl end (looks_there j e none p v f place rest q k a.entry a.place a.found a.stands) a.stands
          (ap (λ b. if b then 0 else w a.place) (unstood f.packet.key a.entry a.place a.found a.stands)) (λ other m c. fewer other))
      by (inr wk) = waiting wk (other_kind f.packet.kind)

  pub emptied_tracks : (at : Place) (j : Job) → s.controller.job ≡ j → ((p entered : ℕ) (key : KeyView) → MissedLive j p entered key → ⊥) → Unstood at
      → (fs : List Entry) → ((key : KeyView) (n : ℕ) → IsKnown l ring fs key n → IsKnown l ring es key n)
      → EachPipe (λ p v. OnLeg v.stage (Tracked l (after at 0) bits ring fs (printed s))) s.pipes
  emptied_tracks at j e none unstood fs back =
      each_tracked s i (after at 0) bits ring fs (printed s) (λ p v f leg q k h n known duty.
      words_go l f n w (after at 0) bits leg (λ place rest z g.
      emptied_places at j e none unstood p v f place rest q (k ∙ ap (Fly f) z) n (back f.packet.key n known) g) (h n (back f.packet.key n known) duty))

  -- an entry stands at no place that nobody holds
  pub free_unstood : (at : Place) → holder_of at es ≡ None → Unstood at
  free_unstood at free key x place found stands = by (same_place at place) refl
    where
      by : (b : Bool) → same_place at place ≡ b → b ≡ false
      by false t = refl
      by true t =
          let h : holder_entry place es ≡ Some x = holder_found es key place x i.shape.book.distinct i.jobs.holds.once found (at_held place x stands) in
          absurd (none_some (sym free ∙ ap (λ z. holder_of z es) (same_place-true at place t) ∙ ap (option_map (λ z. z.key)) h))
        where
          none_some : None ≡ Some x.key → ⊥
          none_some z = cc

  -- nor at the one that another entry is about to leave
  pub source_unstood : (at : Place) (of : KeyView) (d : Entry) → entry_for of es ≡ Some d → d.also ≡ Some at → Unstood at
  source_unstood at of d owned leaves key x place found stands = by (same_place at place) refl
    where
      also_held : holds at d ≡ true
      also_held = ap (λ o. is_at at d.place || is_at at o) leaves ∙ (ap (λ b. is_at at d.place || b) (same_place-self at) ∙ or_right (is_at at d.place))
        where
          or_right : (b : Bool) → (b || true) ≡ true
          or_right true = refl
          or_right false = refl

      by : (b : Bool) → same_place at place ≡ b → b ≡ false
      by false t = refl
      by true t =
          let here : x.place ≡ Some at = stands ∙ ap Some (sym (same_place-true at place t)) in
          let same : x ≡ d = same_Some x d (sym (holder_found es key at x i.shape.book.distinct i.jobs.holds.once found (at_held at x here)) ∙ holder_found es of at d i.shape.book.distinct i.jobs.holds.once owned also_held) in
          let first : is_at at d.place ≡ true = ap (λ z. is_at at z.place) (sym same) ∙ (ap (is_at at) here ∙ same_place-self at) in
          let second : is_at at d.also ≡ true = ap (is_at at) leaves ∙ same_place-self at in
          let twice : times_held at d ≡ 2 = ap (λ b. cond b 1 0 + cond (is_at at d.also) 1 0) first ∙ ap (λ b. 1 + cond b 1 0) second in
          absurd (omega (arith, twice, held_once at es d (in_found (is_of of) es d owned), i.jobs.holds.once at))
