-- A reserved place comes to be live, or is given up: packets stay on track.
use Rattle.std.proofs.Common.{◌≡◌, ℕ, Bool, true, false, true≢false, not, ◌⊎◌, List, [], ◌∷◌, ◌++◌, if◌then◌else◌, unwrap_or, option_map, slice_get, Some, None, Option, sym, refl, ap, ◌∙◌, subst, inl, inr}
use Rattle.sr_base.proofs.Sameness.{same_key-self, same_key-true, same_place-self, same_place-true}
use Rattle.sr_base.specs.Key.{KeyView, same_key}
use Rattle.sr_base.specs.Layout.{LayoutView}
use Rattle.sr_base.specs.Place.{same_place}
use Rattle.sr_base.specs.declared.kind.Kind.TheVariants.{Opener}
use Rattle.sr_base.specs.declared.place.Place.{Place}
use Rattle.sr_base.specs.declared.place.Place.TheVariants.{Row}
use Rattle.sr_base.specs.declared.ring_word.RingKind.TheVariants.{Learn}
use Rattle.sr_hash.specs.Uses.{is_place_of}
use Rattle.sr_inv_facts.proofs.Books.{found_key}
use Rattle.sr_inv_facts.proofs.Ranges.{PutFits, version_below}
use Rattle.sr_inv_facts.specs.Doing.{MissedReserved}
use Rattle.sr_inv_facts.specs.Flying.{OnLeg, OnMissing, OnUnmatched}
use Rattle.sr_inv_facts.specs.InJobs.{PutHolds}
use Rattle.sr_inv_facts.specs.InMatching.{IsApart, Judged, Unmatched}
use Rattle.sr_inv_facts.specs.InOpenings.{IsReported}
use Rattle.sr_inv_facts.specs.Invariant.{Invariant}
use Rattle.sr_inv_facts.specs.OnTrack.{GoesBy, GoesPlaces, GoesSaid, HeldIf, IsKnown, IsOnDuty}
use Rattle.sr_inv_facts.specs.Readings.{EachPipe, EachReport, In, IsEnd, SomeLearn, Speaks, bit_words, entry_words, ring_words}
use Rattle.sr_inv_matching.proofs.Members.{in_found, in_mapped, in_parts}
use Rattle.sr_inv_matching.proofs.OwnKept.{others_silent}
use Rattle.sr_inv_matching.proofs.Saying.{reserved_is, reserved_speaks, stands_self}
use Rattle.sr_inv_matching.proofs.Unmatching.{opener_has}
use Rattle.sr_inv_track.proofs.JobTracks.{each_tracked, member_known}
use Rattle.sr_inv_track.proofs.Passing.{held_of, looked_own, opener_found, places_then, words_go}
use Rattle.sr_inv_track.proofs.Placed.{placed_goes}
use Rattle.sr_inv_track.proofs.StoreTracks.{after, emptied_tracks, fits_of, free_unstood, holds_of, live_lets, looks_end, looks_there}
use Rattle.sr_inv_track.proofs.StageTracks.{Tracked, other_kind}
use Rattle.sr_machine.proofs.Written.{live_says, reserved_says}
use Rattle.sr_machine.specs.Core.{Core, printed}
use Rattle.sr_machine.specs.Deciding.{is_withdrawn, learned, version_for}
use Rattle.sr_machine.specs.Jobs.{judged_book}
use Rattle.sr_machine.specs.Reads.{live_word, reserved_word, says, stands_for}
use Rattle.sr_machine.specs.Stages.{is_opener, key_places}
use Rattle.sr_machine.specs.Stores.{judged_word}
use Rattle.sr_machine.specs.declared.flight.Flight.{Flight}
use Rattle.sr_machine.specs.declared.leg.Leg.{Leg}
use Rattle.sr_machine.specs.declared.leg.Leg.TheVariants.{Look, Hit, Filter, Chosen}
use Rattle.sr_machine.specs.declared.pipe_view.PipeView.{PipeView}
use Rattle.sr_machine.specs.declared.put.Put.{Put}
use Rattle.sr_machine.specs.declared.stage.Stage.TheVariants.{Fly}
use Rattle.sr_shadow.specs.Book.{entries_with, entry_for, is_registered}
use Rattle.sr_shadow.specs.Entry.{fresh, is_of, is_outside, is_row, settled}
use Rattle.sr_shadow.specs.declared.entry.Entry.{Entry}
use Rattle.sr_law.specs.declared.verdict.Verdict.TheVariants as verdict
use Rattle.sr_machine.specs.declared.job.Job.TheVariants as job
use Rattle.sr_machine.specs.declared.leg.Leg.TheVariants as leg
use Rattle.sr_machine.specs.declared.said.Said.TheVariants as said
use Rattle.sr_machine.specs.declared.store.Store.TheVariants as store

module _ (s : Core) (i : Invariant s) (q : Put) (e : s.controller.job ≡ job.Store (store.Judge q)) where
  abbrev l : LayoutView
  l = s.config.layout

  abbrev es : List Entry
  es = s.controller.book.entries

  abbrev w : Place → ℕ
  w = entry_words s.words

  abbrev bits : ℕ → ℕ
  bits = bit_words s.words

  abbrev ring : ℕ → ℕ → ℕ
  ring = ring_words s.words

  abbrev version : ℕ
  version = version_for s.controller.vips es q.key

  abbrev word : ℕ
  word = live_word l q.place q.key version

  abbrev now : Place → ℕ
  now = after s i q.place word

  put : PutHolds l.shape es s.controller.held q
  put = (holds_of s i (job.Store (store.Judge q)) e).0

  fits : PutFits l q
  fits = fits_of s i q put

  reserved : w q.place ≡ reserved_word l q.place q.key
  reserved = reserved_is s i q (job.Store (store.Judge q)) e put refl

  said_before : (key : KeyView) → says l q.place key (w q.place) ≡ (if stands_for l q.place q.key key then said.Reserved else said.Nothing)
  said_before key = ap (says l q.place key) reserved ∙ reserved_says l i.shape.config.layout q.place q.key key fits.key.is_key

  said_now : (key : KeyView) → says l q.place key word ≡ (if stands_for l q.place q.key key then said.Live version else said.Nothing)
  said_now key =
      live_says l i.shape.config.layout q.place q.key key version fits.key.is_key
      (version_below s.config i.shape.config.layout s.controller i.shape.book i.shape.controller q.key)

  -- no report is of a key that the place speaks to
  none_learned : (key : KeyView) (n : ℕ) → SomeLearn l ring key n → is_place_of l.shape key q.place ≡ true → stands_for l q.place q.key key ≡ true → ⊥
  none_learned key n (pipe, c, read) own t =
      let apart : EachReport l ring (IsApart l q) = subst (Judged l s.controller.rings ring) e i.matching.matching.judged in
      true≢false (sym t ∙ apart pipe c (record { kind = Learn; version = n; key = key }) read own)

  -- ---- what is known after it

  -- the put's key, which wasn't registered, is from now on
  abbrev New : KeyView → ℕ → Type 0
  New key n = (is_registered q.key es ≡ false) × (key ≡ q.key)

  known_back : (key : KeyView) (n : ℕ) → IsKnown l ring (judged_book false q version s.controller.book).entries key n → IsKnown l ring es key n ⊎ New key n
  known_back key n (inr learn) = inl (inr learn)
  known_back key n (inl (x, found, v)) =
      by (in_mapped (λ z. if is_of q.key z then settled q.place z else z) (entries_with q.key version s.controller.book.taken es) x (in_found (is_of key) (judged_book false q version s.controller.book).entries x found))
    where
      own : key ≡ x.key
      own = found_key key (judged_book false q version s.controller.book).entries x found

      known : (z : Entry) → In z es → z.key ≡ x.key → z.version ≡ x.version → IsKnown l ring es key n ⊎ New key n
      known z m k u = inl (member_known s i key n z m (k ∙ sym own) (u ∙ v))

      at : (b : Bool) → is_registered q.key es ≡ b → (z : Entry) → In z (if b then es else (es ++ fresh q.key version s.controller.book.taken ∷ []))
          → z.key ≡ x.key → z.version ≡ x.version → IsKnown l ring es key n ⊎ New key n
      at true r z m k u = known z m k u
      at false r z m k u = two (in_parts es (fresh q.key version s.controller.book.taken ∷ []) z m)
        where
          two : In z es ⊎ In z (fresh q.key version s.controller.book.taken ∷ []) → IsKnown l ring es key n ⊎ New key n
          two (inl y) = known z y k u
          two (inr (inl y)) = inr (r, own ∙ (sym k ∙ ap (λ z. z.key) y))
          two (inr (inr y)) = absurd y

      turn : (z : Entry) (b : Bool) → In z (entries_with q.key version s.controller.book.taken es) → x ≡ (if b then settled q.place z else z)
          → IsKnown l ring es key n ⊎ New key n
      turn z true m r = at (is_registered q.key es) refl z m (sym (ap (λ y. y.key) r)) (sym (ap (λ y. y.version) r))
      turn z false m r = at (is_registered q.key es) refl z m (sym (ap (λ y. y.key) r)) (sym (ap (λ y. y.version) r))

      by : (z : Entry) × In z (entries_with q.key version s.controller.book.taken es) × (x ≡ (if is_of q.key z then settled q.place z else z))
          → IsKnown l ring es key n ⊎ New key n
      by (z, m, r) = turn z (is_of q.key z) m r

  -- ---- a key that was known

  module _ (stays : is_withdrawn s.config s.controller q ≡ false) (p : ℕ) (v : PipeView) (f : Flight) (place : Place) (rest : List Place)
      (got : slice_get s.pipes p ≡ Some v) (k : v.stage ≡ Fly f (Look place rest)) (n : ℕ) where
    abbrev looks : List Place
    looks = place ∷ rest

    abbrev opener : Bool
    opener = is_opener f.packet.kind

    end : IsEnd looks (key_places l f.packet.key)
    end = looks_end s i p v f place rest got k

    -- where the place lets it through, every place does
    through : ((stands_for l q.place q.key f.packet.key ≡ true) → In q.place looks → HeldIf opener (version ≡ n))
        → GoesPlaces l w bits f n looks → GoesPlaces l now bits f n looks
    through held g =
        places_then l f n w now bits bits looks (λ z P m h. lets z P m (same_place q.place z) refl h) (λ g. g) g
      where
        lets : (z : Place) (P : Type 0) → In z looks → (b : Bool) → same_place q.place z ≡ b → GoesSaid opener n (says l z f.packet.key (w z)) P
            → GoesSaid opener n (says l z f.packet.key (if b then word else w z)) P
        lets z P m false t h = h
        lets z P m true t h =
            let here : q.place ≡ z = same_place-true q.place z t in
            subst (λ y. GoesSaid opener n (says l y f.packet.key word) P) here
            (subst (λ u. GoesSaid opener n u P) (sym (said_now f.packet.key))
            (live_lets opener n version (stands_for l q.place q.key f.packet.key) P (λ st. held st (subst (λ y. In y looks) (sym here) m))
            (subst (λ u. GoesSaid opener n u P) (said_before f.packet.key) (subst (λ y. GoesSaid opener n (says l y f.packet.key (w y)) P) (sym here) h))))

    -- the entry of another key that stands in a row is found before
    in_row : (x : Entry) → entry_for f.packet.key es ≡ Some x → x.version ≡ n → same_key f.packet.key q.key ≡ false → is_outside x ≡ false
        → GoesPlaces l now bits f n looks
    in_row x found u other inside = by x.place refl inside_is
      where
        inside_is : is_row x.place ≡ true
        inside_is = two (is_row x.place) inside
          where
            two : (b : Bool) → not b ≡ false → b ≡ true
            two true t = refl
            two false t = cc

        fewer : (z : Place) → (is_outside x ≡ true) ⊎ ((row : ℕ) × (z ≡ Row row)) → (m : ℕ) → says l z f.packet.key (now z) ≡ said.Live m
            → says l z f.packet.key (w z) ≡ said.Live m
        fewer z (inl out) m r = absurd (true≢false (sym out ∙ inside))
        fewer z (inr (row, is)) m r = at (same_place q.place z) refl r
          where
            nothing_live : said.Nothing ≡ said.Live m → ⊥
            nothing_live y = cc

            row_apart : (y : Place) → y ≡ Row row → stands_for l y q.key f.packet.key ≡ false
            row_apart y t = ap (λ y. stands_for l y q.key f.packet.key) t ∙ other

            at : (b : Bool) → same_place q.place z ≡ b → says l z f.packet.key (if b then word else w z) ≡ said.Live m → says l z f.packet.key (w z) ≡ said.Live m
            at false t r = r
            at true t r =
                let here : q.place ≡ z = same_place-true q.place z t in
                absurd (nothing_live (sym (said_now f.packet.key ∙ ap (λ b. if b then said.Live version else said.Nothing) (row_apart q.place (here ∙ is)))
                ∙ subst (λ y. says l y f.packet.key word ≡ said.Live m) (sym here) r))

        by : (o : Option Place) → x.place ≡ o → is_row x.place ≡ true → GoesPlaces l now bits f n looks
        by None t r = absurd (true≢false (sym r ∙ ap is_row t))
        by (Some at) t r =
            subst (λ m. GoesPlaces l now bits f m looks) u
            (placed_goes s i f.packet.key x found now bits f looks at refl end
            (looks_there s i (job.Store (store.Judge q)) e (λ p entered key z. z) p v f place rest got k x at found t) t
            (ap (λ b. if b then word else w at) (free_unstood s i q.place put.free f.packet.key x at found t)) (λ z m c. fewer z c))

    by_entry : (x : Entry) → entry_for f.packet.key es ≡ Some x → x.version ≡ n → (f.packet.kind ≡ Opener → ⊥) → GoesPlaces l w bits f n looks
        → GoesPlaces l now bits f n looks
    by_entry x found u apart g = two (same_key f.packet.key q.key) refl (is_outside x) refl
      where
        own : f.packet.key ≡ x.key
        own = found_key f.packet.key es x found

        two : (b : Bool) → same_key f.packet.key q.key ≡ b → (o : Bool) → is_outside x ≡ o → GoesPlaces l now bits f n looks
        two true t o r =
            let same : f.packet.key ≡ q.key = same_key-true f.packet.key q.key t in
            let is : version ≡ n = ap (λ z. unwrap_or (option_map (λ y. y.version) z) (learned s.controller.vips q.key.vip)) (subst (λ z. entry_for z es ≡ Some x) same found) ∙ u in
            through (λ st m. held_of opener (version ≡ n) is) g
        two false t true r =
            through (λ st m.
            let of_key : is_place_of l.shape f.packet.key q.place ≡ true = looked_own l f.packet.key looks q.place end m in
            absurd (others_silent s i q e stays x (in_found (is_of f.packet.key) es x found) (ap (same_key q.key) (sym own) ∙ key_turned t) r q.place refl
            (subst (λ z. is_place_of l.shape z q.place ≡ true) own of_key) fits.place (subst (λ z. stands_for l q.place q.key z ≡ true) own st))) g
          where
            key_turned : same_key f.packet.key q.key ≡ false → same_key q.key f.packet.key ≡ false
            key_turned t = at (same_key q.key f.packet.key) refl
              where
                at : (b : Bool) → same_key q.key f.packet.key ≡ b → b ≡ false
                at false y = refl
                at true y =
                    absurd (true≢false (sym (ap (same_key f.packet.key) (same_key-true q.key f.packet.key y) ∙ same_key-self f.packet.key) ∙ t))
        two false t false r = in_row x found u t r

    live_places : IsKnown l ring es f.packet.key n → GoesPlaces l w bits f n looks → GoesPlaces l now bits f n looks
    live_places known g = by (other_kind f.packet.kind) known
      where
        by : (f.packet.kind ≡ Opener) ⊎ (f.packet.kind ≡ Opener → ⊥) → IsKnown l ring es f.packet.key n → GoesPlaces l now bits f n looks
        by (inl o) known = through (λ st m. subst (λ b. HeldIf b (version ≡ n)) (sym (ap is_opener o)) tt) g
        by (inr apart) (inl (x, found, u)) = by_entry x found u apart g
        by (inr apart) (inr learn) =
            through (λ st m. absurd (none_learned f.packet.key n learn (looked_own l f.packet.key looks q.place end m) st)) g

  -- ---- a key that is registered now

  module _ (p : ℕ) (v : PipeView) (f : Flight) (got : slice_get s.pipes p ≡ Some v) (same : f.packet.key ≡ q.key) where
    stands_own : stands_for l q.place q.key f.packet.key ≡ true
    stands_own = ap (stands_for l q.place q.key) same ∙ stands_self l q.place q.key

    of_own : is_place_of l.shape f.packet.key q.place ≡ true
    of_own = subst (λ z. is_place_of l.shape z q.place ≡ true) (sym same) fits.place

    -- an opener that nothing has matched still looks at the place
    still : (looks : List Place) → Unmatched l w s.controller.job p f looks → In q.place looks
    still looks h =
        at (subst (λ z. In q.place looks ⊎ MissedReserved z p f.entered q.place) e
        (h q.place of_own (subst (λ x. Speaks (says l q.place f.packet.key x)) (sym reserved) (reserved_speaks l i.shape.config.layout q.place q.key f.packet.key fits.key.is_key stands_own))))
      where
        at : In q.place looks ⊎ ⊥ → In q.place looks
        at (inl m) = m
        at (inr m) = absurd m

    unmatched : (leg : Leg) → v.stage ≡ Fly f leg → f.packet.kind ≡ Opener → OnMissing leg (Unmatched l w s.controller.job p f)
    unmatched leg k o =
        opener_has f.packet.kind (OnMissing leg (Unmatched l w s.controller.job p f)) o
        (subst (λ z. OnLeg z (λ f leg. OnUnmatched f leg (Unmatched l w s.controller.job p f))) k (i.matching.matching.unmatched p v got))

    opener_new : (n : ℕ) (leg : Leg) → v.stage ≡ Fly f leg → f.packet.kind ≡ Opener → GoesBy l now bits n f leg
    opener_new n (Look place rest) k o =
        opener_found l f n now bits o (place ∷ rest) q.place (still (place ∷ rest) (unmatched (Look place rest) k o))
        (subst (λ b. Speaks (says l q.place f.packet.key (if b then word else w q.place))) (sym (same_place-self q.place))
        (subst Speaks (sym (said_now f.packet.key ∙ ap (λ b. if b then said.Live version else said.Nothing) stands_own)) tt))
    opener_new n (Hit place m) k o = subst (λ b. HeldIf b (m ≡ n)) (sym (ap is_opener o)) tt
    opener_new n (Filter bit rest) k o = absurd (still [] (unmatched (Filter bit rest) k o))
    opener_new n (Chosen m next) k o = absurd (still [] (unmatched (Chosen m next) k o))
    opener_new n (leg.Judged (verdict.To server m pool) next) k o = absurd (still [] (unmatched (leg.Judged (verdict.To server m pool) next) k o))
    opener_new n (leg.Judged (verdict.Down server m pool) next) k o = absurd (still [] (unmatched (leg.Judged (verdict.Down server m pool) next) k o))
    opener_new n (leg.Judged u next) k o = tt

    -- no other packet of the key is on duty
    other_new : is_registered q.key es ≡ false → (f.packet.kind ≡ Opener → ⊥) → IsOnDuty (printed s) f → ⊥
    other_new none apart (inl o) = apart o
    other_new none apart (inr (o, opened, less)) =
        let reported : IsReported l ring s.controller.named f.packet.key (Some o) =
        subst (IsReported l ring s.controller.named f.packet.key) opened (i.openings.openings.reported f.packet.key (subst (λ z. is_registered z es ≡ false) (sym same) none)) in
        none_learned f.packet.key o.version reported.0 of_own stands_own

  pub live_tracks : is_withdrawn s.config s.controller q ≡ false
      → EachPipe (λ p v. OnLeg v.stage (Tracked l now bits ring (judged_book false q version s.controller.book).entries (printed s))) s.pipes
  live_tracks stays =
      each_tracked s i now bits ring (judged_book false q version s.controller.book).entries (printed s) (λ p v f leg got k h n known duty.
      turn p v f leg got k h n duty (known_back f.packet.key n known))
    where
      turn : (p : ℕ) (v : PipeView) (f : Flight) (leg : Leg) → slice_get s.pipes p ≡ Some v → v.stage ≡ Fly f leg → Tracked l w bits ring es (printed s) f leg
          → (n : ℕ) → IsOnDuty (printed s) f → IsKnown l ring es f.packet.key n ⊎ New f.packet.key n → GoesBy l now bits n f leg
      turn p v f leg got k h n duty (inl known) =
          words_go l f n w now bits leg (λ place rest z g. live_places stays p v f place rest got (k ∙ ap (Fly f) z) n known g) (h n known duty)
      turn p v f leg got k h n duty (inr (none, same)) = by (other_kind f.packet.kind)
        where
          by : (f.packet.kind ≡ Opener) ⊎ (f.packet.kind ≡ Opener → ⊥) → GoesBy l now bits n f leg
          by (inl o) = opener_new p v f got same n leg k o
          by (inr apart) = absurd (other_new p v f got same none apart duty)

  pub judged_tracks : (b : Bool) → is_withdrawn s.config s.controller q ≡ b
      → EachPipe (λ p v. OnLeg v.stage (Tracked l (after s i q.place (judged_word b l q version)) bits ring (judged_book b q version s.controller.book).entries (printed s))) s.pipes
  judged_tracks true t =
      emptied_tracks s i q.place (job.Store (store.Judge q)) e (λ p entered key z. z) (free_unstood s i q.place put.free) es (λ key n h. h)
  judged_tracks false t = live_tracks t
