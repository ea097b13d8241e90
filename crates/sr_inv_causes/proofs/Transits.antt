-- An opener that the filter held has its cause: each of its places was set by a packet whose line is printed.
use Rattle.std.proofs.Common.{◌≡◌, ℕ, zero, suc, ◌-◌, ◌<◌, ◌≢◌, ◌&&◌, ◌||◌, ◌==◌, Bool, true, false, ◌⊎◌, List, [], ◌∷◌, length, take, Some, None, Option, if◌then◌else◌, nat_lt, sym, refl, ap, ◌∙◌, subst, inl, inr, arith}
use Rattle.std.proofs.lemmas.Bool.Decides.{nat_tests}
use Rattle.std.proofs.lemmas.Option.{same_Some}
use Rattle.std.proofs.lemmas.Nat.{mod_below}
use Rattle.std.specs.List.{AllByRecursion, list_all, list_any}
use Rattle.std.specs.Option.{option_or}
use Rattle.sr_base.specs.declared.vip_word.Phase.{Phase}
use Rattle.sr_base.specs.declared.vip_word.Phase.TheVariants.{Steady, Recording, Holding, Transit}
use Rattle.sr_hash.specs.Uses.{bloom_places_of}
use Rattle.sr_inv_clauses.proofs.Learned.{IsWaited, earlier_waited, flight_at}
use Rattle.sr_inv_facts.proofs.Lists.{of_some}
use Rattle.sr_inv_facts.specs.Doing.{word_before}
use Rattle.sr_inv_facts.specs.InCauses.{AllMeet, setup_of}
use Rattle.sr_inv_facts.specs.InFilter.{IsSetBy, Markers, SetsNow}
use Rattle.sr_inv_facts.specs.InFlight.{HasWord}
use Rattle.sr_inv_facts.specs.InUpdate.{IsAside, IsWordOf, UpdateFits}
use Rattle.sr_inv_facts.specs.Invariant.{Invariant}
use Rattle.sr_inv_facts.specs.Readings.{SomePipe, bit_words, is_marked, is_set_in}
use Rattle.sr_inv_order.proofs.Rising.{and_true}
use Rattle.sr_law.specs.Groups.{after_gives, goes_on, is_opening_give, keeps_groups, last_of_update, was_recorded}
use Rattle.sr_law.specs.Held.{hold_tick, is_set, last_hold, may_transit, not_finished, recorded_giving, records}
use Rattle.sr_law.specs.Order.{meets_order}
use Rattle.sr_law.specs.Retire.{EndingPacket}
use Rattle.sr_law.specs.Setup.{SetupView}
use Rattle.sr_law.specs.declared.line.Line.{Line}
use Rattle.sr_law.specs.declared.verdict.Verdict.{Verdict}
use Rattle.sr_machine.specs.Core.{Core, printed}
use Rattle.sr_machine.specs.Deciding.{vip_at}
use Rattle.sr_machine.specs.Reads.{steady}
use Rattle.sr_machine.specs.Stages.{is_opener, is_recorded, is_recording}
use Rattle.sr_machine.specs.Stores.{phase_word}
use Rattle.sr_machine.specs.declared.flight.Flight.{Flight}
use Rattle.sr_machine.specs.declared.leg.Leg.TheVariants.{Judged}
use Rattle.sr_machine.specs.declared.pool_update.PoolUpdate.{PoolUpdate}
use Rattle.sr_machine.specs.declared.stage.Stage.{Stage}
use Rattle.sr_machine.specs.declared.stage.Stage.TheVariants.{Fly}
use Rattle.sr_law.specs.declared.line.Line.TheVariants as line

-- ---- a Hold line comes after a Recorded line

parts : (a b : Bool) → (a && b) ≡ true → (a ≡ true) × (b ≡ true)
parts true b e = (refl, e)
parts false b e = cc

or_second : (a b : Bool) → b ≡ true → (a || b) ≡ true
or_second true b h = refl
or_second false b h = h

-- the last line of an update stands among the lines
last_there : (vip : ℕ) (lines : List Line) → was_recorded vip (last_of_update lines) ≡ true → list_any (records vip) lines ≡ true
last_there vip [] h = cc
last_there vip (l ∷ rest) h = at l h (last_there vip rest)
  where
    at : (m : Line) → was_recorded vip (last_of_update (m ∷ rest)) ≡ true
        → (was_recorded vip (last_of_update rest) ≡ true → list_any (records vip) rest ≡ true)
        → list_any (records vip) (m ∷ rest) ≡ true
    at (line.Recorded out to) h more = ap (λ b. b || list_any (records vip) rest) h
    at (line.Given out to version pool) h more = cc
    at (line.Hold out to) h more = cc
    at (line.Switched out to pool) h more = cc
    at (line.Finished out to) h more = cc
    at m h more = more h

taken_there : (vip : ℕ) (n : ℕ) (lines : List Line) → list_any (records vip) (take n lines) ≡ true → list_any (records vip) lines ≡ true
taken_there vip zero lines h = cc
taken_there vip (suc n) [] h = cc
taken_there vip (suc n) (l ∷ rest) h = at (records vip l) h (taken_there vip n rest)
  where
    at : (b : Bool) → (b || list_any (records vip) (take n rest)) ≡ true
        → (list_any (records vip) (take n rest) ≡ true → list_any (records vip) rest ≡ true) → (b || list_any (records vip) rest) ≡ true
    at true h more = refl
    at false h more = more h

-- a Hold line that stands in order comes after a Recorded line of its virtual address
hold_after : (setup : SetupView) (before : List Line) (out vip : ℕ) → meets_order setup before (line.Hold out vip) ≡ true
    → list_any (records vip) before ≡ true
unfolding keeps_groups meets_order
hold_after setup before out vip h =
    at (nat_lt (length before) (length setup.pools)) ((parts _ _ (parts _ _ (parts _ _ (parts _ _ (parts _ _ h).0).0).0).0).0)
  where
    at : (b : Bool)
        → (if b then is_opening_give (length before) (line.Hold out vip) else goes_on (last_of_update (after_gives (length setup.pools) before)) (line.Hold out vip)) ≡ true
        → list_any (records vip) before ≡ true
    at true g = cc
    at false g = taken_there vip (length before - length setup.pools) before (last_there vip (after_gives (length setup.pools) before) g)

-- so where some Hold line is, a Recorded line is
pub held_recorded : (setup : SetupView) (endings : List EndingPacket) (lines : List Line) (vip tick : ℕ) → AllMeet setup endings lines
    → last_hold lines vip ≡ Some tick
    → list_any (records vip) lines ≡ true
held_recorded setup endings [] vip tick a e = cc
held_recorded setup endings (l ∷ before) vip tick a e = at l a.0.order e (held_recorded setup endings before vip tick a.1)
  where
    own : (out to : ℕ) (b : Bool) → (to == vip) ≡ b → meets_order setup before (line.Hold out to) ≡ true
        → option_or (if b then Some out else None) (last_hold before vip) ≡ Some tick
        → (last_hold before vip ≡ Some tick → list_any (records vip) before ≡ true)
        → list_any (records vip) before ≡ true
    own out to true t h e more =
        let is : to ≡ vip = grind (arith, nat_tests) in
        subst (λ n. list_any (records n) before ≡ true) is (hold_after setup before out to h)
    own out to false t h e more = more e

    at : (m : Line) → meets_order setup before m ≡ true → option_or (hold_tick m vip) (last_hold before vip) ≡ Some tick
        → (last_hold before vip ≡ Some tick → list_any (records vip) before ≡ true)
        → list_any (records vip) (m ∷ before) ≡ true
    at (line.Hold out to) h e more = own out to (to == vip) refl h e more
    at m h e more = or_second (records vip m) (list_any (records vip) before) (more e)

-- ---- the update of a packet that loaded Transit

-- an update is under way whose first phase is stored and whose openers are no longer recorded
record IsPastHold (s : Core) (vip : ℕ) : Type 0 where
  update : PoolUpdate
  is : s.controller.update ≡ Some update
  of : vip ≡ update.vip
  late : (vip_at s.controller.vips update.vip ≡ phase_word update Transit) ⊎ (vip_at s.controller.vips update.vip ≡ phase_word update Steady)

module _ (s : Core) (i : Invariant s) where
  of_word : (vip : ℕ) → (vip_at s.controller.vips vip).phase ≡ Transit → IsPastHold s vip
  of_word vip t = at s.controller.update refl
    where
      by : (u : PoolUpdate) → s.controller.update ≡ Some u → vip ≡ u.vip → IsWordOf u (vip_at s.controller.vips u.vip) → IsPastHold s vip
      by u e of (inl r) =
          let steady_is : Steady ≡ Transit = ap (λ w. w.phase) (sym r) ∙ (ap (λ n. (vip_at s.controller.vips n).phase) (sym of) ∙ t) in absurd (cc)
      by u e of (inr (Steady, r)) =
          let steady_is : Steady ≡ Transit = ap (λ w. w.phase) (sym r) ∙ (ap (λ n. (vip_at s.controller.vips n).phase) (sym of) ∙ t) in absurd (cc)
      by u e of (inr (Recording, r)) =
          let is : Recording ≡ Transit = ap (λ w. w.phase) (sym r) ∙ (ap (λ n. (vip_at s.controller.vips n).phase) (sym of) ∙ t) in absurd (cc)
      by u e of (inr (Holding, r)) =
          let is : Holding ≡ Transit = ap (λ w. w.phase) (sym r) ∙ (ap (λ n. (vip_at s.controller.vips n).phase) (sym of) ∙ t) in absurd (cc)
      by u e of (inr (Transit, r)) = record { update = u; is = e; of = of; late = inl r }

      two : (u : PoolUpdate) → s.controller.update ≡ Some u → (b : Bool) → (vip == u.vip) ≡ b → IsPastHold s vip
      two u e true q =
          by u e (grind (arith, nat_tests)) (of_some (λ u. IsWordOf u (vip_at s.controller.vips u.vip)) s.controller.update u i.update.update.word e)
      two u e false q =
          let other : vip ≢ u.vip = grind (arith, nat_tests) in
          let still : (vip_at s.controller.vips vip).phase ≡ Steady = i.update.update.others vip (subst (λ o. IsAside o vip) (sym e) other) in
          let no_phase : Steady ≡ Transit = sym still ∙ t in absurd (cc)

      at : (o : Option PoolUpdate) → s.controller.update ≡ o → IsPastHold s vip
      at None e =
          let still : (vip_at s.controller.vips vip).phase ≡ Steady = i.update.update.others vip (subst (λ o. IsAside o vip) (sym e) tt) in
          let no_phase : Steady ≡ Transit = sym still ∙ t in absurd (cc)
      at (Some u) e = two u e (vip == u.vip) refl

  -- of a packet that loaded Transit
  past_hold : (p : ℕ) (f : Flight) → HasWord s.controller.vips s.controller.job p f → f.vip.phase ≡ Transit → IsPastHold s f.packet.key.vip
  past_hold p f (inl e) t = of_word f.packet.key.vip (ap (λ w. w.phase) (sym e) ∙ t)
  past_hold p f (inr h) t =
      at (earlier_waited s.config s.controller.update s.controller.vips s.controller.job p f.entered f.packet.key.vip f.vip i.update.update.phase h)
    where
      by : (w : IsWaited s.controller.update s.controller.vips f.packet.key.vip f.vip) → (q : Phase) → w.phase ≡ q → IsPastHold s f.packet.key.vip
      by w Steady e = record {
        update = w.update;
        is = w.under_way;
        of = w.of;
        late = inr (w.is ∙ ap (phase_word w.update) e);
      }
      by w Recording e =
          let is : Steady ≡ Transit = ap (λ q. (word_before w.update q).phase) (sym e) ∙ (ap (λ z. z.phase) (sym w.was) ∙ t) in absurd (cc)
      by w Holding e =
          let is : Recording ≡ Transit = ap (λ q. (word_before w.update q).phase) (sym e) ∙ (ap (λ z. z.phase) (sym w.was) ∙ t) in absurd (cc)
      by w Transit e =
          let is : Holding ≡ Transit = ap (λ q. (word_before w.update q).phase) (sym e) ∙ (ap (λ z. z.phase) (sym w.was) ∙ t) in absurd (cc)

      at : IsWaited s.controller.update s.controller.vips f.packet.key.vip f.vip → IsPastHold s f.packet.key.vip
      at w = by w w.phase refl

  -- ---- no packet is being recorded any more

  word_late : (u : PoolUpdate) → (vip_at s.controller.vips u.vip ≡ phase_word u Transit) ⊎ (vip_at s.controller.vips u.vip ≡ phase_word u Steady)
      → ((vip_at s.controller.vips u.vip).phase ≢ Recording) × ((vip_at s.controller.vips u.vip).phase ≢ Holding)
  word_late u (inl e) =
      (λ h. let no : Transit ≡ Recording = ap (λ w. w.phase) (sym e) ∙ h in absurd (cc), λ h. let no : Transit ≡ Holding = ap (λ w. w.phase) (sym e) ∙ h in absurd (cc))
  word_late u (inr e) =
      (λ h. let no : Steady ≡ Recording = ap (λ w. w.phase) (sym e) ∙ h in absurd (cc), λ h. let no : Steady ≡ Holding = ap (λ w. w.phase) (sym e) ∙ h in absurd (cc))

  recorded_phase : (f : Flight) (v : Verdict) → is_recorded f v ≡ true → f.vip.phase ≡ Recording
  recorded_phase f v h = at f.vip.phase (parts _ _ (parts (is_opener f.packet.kind) _ h).1).1
    where
      at : (q : Phase) → is_recording q ≡ true → q ≡ Recording
      at Recording e = refl
      at Steady e = cc
      at Holding e = cc
      at Transit e = cc

  -- none is, of an update past Holding
  none_recorded : (vip : ℕ) (h : IsPastHold s vip) (bit : ℕ)
      → SomePipe (λ p v. SetsNow s.config.layout h.update.vip bit v.stage) s.pipes
      → ⊥
  none_recorded vip h bit (q, w, there, sets) = at w.stage refl sets
    where
      by : (f : Flight) → f.vip.phase ≡ Recording → f.packet.key.vip ≡ h.update.vip → HasWord s.controller.vips s.controller.job q f → ⊥
      by f r of (inl e) =
          (word_late h.update h.late).0 (ap (λ n. (vip_at s.controller.vips n).phase) (sym of) ∙ (ap (λ z. z.phase) (sym e) ∙ r))
      by f r of (inr e) =
          waited (earlier_waited s.config s.controller.update s.controller.vips s.controller.job q f.entered f.packet.key.vip f.vip i.update.update.phase e)
        where
          in_phase : (w : IsWaited s.controller.update s.controller.vips f.packet.key.vip f.vip) → (p : Phase) → w.phase ≡ p → ⊥
          in_phase w Steady t =
              let no : Transit ≡ Recording = ap (λ q. (word_before w.update q).phase) (sym t) ∙ (ap (λ z. z.phase) (sym w.was) ∙ r) in absurd (cc)
          in_phase w Recording t =
              let no : Steady ≡ Recording = ap (λ q. (word_before w.update q).phase) (sym t) ∙ (ap (λ z. z.phase) (sym w.was) ∙ r) in absurd (cc)
          in_phase w Holding t =
              let same : w.update ≡ h.update = same_Some w.update h.update (sym w.under_way ∙ h.is) in
              let held : (vip_at s.controller.vips w.update.vip).phase ≡ Holding =
              ap (λ z. z.phase) w.is ∙ ap (λ p. (phase_word w.update p).phase) t in
              (word_late h.update h.late).1 (ap (λ u. (vip_at s.controller.vips u.vip).phase) (sym same) ∙ held)
          in_phase w Transit t =
              let no : Holding ≡ Recording = ap (λ q. (word_before w.update q).phase) (sym t) ∙ (ap (λ z. z.phase) (sym w.was) ∙ r) in absurd (cc)

          waited : IsWaited s.controller.update s.controller.vips f.packet.key.vip f.vip → ⊥
          waited w = in_phase w w.phase refl

      at : (a : Stage) → w.stage ≡ a → SetsNow s.config.layout h.update.vip bit a → ⊥
      at (Fly f (Judged v last)) e sets =
          by f (recorded_phase f v sets.0) sets.1 (flight_at s i q w there f (Judged v last) e).word
      at a e sets = absurd sets

  -- ---- the places of the key

  not_first : (u : PoolUpdate) → s.controller.update ≡ Some u
      → (vip_at s.controller.vips u.vip ≡ phase_word u Transit) ⊎ (vip_at s.controller.vips u.vip ≡ phase_word u Steady)
      → vip_at s.controller.vips u.vip ≢ steady u.replaced
  not_first u e (inl w) r = let no : Transit ≡ Steady = ap (λ z. z.phase) (sym w ∙ r) in absurd (cc)
  not_first u e (inr w) r =
      let same : u.given ≡ u.replaced = ap (λ z. z.cur) (sym w ∙ r) in
      (of_some (UpdateFits s.config) s.controller.update u i.update.update.fits e).other (sym same)

  place_told : (vip : ℕ) (h : IsPastHold s vip) (bit : ℕ) → bit < s.config.layout.shape.filter_bits → is_set_in (bit_words s.words) bit ≡ true
      → is_set s.config.layout.shape.filter_bits vip (recorded_giving (printed s) vip) bit (printed s) ≡ true
  place_told vip h bit below set =
      subst (λ n. is_set s.config.layout.shape.filter_bits n (recorded_giving (printed s) n) bit (printed s) ≡ true) (sym h.of) (at told)
    where
      told : IsSetBy s.config.layout (printed s) s.pipes h.update bit
      told =
          (subst (Markers s.config.layout (bit_words s.words) s.controller.vips (printed s) s.pipes) h.is i.filter.filter.markers)
          (not_first h.update h.is h.late) bit below set

      at : IsSetBy s.config.layout (printed s) s.pipes h.update bit
          → is_set s.config.layout.shape.filter_bits h.update.vip (recorded_giving (printed s) h.update.vip) bit (printed s) ≡ true
      at (inl e) = e
      at (inr e) = absurd (none_recorded vip h bit e)

  all_told : (vip : ℕ) (h : IsPastHold s vip) (bits : List ℕ) → AllByRecursion (λ bit. bit < s.config.layout.shape.filter_bits) bits
      → list_all (is_set_in (bit_words s.words)) bits ≡ true
      → list_all (λ place. is_set s.config.layout.shape.filter_bits vip (recorded_giving (printed s) vip) place (printed s)) bits ≡ true
  all_told vip h [] a e = refl
  all_told vip h (bit ∷ rest) a e =
      let two = parts (is_set_in (bit_words s.words) bit) (list_all (is_set_in (bit_words s.words)) rest) e in
      and_true _ _ (place_told vip h bit a.0 two.0) (all_told vip h rest a.1 two.1)

  some_hold : (lines : List Line) (vip entered : ℕ) (o : Option ℕ) → not_finished lines vip entered o ≡ true → (tick : ℕ) × (o ≡ Some tick)
  some_hold lines vip entered None e = absurd (cc)
  some_hold lines vip entered (Some tick) e = (tick, refl)

  -- an opener that loaded Transit and whose places are set may be held
  pub transit_told : (p : ℕ) (f : Flight) → HasWord s.controller.vips s.controller.job p f → f.vip.phase ≡ Transit
      → not_finished (printed s) f.packet.key.vip f.entered (last_hold (printed s) f.packet.key.vip) ≡ true
      → is_marked s.config.layout (bit_words s.words) f.packet.key ≡ true
      → may_transit s.config.layout.shape (printed s) f.packet.key f.entered ≡ true
  unfolding may_transit
  transit_told p f w t known marked =
      let key = f.packet.key in
      let h = past_hold p f w t in
      let some : 0 < s.config.layout.shape.filter_bits = omega (arith, i.shape.config.layout.filter_bits.0) in
      let held = some_hold (printed s) key.vip f.entered (last_hold (printed s) key.vip) known in
      let told = held_recorded (setup_of s.config) _ (printed s) key.vip held.0 i.causes.causes.clauses held.1 in
      and_true _ _ (and_true _ _ known told)
      (all_told key.vip h (bloom_places_of key s.config.layout.shape.filter_bits)
      (mod_below _ s.config.layout.shape.filter_bits some, (mod_below _ s.config.layout.shape.filter_bits some, (mod_below _ s.config.layout.shape.filter_bits some, tt))) marked)
