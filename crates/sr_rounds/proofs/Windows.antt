-- The rounds of a list of packets are its windows, cut where they are full.
use Rattle.std.proofs.Common.{◌≡◌, ◌≢◌, ◌∙◌, ℕ, suc, ◌+◌, ◌-◌, ◌<◌, ◌≤◌, ◌==◌, nat_lt, ◌⊎◌, inl, inr, Bool, true, false, List, [], ◌∷◌, length, slice_get, Some, refl, sym, ap, subst, if◌then◌else◌, arith}
use Rattle.std.proofs.lemmas.Bool.Decides.{nat_tests}
use Rattle.sr_rounds.specs.Rounds.{AreRoundsOf, AreTheRounds, CutWhereDue, Follow, IsRoundOf, grown, most_packets, opened, rounds_after, rounds_of, takes, window_start}
use Rattle.sr_rounds.specs.declared.round.Round.{Round}
use Rattle.sr_rounds.specs.declared.timed.Timed.{Timed}

module _ (window_ms : ℕ) where
  follow_by : (t : Bool) (r : Round) (p : Timed) (ps : List Timed)
      → Follow r.from (rounds_after window_ms (grown r) ps) (r.to + 1 + length ps)
      → Follow r.to (rounds_after window_ms (opened window_ms r.to p) ps) (r.to + 1 + length ps)
      → Follow r.from (if t then rounds_after window_ms (grown r) ps else (r ∷ rounds_after window_ms (opened window_ms r.to p) ps))
      (r.to + length (p ∷ ps))
  follow_by true r p ps more next =
      let n : r.to + 1 + length ps ≡ r.to + length (p ∷ ps) = omega arith in
      subst (λ m. Follow r.from (rounds_after window_ms (grown r) ps) m) n more
  follow_by false r p ps more next =
      let n : r.to + 1 + length ps ≡ r.to + length (p ∷ ps) = omega arith in
      (refl, subst (λ m. Follow r.to (rounds_after window_ms (opened window_ms r.to p) ps) m) n next)

  -- a round and those after it follow one another, to the end of the packets
  follow : (r : Round) (ps : List Timed) → Follow r.from (rounds_after window_ms r ps) (r.to + length ps)
  follow r [] = (refl, omega arith)
  follow r (p ∷ ps) = follow_by (takes window_ms r p) r p ps (follow (grown r) ps) (follow (opened window_ms r.to p) ps)

  -- these packets are those of the list from this position on
  From : List Timed → ℕ → List Timed → Type 0
  From packets from ps = (i : ℕ) → slice_get packets (from + i) ≡ slice_get ps i

  module _ (packets : List Timed) where
    first_from : (from : ℕ) (p : Timed) (ps : List Timed) → From packets from (p ∷ ps) → slice_get packets from ≡ Some p
    unfolding From
    first_from from p ps h = let zero_more : from + 0 ≡ from = omega arith in ap (slice_get packets) (sym zero_more) ∙ h 0

    rest_from : (from : ℕ) (p : Timed) (ps : List Timed) → From packets from (p ∷ ps) → From packets (from + 1) ps
    unfolding From
    rest_from from p ps h i = let one_more : from + 1 + i ≡ from + suc i = omega arith in ap (slice_get packets) one_more ∙ h (suc i)

    is_opened : (at : ℕ) (p : Timed) → slice_get packets at ≡ Some p → IsRoundOf window_ms packets (opened window_ms at p)
    is_opened at p is = record {
      some = omega arith;
      most = omega arith;
      window = λ i q low high e.
          let here : i ≡ at = omega (arith, low, high) in
          let same : Some q ≡ Some p = sym e ∙ ap (slice_get packets) here ∙ is in
          let q_is : q ≡ p = cc same in
          ap (λ x. window_start window_ms x.ms) q_is;
    }

    is_grown : (r : Round) (p : Timed) → slice_get packets r.to ≡ Some p → takes window_ms r p ≡ true → IsRoundOf window_ms packets r
        → IsRoundOf window_ms packets (grown r)
    is_grown r p is t own = record {
      some = let some = own.some in omega arith;
      most = let room : nat_lt (r.to - r.from) most_packets ≡ true = grind (arith, nat_tests) in
          let some = own.some in grind (arith, nat_tests);
      window = λ i q low high e. at (nat_lt i r.to) i refl q low high e;
    }
      where
        at : (b : Bool) → (i : ℕ) → nat_lt i r.to ≡ b → (q : Timed) → r.from ≤ i → i < r.to + 1 → slice_get packets i ≡ Some q
            → window_start window_ms q.ms ≡ r.start_ms
        at true i b q low high e = let below : i < r.to = grind (arith, nat_tests) in own.window i q low below e
        at false i b q low high e =
            let here : i ≡ r.to = grind (arith, nat_tests) in
            let same : Some q ≡ Some p = sym e ∙ ap (slice_get packets) here ∙ is in
            let q_is : q ≡ p = cc same in
            let start : window_start window_ms p.ms ≡ r.start_ms = grind (arith, nat_tests) in
            ap (λ x. window_start window_ms x.ms) q_is ∙ start

    each_by : (t : Bool) (r : Round) (p : Timed) (ps : List Timed) → IsRoundOf window_ms packets r
        → (t ≡ true → AreRoundsOf window_ms packets (rounds_after window_ms (grown r) ps))
        → AreRoundsOf window_ms packets (rounds_after window_ms (opened window_ms r.to p) ps)
        → AreRoundsOf window_ms packets
        (if t then rounds_after window_ms (grown r) ps else (r ∷ rounds_after window_ms (opened window_ms r.to p) ps))
    each_by true r p ps own more next = more refl
    each_by false r p ps own more next = (own, next)

    -- each is a round of the packets
    each : (r : Round) (ps : List Timed) → IsRoundOf window_ms packets r → From packets r.to ps
        → AreRoundsOf window_ms packets (rounds_after window_ms r ps)
    each r [] own from = (own, tt)
    each r (p ∷ ps) own from =
        each_by (takes window_ms r p) r p ps own
        (λ t. each (grown r) ps (is_grown r p (first_from r.to p ps from) t own) (rest_from r.to p ps from))
        (each (opened window_ms r.to p) ps (is_opened r.to p (first_from r.to p ps from)) (rest_from r.to p ps from))

  -- the first of these rounds has this window
  Starts : List Round → ℕ → Type 0
  Starts [] start = Unit {0}
  Starts (r ∷ rest) start = r.start_ms ≡ start

  starts_by : (t : Bool) (r : Round) (p : Timed) (ps : List Timed) → Starts (rounds_after window_ms (grown r) ps) r.start_ms
      → Starts (if t then rounds_after window_ms (grown r) ps else (r ∷ rounds_after window_ms (opened window_ms r.to p) ps)) r.start_ms
  unfolding Starts
  starts_by true r p ps h = h
  starts_by false r p ps h = refl

  starts : (r : Round) (ps : List Timed) → Starts (rounds_after window_ms r ps) r.start_ms
  unfolding Starts
  starts r [] = refl
  starts r (p ∷ ps) = starts_by (takes window_ms r p) r p ps (starts (grown r) ps)

  cut_here : (r : Round) (rounds : List Round) (start : ℕ) → Starts rounds start
      → (r.start_ms ≢ start) ⊎ (r.to ≡ r.from + most_packets) → CutWhereDue rounds → CutWhereDue (r ∷ rounds)
  unfolding Starts
  cut_here r [] start is why rest = tt
  cut_here r (next ∷ rest) start is why more = (elim why [ inl differ ↦ inl (λ e. differ (e ∙ is)) | inr full ↦ inr full ], more)

  -- a packet that isn't taken is of another window, or the round is full
  parted : (r : Round) (p : Timed) → r.to ≤ r.from + most_packets → takes window_ms r p ≡ false
      → (r.start_ms ≢ window_start window_ms p.ms) ⊎ (r.to ≡ r.from + most_packets)
  parted r p most t = by (window_start window_ms p.ms == r.start_ms) refl
    where
      by : (b : Bool) → (window_start window_ms p.ms == r.start_ms) ≡ b
          → (r.start_ms ≢ window_start window_ms p.ms) ⊎ (r.to ≡ r.from + most_packets)
      by true e = inr (grind (arith, nat_tests))
      by false e = inl (λ same. grind (arith, nat_tests))

  cut_by : (t : Bool) (r : Round) (p : Timed) (ps : List Timed) → takes window_ms r p ≡ t → r.to ≤ r.from + most_packets
      → (t ≡ true → CutWhereDue (rounds_after window_ms (grown r) ps)) → CutWhereDue (rounds_after window_ms (opened window_ms r.to p) ps)
      → CutWhereDue (if t then rounds_after window_ms (grown r) ps else (r ∷ rounds_after window_ms (opened window_ms r.to p) ps))
  cut_by true r p ps is most more next = more refl
  cut_by false r p ps is most more next =
      cut_here r (rounds_after window_ms (opened window_ms r.to p) ps) (window_start window_ms p.ms)
      (starts (opened window_ms r.to p) ps) (parted r p most is) next

  room_left : (r : Round) (p : Timed) → takes window_ms r p ≡ true → r.to + 1 ≤ r.from + most_packets
  room_left r p t = let room : nat_lt (r.to - r.from) most_packets ≡ true = grind (arith, nat_tests) in grind (arith, nat_tests)

  -- a round ends where it is due
  cut : (r : Round) (ps : List Timed) → r.to ≤ r.from + most_packets → CutWhereDue (rounds_after window_ms r ps)
  cut r [] most = tt
  cut r (p ∷ ps) most =
      cut_by (takes window_ms r p) r p ps refl most (λ t. cut (grown r) ps (room_left r p t))
      (cut (opened window_ms r.to p) ps (omega arith))

  pub the_rounds : (packets : List Timed) → AreTheRounds window_ms packets (rounds_of window_ms packets)
  unfolding From
  the_rounds [] = record { all = refl; each = tt; cut = tt }
  the_rounds (p ∷ ps) = record {
    all =
        let n : 1 + length ps ≡ length (p ∷ ps) = omega arith in
        subst (λ m. Follow 0 (rounds_of window_ms (p ∷ ps)) m) n (follow (opened window_ms 0 p) ps);
    each =
        each (p ∷ ps) (opened window_ms 0 p) ps (is_opened (p ∷ ps) 0 p refl)
        (λ i. let more : 1 + i ≡ suc i = omega arith in ap (slice_get (p ∷ ps)) more);
    cut = cut (opened window_ms 0 p) ps (omega arith);
  }
