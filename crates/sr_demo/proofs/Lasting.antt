-- The last round of packets begins no earlier than the window of any of them.
use Rattle.std.proofs.Common.{◌≡◌, ℕ, ◌≤◌, ◌⊎◌, nat_le, Bool, true, false, List, [], ◌∷◌, Option, None, Some, if◌then◌else◌, refl, inl, inr, arith}
use Rattle.std.proofs.lemmas.Bool.{and_parts, eqb-true, leb-true, leb-false}
use Rattle.sr_inv_ends.specs.Laws.{clock_after}
use Rattle.sr_machine.specs.Telling.{is_no_earlier}
use Rattle.sr_rounds.specs.Rounds.{grown, opened, rounds_after, rounds_of, takes, window_start}
use Rattle.sr_rounds.specs.declared.round.Round.{Round}
use Rattle.sr_rounds.specs.declared.timed.Timed.{Timed}

-- the clock has come so far
abbrev pub Past : ℕ → Option ℕ → Type 0
Past ms None = ⊥
Past ms (Some clock) = ms ≤ clock

-- the window of one of these packets begins then or later
abbrev pub Comes : ℕ → ℕ → List Timed → Type 0
Comes window ms [] = ⊥
Comes window ms (p ∷ rest) = (ms ≤ window_start window p.ms) ⊎ Comes window ms rest

-- the clock once this time was told
abbrev told : Option ℕ → ℕ → Option ℕ
told clock start = if is_no_earlier clock start then Some start else clock

told_past : (ms start : ℕ) (clock : Option ℕ) → ms ≤ start → Past ms (told clock start)
told_past ms start None h = h
told_past ms start (Some clock) h = at (nat_le clock start) refl
  where
    at : (b : Bool) → nat_le clock start ≡ b → Past ms (if b then Some start else Some clock)
    at true e = h
    at false e = omega (arith, h, leb-false clock start e)

stays_past : (ms start : ℕ) (clock : Option ℕ) → Past ms clock → Past ms (told clock start)
stays_past ms start None h = absurd h
stays_past ms start (Some clock) h = at (nat_le clock start) refl
  where
    at : (b : Bool) → nat_le clock start ≡ b → Past ms (if b then Some start else Some clock)
    at true e = omega (arith, h, leb-true clock start e)
    at false e = h

after_past : (ms : ℕ) (clock : Option ℕ) (rounds : List Round) → Past ms clock → Past ms (clock_after clock rounds)
after_past ms clock [] h = h
after_past ms clock (r ∷ rest) h = after_past ms (told clock r.start_ms) rest (stays_past ms r.start_ms clock h)

rounds_past : (window ms : ℕ) (r : Round) (packets : List Timed) (clock : Option ℕ) → (ms ≤ r.start_ms) ⊎ Comes window ms packets
    → Past ms (clock_after clock (rounds_after window r packets))
rounds_past window ms r [] clock (inl h) = told_past ms r.start_ms clock h
rounds_past window ms r [] clock (inr h) = absurd h
rounds_past window ms r (p ∷ rest) clock h =
    at (takes window r p) refl (rounds_past window ms (grown r) rest clock)
    (rounds_past window ms (opened window r.to p) rest (told clock r.start_ms)) h
  where
    at : (b : Bool) → takes window r p ≡ b
        → ((ms ≤ r.start_ms) ⊎ Comes window ms rest → Past ms (clock_after clock (rounds_after window (grown r) rest)))
        → ((ms ≤ window_start window p.ms) ⊎ Comes window ms rest → Past ms (clock_after (told clock r.start_ms) (rounds_after window (opened window r.to p) rest)))
        → (ms ≤ r.start_ms) ⊎ Comes window ms (p ∷ rest)
        → Past ms (clock_after clock (if b then rounds_after window (grown r) rest else (r ∷ rounds_after window (opened window r.to p) rest)))
    at true e within anew (inl h) = within (inl h)
    at true e within anew (inr (inl h)) =
        within (inl (omega (arith, h, eqb-true (window_start window p.ms) r.start_ms (and_parts _ _ e).0)))
    at true e within anew (inr (inr h)) = within (inr h)
    at false e within anew (inl h) =
        after_past ms (told clock r.start_ms) (rounds_after window (opened window r.to p) rest) (told_past ms r.start_ms clock h)
    at false e within anew (inr (inl h)) = anew (inl h)
    at false e within anew (inr (inr h)) = anew (inr h)

pub last_past : (window ms : ℕ) (packets : List Timed) → Comes window ms packets → Past ms (clock_after None (rounds_of window packets))
last_past window ms [] h = absurd h
last_past window ms (p ∷ rest) h = rounds_past window ms (opened window 0 p) rest None h
