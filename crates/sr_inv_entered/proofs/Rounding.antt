-- Round after round the packets of the capture come.
use Rattle.std.proofs.Common.{◌≡◌, ℕ, ◌+◌, ◌-◌, ◌<◌, ◌≤◌, ◌^◌, ◌==◌, List, [], ◌∷◌, ◌++◌, length, map, take, drop, filter, if◌then◌else◌, sym, refl, ap, ◌∙◌, subst, arith}
use Rattle.std.proofs.Math.Nat.{mod-lt}
use Rattle.std.proofs.lemmas.List.{drop-drop, length-append, map-append, take-append-drop}
use Rattle.std.proofs.lemmas.List.FromFn.{length-map-range_with_len}
use Rattle.std.proofs.lemmas.List.Sums.{sum_by-append, sum_by-cons}
use Rattle.std.specs.List.{AllByRecursion, range_with_len}
use Rattle.sr_base.specs.declared.packet.Packet.{Packet}
use Rattle.sr_hash.specs.Keyed.{hash_of}
use Rattle.sr_hash.specs.Uses.{pipe_number}
use Rattle.sr_inv_entered.proofs.Playing.{Holds, acts_stand}
use Rattle.sr_inv_entered.proofs.Sharing.{shares_count}
use Rattle.sr_inv_entered.proofs.Standing.{Stands, after_stands}
use Rattle.sr_inv_entered.specs.Entered.{MayEnter, given}
use Rattle.sr_inv_facts.proofs.Lists.{all_back, all_filtered, all_front}
use Rattle.sr_inv_final.proofs.Entering.{times}
use Rattle.sr_law.specs.Final.{same_packet}
use Rattle.sr_machine.specs.Config.{Config}
use Rattle.sr_machine.specs.Core.{Core}
use Rattle.sr_machine.specs.declared.event.Event.TheVariants.{Due}
use Rattle.sr_picks.specs.Run.{RoundsByActs, packets_in, round_begun}
use Rattle.sr_rounds.specs.Rounds.{AreRoundsOf, Follow}
use Rattle.sr_rounds.specs.declared.round.Round.{Round}
use Rattle.sr_rounds.specs.declared.timed.Timed.{Timed}

-- the packets of these rounds
abbrev pub packets_of_rounds : List Timed → List Round → List Packet
packets_of_rounds packets [] = []
packets_of_rounds packets (r ∷ rest) = packets_in packets r ++ packets_of_rounds packets rest

-- ---- they are those of the capture

dropped_all : {X : Type 0} (xs : List X) → drop (length xs) xs ≡ []
dropped_all [] = refl
dropped_all (x ∷ xs) = dropped_all xs

-- rounds that follow one another from a position on have the packets from there on
pub rounds_from : (window_ms : ℕ) (packets : List Timed) (from : ℕ) (rounds : List Round) → Follow from rounds (length packets)
    → AreRoundsOf window_ms packets rounds
    → packets_of_rounds packets rounds ≡ given (drop from packets)
rounds_from window_ms packets from [] f a = sym (ap (λ n. given (drop n packets)) f ∙ ap given (dropped_all packets))
rounds_from window_ms packets from (r ∷ rest) f a =
    let rising : r.from < r.to = a.0.some in
    let here : r.from ≡ from = f.0 in
    let on : r.from + (r.to - r.from) ≡ r.to = omega (arith, rising) in
    let after : drop (r.to - r.from) (drop r.from packets) ≡ drop r.to packets =
    drop-drop (r.to - r.from) r.from packets ∙ ap (λ n. drop n packets) on in
    let split : take (r.to - r.from) (drop r.from packets) ++ drop r.to packets ≡ drop r.from packets =
    ap (λ xs. take (r.to - r.from) (drop r.from packets) ++ xs) (sym after) ∙ take-append-drop (r.to - r.from) (drop r.from packets) in
    ap (λ xs. packets_in packets r ++ xs) (rounds_from window_ms packets r.to rest f.1 a.1)
    ∙ (sym (map-append (λ (t : Timed). t.packet) (take (r.to - r.from) (drop r.from packets)) (drop r.to packets))
    ∙ (ap given split ∙ ap (λ n. given (drop n packets)) here))

-- ---- a round begins

shares_may : (k : Config) (of : Packet → ℕ) (ys : List Packet) (pipes : List ℕ) → AllByRecursion (MayEnter k) ys
    → AllByRecursion (AllByRecursion (MayEnter k)) (map (λ i. filter (λ y. of y == i) ys) pipes)
shares_may k of ys [] a = tt
shares_may k of ys (i ∷ rest) a = (all_filtered (MayEnter k) (λ y. of y == i) ys a, shares_may k of ys rest a)

module _ (k : Config) (packet : Packet) (some : 1 ≤ k.layout.shape.pipes) where
  begun_holds : (packets : List Timed) (r : Round) (n m : ℕ) (s : Core) → Stands k packet n m s
      → AllByRecursion (MayEnter k) (packets_in packets r)
      → Holds k packet (n + length (packets_in packets r)) (m + times packet (packets_in packets r)) (round_begun packets r 0 s)
  begun_holds packets r n m s h may =
      let ys = packets_in packets r in
      let pipes = s.config.layout.shape.pipes in
      let same : pipes ≡ k.layout.shape.pipes = ap (λ c. c.layout.shape.pipes) h.config in
      let of : Packet → ℕ = λ y. pipe_number y.key pipes in
      let more : 0 < pipes = omega (arith, same, some) in
      let within : (y : Packet) → of y < pipes = λ y. mod-lt (hash_of 9 y.key) more in
      let once : (y : Packet) (zs : List Packet) → times packet (y ∷ zs) ≡ (if same_packet packet y then 1 else 0) + times packet zs =
      sum_by-cons (λ z. if same_packet packet z then 1 else 0) in
      let counts = shares_count length (λ y. 1) refl (λ y zs. omega arith) of pipes ys within in
      let own = shares_count (times packet) (λ y. if same_packet packet y then 1 else 0) refl once of pipes ys within in record {
        came = n;
        often = m;
        stands = after_stands k packet n m s (Due r.start_ms) h tt;
        shares = length-map-range_with_len (λ i. filter (λ y. of y == i) ys) 0 pipes ∙ same;
        may = shares_may k of ys (range_with_len 0 pipes) may;
        sum = ap (λ c. n + c) counts;
        sum_own = ap (λ c. m + c) own;
      }

  -- ---- all rounds

  pub rounds_stand : (packets : List Timed) (rounds : List Round) (n m : ℕ) (s t : Core) → Stands k packet n m s
      → AllByRecursion (MayEnter k) (packets_of_rounds packets rounds)
      → n + length (packets_of_rounds packets rounds) < 2 ^ 32
      → RoundsByActs packets rounds s t
      → Stands k packet (n + length (packets_of_rounds packets rounds)) (m + times packet (packets_of_rounds packets rounds)) t
  rounds_stand packets [] n m s t h may few e =
      let same : n ≡ n + 0 = omega arith in
      let own : m ≡ m + 0 = omega arith in
      subst (λ a. Stands k packet a (m + 0) t) same (subst (λ b. Stands k packet n b t) own (subst (Stands k packet n m) (sym e) h))
  rounds_stand packets (r ∷ rest) n m s t h may few (q, acts, more) =
      let ys = packets_in packets r in
      let zs = packets_of_rounds packets rest in
      let long : length (ys ++ zs) ≡ length ys + length zs = length-append ys zs in
      let often : times packet (ys ++ zs) ≡ times packet ys + times packet zs =
      sum_by-append (λ z. if same_packet packet z then 1 else 0) ys zs in
      let came = n + length ys in
      let own_came = m + times packet ys in
      let begun = begun_holds packets r n m s h (all_front (MayEnter k) ys zs may) in
      let here = acts_stand k packet came own_came (omega (arith, few, long)) (round_begun packets r 0 s) q begun acts in
      let later = all_back (MayEnter k) ys zs may in
      let there = rounds_stand packets rest came own_came q.state t here later (omega (arith, few, long)) more in
      let all : n + length ys + length zs ≡ n + length (ys ++ zs) = omega (arith, long) in
      let own : m + times packet ys + times packet zs ≡ m + times packet (ys ++ zs) = omega (arith, often) in
      subst (λ a. Stands k packet a (m + times packet (ys ++ zs)) t) all (subst (λ b. Stands k packet (n + length ys + length zs) b t) own there)
