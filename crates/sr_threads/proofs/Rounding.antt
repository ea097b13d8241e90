-- Round after round.
use Rattle.std.proofs.Common.{◌≡◌, ◌∙◌, ℕ, zero, suc, ◌+◌, ◌-◌, ◌<◌, ◌≤◌, List, [], ◌∷◌, ◌++◌, length, take, drop, get_or, Option, Some, if◌then◌else◌, refl, sym, ap, subst, arith}
use Rattle.std.proofs.Math.Seq.{drop-cons, take-length}
use Rattle.sr_base.specs.Layout.{LayoutView}
use Rattle.sr_ctl.specs.SeenController.{SeenController}
use Rattle.sr_inv_ends.specs.Laws.{clock_after}
use Rattle.sr_machine.specs.Telling.{is_no_earlier}
use Rattle.sr_rounds.specs.Rounds.{AreRoundsOf, AreTheRounds, Follow, rounds_of}
use Rattle.sr_rounds.specs.declared.round.Round.{Round}
use Rattle.sr_rounds.specs.declared.timed.Timed.{Timed}
use Rattle.sr_threads.proofs.Parts.{all_ready_then, all_worked_then, none_worked}
use Rattle.sr_threads.specs.Governing.{Governed, Governs, beside}
use Rattle.sr_threads.specs.Playing.{Played}
use Rattle.sr_threads.specs.Working.{AllReady, AllWorked}
use Rattle.sr_threads.specs.declared.worker.Worker.{Worker}
use Rattle.sr_words.specs.declared.word_board.WordBoard.{WordBoard}

-- After so many rounds: the packets up to here were handled, and the others are those of the rounds to come.
pub record SoFar (l : LayoutView) (packets : List Timed) (rounds : List Round) (i : ℕ) (ws : List Worker) (a : WordBoard) (c : SeenController)
    (vs : List Worker) (b : WordBoard) (d : SeenController) : Type 0 where
  pub at : ℕ
  pub follow : Follow at (drop i rounds) (length packets)
  pub are : AreRoundsOf l.shape.window_ms packets (drop i rounds)
  pub worked : AllWorked l (take at packets) ws vs
  pub ready : AllReady l vs
  pub config : d.config ≡ c.config
  pub governs : Governs b d
  pub belongs : beside b ≡ beside a
  pub clock : clock_after d.view.clock (drop i rounds) ≡ clock_after c.view.clock rounds

pub so_far_first : (l : LayoutView) (packets : List Timed) (rounds : List Round) (ws : List Worker) (a : WordBoard) (c : SeenController)
    → AllReady l ws → Governs a c → rounds ≡ rounds_of l.shape.window_ms packets
    → AreTheRounds l.shape.window_ms packets (rounds_of l.shape.window_ms packets)
    → SoFar l packets rounds 0 ws a c ws a c
so_far_first l packets rounds ws a c ready governs is the = record {
  at = 0;
  follow = subst (λ (rs : List Round). Follow 0 rs (length packets)) (sym is) the.all;
  are = subst (AreRoundsOf l.shape.window_ms packets) (sym is) the.each;
  worked = none_worked l ws ready;
  ready = ready;
  config = refl;
  governs = governs;
  belongs = refl;
  clock = refl;
}

-- rounds to come are of the packets that there are
within : (w : ℕ) (packets : List Timed) (at : ℕ) (rounds : List Round) → Follow at rounds (length packets) → AreRoundsOf w packets rounds
    → at ≤ length packets
within w packets at [] f a = omega (arith, f)
within w packets at (r ∷ rs) f a = let h = within w packets r.to rs f.1 a.1 in let s = a.0.some in let e = f.0 in omega arith

take_none : {X : Type 0} (n : ℕ) → take {A = X} n [] ≡ []
take_none zero = refl
take_none (suc n) = refl

taken : {X : Type 0} (n m : ℕ) (xs : List X) → take n xs ++ take m (drop n xs) ≡ take (n + m) xs
taken zero m xs = ap (λ k. take k xs) (omega arith)
taken (suc n) m [] = take_none m ∙ sym (take_none (suc n + m))
taken (suc n) m (x ∷ xs) = let e : suc n + m ≡ suc (n + m) = omega arith in ap (λ ys. x ∷ ys) (taken n m xs) ∙ ap (λ k. take k (x ∷ xs)) (sym e)

-- a round that stands in for none
abbrev pub no_round : Round
no_round = record { start_ms = 0; from = 0; to = 0 }

-- an item doesn't ask what would stand in for it
pub this_item : {X : Type 0} (xs : List X) (i : ℕ) (d : X) → i < length xs → get_or xs i d ≡ get_or xs i (get_or xs i d)
this_item [] i d b = absurd (omega arith)
this_item (x ∷ xs) zero d b = refl
this_item (x ∷ xs) (suc i) d b = this_item xs i d (omega arith)

module _ (l : LayoutView) (packets : List Timed) (rounds : List Round) (i : ℕ) (ws : List Worker) (a : WordBoard) (c : SeenController)
    (vs : List Worker) (b : WordBoard) (d : SeenController) (so : SoFar l packets rounds i ws a c vs b d) (r : Round) (here : i < length rounds)
    (is : r ≡ get_or rounds i r) where
  left : drop i rounds ≡ r ∷ drop (i + 1) rounds
  left =
      let s : suc i ≡ i + 1 = omega arith in
      drop-cons rounds i r here ∙ ap (λ (x : Round). x ∷ drop (suc i) rounds) (sym is) ∙ ap (λ n. r ∷ drop n rounds) s

  follow_here : Follow so.at (r ∷ drop (i + 1) rounds) (length packets)
  follow_here = subst (λ (rs : List Round). Follow so.at rs (length packets)) left so.follow

  are_here : AreRoundsOf l.shape.window_ms packets (r ∷ drop (i + 1) rounds)
  are_here = subst (AreRoundsOf l.shape.window_ms packets) left so.are

  pub part_order : r.from ≤ r.to
  part_order = let s = are_here.0.some in omega arith

  pub part_within : r.to ≤ length packets
  part_within = within l.shape.window_ms packets r.to (drop (i + 1) rounds) follow_here.1 are_here.1

  -- the next round was played
  pub so_far_more : (us : List Worker) (e f : WordBoard) (g h : SeenController)
      → g.config ≡ d.config → beside e ≡ beside b
      → g.view.clock ≡ (if is_no_earlier d.view.clock r.start_ms then Some r.start_ms else d.view.clock)
      → AllWorked l (take (r.to - r.from) (drop r.from packets)) vs us → Governed e g f h
      → SoFar l packets rounds (i + 1) ws a c us f h
  so_far_more us e f g h config belongs clock worked governed = record {
    at = r.to;
    follow = follow_here.1;
    are = are_here.1;
    worked =
        let from : r.from ≡ so.at = follow_here.0 in
        let order = part_order in
        let to : r.from + (r.to - r.from) ≡ r.to = omega arith in
        subst (λ (xs : List Timed). AllWorked l xs ws us)
        (ap (λ n. take n packets ++ take (r.to - r.from) (drop r.from packets)) (sym from) ∙ taken r.from (r.to - r.from) packets ∙ ap (λ n. take n packets) to)
        (all_worked_then l (take so.at packets) (take (r.to - r.from) (drop r.from packets)) ws vs us so.worked worked);
    ready = all_ready_then l (take (r.to - r.from) (drop r.from packets)) vs us so.ready worked;
    config = governed.config ∙ config ∙ so.config;
    governs = governed.board;
    belongs = governed.belongs ∙ belongs ∙ so.belongs;
    clock =
        ap (λ (o : Option ℕ). clock_after o (drop (i + 1) rounds)) (governed.clock ∙ clock)
        ∙ ap (clock_after d.view.clock) (sym left) ∙ so.clock;
  }

dropped_all : {X : Type 0} (i : ℕ) (xs : List X) → length xs ≤ i → drop i xs ≡ []
dropped_all zero [] b = refl
dropped_all (suc i) [] b = refl
dropped_all zero (x ∷ xs) b = absurd (omega arith)
dropped_all (suc i) (x ∷ xs) b = dropped_all i xs (omega arith)

pub so_far_all : (l : LayoutView) (packets : List Timed) (rounds : List Round) (i : ℕ) (ws : List Worker) (a : WordBoard) (c : SeenController)
    (vs : List Worker) (b : WordBoard) (d : SeenController) → SoFar l packets rounds i ws a c vs b d → length rounds ≤ i
    → Played l packets rounds ws a c vs b d
so_far_all l packets rounds i ws a c vs b d so over =
    let none : drop i rounds ≡ [] = dropped_all i rounds over in
    let end : so.at ≡ length packets = subst (λ (rs : List Round). Follow so.at rs (length packets)) none so.follow in
    record {
      worked = subst (λ (xs : List Timed). AllWorked l xs ws vs) (ap (λ n. take n packets) end ∙ take-length packets) so.worked;
      config = so.config;
      governs = so.governs;
      belongs = so.belongs;
      clock = ap (clock_after d.view.clock) (sym none) ∙ so.clock;
    }
