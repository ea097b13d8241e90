-- Pipes and their boards between rounds, and the boards together again.
use Rattle.std.proofs.Common.{◌≡◌, ◌∙◌, ℕ, zero, suc, ◌+◌, ◌-◌, ◌<◌, ◌++◌, List, [], ◌∷◌, length, map, replicate, slice_index_or, take, drop, refl, sym, ap, subst, arith}
use Rattle.std.proofs.lemmas.List.{append_assoc, map-append}
use Rattle.std.specs.List.{range_with_len}
use Rattle.atomic_table.specs.Seated.{TableId}
use Rattle.sr_base.specs.Layout.{LayoutView}
use Rattle.sr_machine.specs.Boards.{Beside}
use Rattle.sr_machine.specs.Config.{Config}
use Rattle.sr_machine.specs.Pipe.{fresh_pipe, is_idle}
use Rattle.sr_machine.specs.declared.pipe_view.PipeView.{PipeView}
use Rattle.sr_machine.specs.declared.view.View.{View}
use Rattle.sr_machine.specs.declared.view.View.TheVariants.{OfPipe}
use Rattle.sr_rounds.specs.declared.timed.Timed.{Timed}
use Rattle.sr_threads.specs.Hiring.{Hired, IsHired, held_by, views_in}
use Rattle.sr_threads.specs.Replayed.{AreAtWork, IsAtWork, alone_on}
use Rattle.sr_threads.specs.Working.{AllReady, AllWorked, Fits, IsReady, Worked}
use Rattle.sr_threads.specs.declared.worker.Worker.{Worker}
use Rattle.sr_words.specs.Besides.{beside_of}
use Rattle.sr_words.specs.Boarding.{FitIdle, HeldBoard, board_of, held, new_boards, number_of}
use Rattle.sr_words.specs.Laws.{BoardsKnowPipes}
use Rattle.sr_words.specs.Steps.{FitsSeat}
use Rattle.sr_words.specs.declared.word_board.WordBoard.{WordBoard}

-- ---- what is known of a board, by what it is for

-- a board that is for one actor, who was told nothing, fits what the actor knows
pub fits_held : (b : WordBoard) (k : Config) (t : TableId) (x : View) → held b ≡ board_of k t x
    → FitsSeat b.words.now.key b.seat.me.0 b.heard k x
fits_held b k t x e =
    subst (λ (h : HeldBoard). FitsSeat h.config h.seat h.heard k x) (sym e) (refl, x, [], refl, refl)

pub beside_held : (b : WordBoard) (k : Config) (t : TableId) (x : View) → held b ≡ board_of k t x
    → beside_of b.layout b.seat.table_id b.seat.me.0 ≡ alone_on k t
beside_held b k t x e =
    ap (λ (l : LayoutView). beside_of l b.seat.table_id b.seat.me.0) (b.placed ∙ ap (λ (h : HeldBoard). h.config.layout) e)
    ∙ ap (λ (h : HeldBoard). beside_of k.layout h.table h.seat) e

-- ---- at the beginning

hired_ready : (k : Config) (t : TableId) (n : ℕ) (w : Worker) → IsHired k t n w → IsReady k.layout w
hired_ready k t n w h = record {
  layout = h.layout;
  idle = ap (λ (v : PipeView). is_idle v.stage) h.view;
  board = record {
    layout = ap (λ (b : Beside). b.layout) (beside_held w.board k t (OfPipe (fresh_pipe n)) h.board) ∙ sym h.layout;
    view =
        (k, sym h.layout, subst (λ (v : PipeView). Fits w k (OfPipe v)) (sym h.view) (fits_held w.board k t (OfPipe (fresh_pipe n)) h.board));
  };
}

pub all_hired_ready : (k : Config) (t : TableId) (from n : ℕ) (ws : List Worker) → Hired k t from n ws → AllReady k.layout ws
all_hired_ready k t from zero [] h = tt
all_hired_ready k t from zero (w ∷ ws) h = absurd h
all_hired_ready k t from (suc n) [] h = absurd h
all_hired_ready k t from (suc n) (w ∷ ws) h = (hired_ready k t from w h.0, all_hired_ready k t (from + 1) n ws h.1)

-- ---- after rounds

worked_hired : (k : Config) (t : TableId) (n : ℕ) (w v : Worker) → IsHired k t n w
    → ((part : List _) → Worked w part v → IsAtWork k t n v)
worked_hired k t n w v h part d = record {
  layout = d.layout ∙ h.layout;
  idle = d.idle;
  fits =
      d.fits k (sym h.layout)
      (subst (λ (x : PipeView). Fits w k (OfPipe x)) (sym h.view) (fits_held w.board k t (OfPipe (fresh_pipe n)) h.board));
  belongs = d.belongs ∙ beside_held w.board k t (OfPipe (fresh_pipe n)) h.board;
  number = d.number ∙ ap (λ (x : PipeView). x.number) h.view;
}

pub all_at_work : (k : Config) (t : TableId) (l : LayoutView) (packets : List Timed) (from n : ℕ) (ws vs : List Worker) → Hired k t from n ws
    → AllWorked l packets ws vs → AreAtWork k t from n vs
all_at_work k t l packets from zero [] [] h d = tt
all_at_work k t l packets from zero [] (v ∷ vs) h d = absurd d
all_at_work k t l packets from zero (w ∷ ws) vs h d = absurd h
all_at_work k t l packets from (suc n) [] vs h d = absurd h
all_at_work k t l packets from (suc n) (w ∷ ws) [] h d = absurd d
all_at_work k t l packets from (suc n) (w ∷ ws) (v ∷ vs) h d =
    (worked_hired k t from w v h.0 _ d.0, all_at_work k t l packets (from + 1) n ws vs h.1 d.1)

-- ---- the boards together again

pub mapped_twice : {X Y Z : Type 0} (f : Y → Z) (g : X → Y) (xs : List X) → map (λ x. f (g x)) xs ≡ map f (map g xs)
mapped_twice f g [] = refl
mapped_twice f g (x ∷ xs) = ap (λ ys. f (g x) ∷ ys) (mapped_twice f g xs)

mapped_length : {X Y : Type 0} (f : X → Y) (xs : List X) → length (map f xs) ≡ length xs
mapped_length f [] = refl
mapped_length f (x ∷ xs) = ap suc (mapped_length f xs)

own_table : (k : Config) (t : TableId) (n : ℕ) (w : Worker) → IsAtWork k t n w → w.board.seat.table_id ≡ t
own_table k t n w h = let e = ap (λ (b : Beside). b.table) h.belongs in cc

pub tables_of : (k : Config) (t : TableId) (from n : ℕ) (ws : List Worker) → AreAtWork k t from n ws
    → map (λ h. h.table) (held_by ws) ≡ replicate (length ws) t
tables_of k t from zero [] h = refl
tables_of k t from zero (w ∷ ws) h = absurd h
tables_of k t from (suc n) [] h = absurd h
tables_of k t from (suc n) (w ∷ ws) h =
    ap (λ (u : TableId). u ∷ map (λ (b : HeldBoard). b.table) (held_by ws)) (own_table k t from w h.0)
    ∙ ap (λ (us : List TableId). t ∷ us) (tables_of k t (from + 1) n ws h.1)

pub numbers_of : (know : BoardsKnowPipes) (k : Config) (t : TableId) (from n : ℕ) (ws : List Worker) → AreAtWork k t from n ws
    → map (λ h. number_of h.seat.actors) (held_by ws) ≡ range_with_len (from + 1) n
numbers_of know k t from zero [] h = refl
numbers_of know k t from zero (w ∷ ws) h = absurd h
numbers_of know k t from (suc n) [] h = absurd h
numbers_of know k t from (suc n) (w ∷ ws) h =
    let own : number_of w.board.seat.me.0.actors ≡ from + 1 =
    know w.board.words.now.key w.board.seat.me.0 w.board.heard k w.pipe.view h.0.fits (ap (λ (b : Beside). b.joined) h.0.belongs)
    ∙ ap (λ m. m + 1) h.0.number in
    ap (λ (m : ℕ). m ∷ map (λ (b : HeldBoard). number_of b.seat.actors) (held_by ws)) own
    ∙ ap (λ (ms : List ℕ). (from + 1) ∷ ms) (numbers_of know k t (from + 1) n ws h.1)

pub fit_idle : (k : Config) (t : TableId) (from n : ℕ) (ws : List Worker) → AreAtWork k t from n ws → FitIdle (held_by ws) (views_in ws)
fit_idle k t from zero [] h = tt
fit_idle k t from zero (w ∷ ws) h = absurd h
fit_idle k t from (suc n) [] h = absurd h
fit_idle k t from (suc n) (w ∷ ws) h = ((k, h.0.fits), h.0.idle, fit_idle k t (from + 1) n ws h.1)

pub views_numbered : (k : Config) (t : TableId) (from n : ℕ) (ws : List Worker) → AreAtWork k t from n ws
    → map (λ v. v.number) (views_in ws) ≡ range_with_len from n
views_numbered k t from zero [] h = refl
views_numbered k t from zero (w ∷ ws) h = absurd h
views_numbered k t from (suc n) [] h = absurd h
views_numbered k t from (suc n) (w ∷ ws) h =
    ap (λ (m : ℕ). m ∷ map (λ (v : PipeView). v.number) (views_in ws)) h.0.number
    ∙ ap (λ (ms : List ℕ). from ∷ ms) (views_numbered k t (from + 1) n ws h.1)

-- ---- one board after the other gets its pipe

pub hired_more : (k : Config) (t : TableId) (from n : ℕ) (ws : List Worker) (w : Worker) → Hired k t from n ws → IsHired k t (from + n) w
    → Hired k t from (suc n) (ws ++ w ∷ [])
hired_more k t from zero [] w h one = let e : from + 0 ≡ from = omega arith in (subst (λ m. IsHired k t m w) e one, tt)
hired_more k t from zero (v ∷ ws) w h one = absurd h
hired_more k t from (suc n) [] w h one = absurd h
hired_more k t from (suc n) (v ∷ ws) w h one =
    let e : from + suc n ≡ from + 1 + n = omega arith in
    (h.0, hired_more k t (from + 1) n ws w h.1 (subst (λ m. IsHired k t m w) e one))

new_length : (k : Config) (t : TableId) (a n : ℕ) → length (new_boards k t a n) ≡ n
new_length k t a zero = refl
new_length k t a (suc n) = ap suc (new_length k t (a + 1) n)

pub boards_left : (k : Config) (t : TableId) (a n : ℕ) (boards : List WordBoard) → map held boards ≡ new_boards k t a n → length boards ≡ n
boards_left k t a n boards e = sym (mapped_length held boards) ∙ ap length e ∙ new_length k t a n

first_out : {X : Type 0} (items now : List X) (next : X) → 0 < length items → next ≡ slice_index_or items 0 next
    → now ≡ take 0 items ++ drop 1 items → items ≡ next ∷ now
first_out [] now next b e f = absurd (omega arith)
first_out (x ∷ items) now next b e f = ap (λ y. y ∷ items) (sym e) ∙ ap (λ ys. next ∷ ys) (sym f)

-- one board more has its pipe
pub hire_more : (k : Config) (t : TableId) (l : LayoutView) (n pipes : ℕ) (boards now : List WordBoard) (b : WordBoard) (ws : List Worker) (w : Worker)
    → n < pipes → Hired k t 0 n ws → map held boards ≡ new_boards k t n (pipes - n)
    → b ≡ slice_index_or boards 0 b → now ≡ take 0 boards ++ drop 1 boards
    → l ≡ k.layout → w.board ≡ b → w.pipe.layout ≡ l → w.pipe.view ≡ fresh_pipe n
    → Hired k t 0 (n + 1) (ws ++ w ∷ []) × (map held now ≡ new_boards k t (n + 1) (pipes - (n + 1)))
hire_more k t l n pipes boards now b ws w less hired left is rest same board layout view =
    let step : pipes - n ≡ suc (pipes - (n + 1)) = omega arith in
    let some : 0 < length boards = let m = boards_left k t n (pipes - n) boards left in omega arith in
    let all : boards ≡ b ∷ now = first_out boards now b some is rest in
    let both : held b ∷ map held now ≡ board_of k t (OfPipe (fresh_pipe n)) ∷ new_boards k t (n + 1) (pipes - (n + 1)) =
    ap (map held) (sym all) ∙ left ∙ ap (new_boards k t n) step in
    let own : held b ≡ board_of k t (OfPipe (fresh_pipe n)) = cc in
    let more : suc n ≡ n + 1 = omega arith in
    let place : n ≡ 0 + n = omega arith in
    let one : IsHired k t n w = record { layout = layout ∙ same; view = view; board = ap held board ∙ own } in
    (subst (λ m. Hired k t 0 m (ws ++ w ∷ [])) more (hired_more k t 0 n ws w hired (subst (λ m. IsHired k t m w) place one)), cc)

pub some_board : (k : Config) (t : TableId) (n pipes : ℕ) (boards : List WordBoard) → n < pipes → map held boards ≡ new_boards k t n (pipes - n)
    → 0 < length boards
some_board k t n pipes boards less left = let m = boards_left k t n (pipes - n) boards left in omega arith

-- ---- and parts with it

pub dismiss_more : (boards now_boards : List WordBoard) (ws now : List Worker) (w : Worker) → 0 < length ws → w ≡ slice_index_or ws 0 w
    → now ≡ take 0 ws ++ drop 1 ws → now_boards ≡ boards ++ w.board ∷ []
    → map held now_boards ++ held_by now ≡ map held boards ++ held_by ws
dismiss_more boards now_boards ws now w some is rest more =
    let all : ws ≡ w ∷ now = first_out ws now w some is rest in
    ap (λ (bs : List WordBoard). map held bs ++ held_by now) more
    ∙ ap (λ hs. hs ++ held_by now) (map-append held boards (w.board ∷ []))
    ∙ append_assoc (map held boards) (held w.board ∷ []) (held_by now)
    ∙ ap (λ (us : List Worker). map held boards ++ held_by us) (sym all)

-- ---- the boards of pipes between rounds are those of a switch

module _ (k : Config) (t : TableId) (n : ℕ) (ws : List Worker) (boards : List WordBoard) (b : WordBoard) (work : AreAtWork k t 0 n ws)
    (e : map held boards ≡ held_by ws) (own : beside_of b.layout b.seat.table_id b.seat.me.0 ≡ alone_on k t) where
  pub one_table_of : map (λ x. x.seat.table_id) boards ≡ replicate (length boards) b.seat.table_id
  one_table_of =
      let count : length ws ≡ length boards =
      sym (mapped_length (λ (w : Worker). held w.board) ws) ∙ sym (ap length e) ∙ mapped_length held boards in
      let table : t ≡ b.seat.table_id = let h = ap (λ (x : Beside). x.table) own in cc in
      mapped_twice (λ (h : HeldBoard). h.table) held boards ∙ ap (map (λ (h : HeldBoard). h.table)) e ∙ tables_of k t 0 n ws work
      ∙ ap (λ (m : ℕ). replicate m t) count ∙ ap (replicate (length boards)) table

  pub one_each_of : BoardsKnowPipes → n ≡ k.layout.shape.pipes
      → map (λ x. number_of x.seat.me.0.actors) boards ≡ range_with_len 1 b.layout.shape.pipes
  one_each_of know many =
      let count : n ≡ b.layout.shape.pipes = many ∙ sym (ap (λ (x : Beside). x.layout.shape.pipes) own) in
      mapped_twice (λ (h : HeldBoard). number_of h.seat.actors) held boards ∙ ap (map (λ (h : HeldBoard). number_of h.seat.actors)) e
      ∙ numbers_of know k t 0 n ws work ∙ ap (range_with_len 1) count
