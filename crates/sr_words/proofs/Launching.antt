-- The boards of a switch at the beginning, one after the other.
use Rattle.std.proofs.Common.{◌≡◌, ◌∙◌, ℕ, zero, suc, ◌+◌, ◌-◌, ◌<◌, List, [], ◌∷◌, ◌++◌, length, map, replicate, refl, sym, ap, zero-add, arith}
use Rattle.std.specs.List.{range_with_len}
use Rattle.atomic_table.specs.Seated.{TableId}
use Rattle.sr_machine.specs.Config.{Config}
use Rattle.sr_machine.specs.Opening.{opening_controller, opening_pipes}
use Rattle.sr_machine.specs.Pipe.{fresh_pipe}
use Rattle.sr_machine.specs.declared.view.View.{View}
use Rattle.sr_machine.specs.declared.view.View.TheVariants.{OfPipe, OfController}
use Rattle.sr_words.specs.Boarding.{HeldBoard, board_of, held, new_boards, number_of}
use Rattle.sr_words.specs.Seats.{first_seated, only_second, seated, without_second}
use Rattle.sr_words.specs.declared.heard.Heard.TheVariants.{Nothing}
use Rattle.sr_words.specs.declared.seated.Seated.{Seated}
use Rattle.sr_words.specs.declared.word_board.WordBoard.{WordBoard}

-- the views that the first seat has when so many pipes have boards
abbrev pub views_left : Config → ℕ → ℕ → List View
views_left k n left = OfController (opening_controller k) ∷ map OfPipe (map fresh_pipe (range_with_len n left))

module _ (k : Config) where
  pub all_left : (n : ℕ) → n ≡ k.layout.shape.pipes → first_seated k ≡ seated (views_left k 0 (n - 0))
  unfolding opening_pipes
  all_left n e =
      let same : k.layout.shape.pipes ≡ n - 0 = omega arith in
      ap (λ (m : ℕ). seated (views_left k 0 m)) same

  next_left : (n count left : ℕ) → n < count → left ≡ count - n → left ≡ suc (count - (n + 1))
  next_left n count left b e = omega arith

  pub one_less : (n count : ℕ) (v : Seated) → n < count → v ≡ seated (views_left k n (count - n))
      → seated (without_second v.actors) ≡ seated (views_left k (n + 1) (count - (n + 1)))
  one_less n count v b e =
      let step : count - n ≡ suc (count - (n + 1)) = next_left n count (count - n) b refl in
      ap (λ (w : Seated). seated (without_second w.actors)) e ∙ ap (λ (m : ℕ). seated (without_second (views_left k n m))) step

  pub one_off : (n count : ℕ) (v : Seated) → n < count → v ≡ seated (views_left k n (count - n))
      → seated (only_second v.actors) ≡ seated (OfPipe (fresh_pipe n) ∷ [])
  one_off n count v b e =
      let step : count - n ≡ suc (count - (n + 1)) = next_left n count (count - n) b refl in
      ap (λ (w : Seated). seated (only_second w.actors)) e ∙ ap (λ (m : ℕ). seated (only_second (views_left k n m))) step

  pub none_left : (count : ℕ) (v : Seated) → v ≡ seated (views_left k count (count - count))
      → v ≡ seated (OfController (opening_controller k) ∷ [])
  none_left count v e =
      let none : count - count ≡ 0 = omega arith in e ∙ ap (λ (m : ℕ). seated (views_left k count m)) none

ranged_more : {Y : Type 0} (f : ℕ → Y) (a n : ℕ) → map f (range_with_len a (n + 1)) ≡ map f (range_with_len a n) ++ f (a + n) ∷ []
ranged_more f a n = let s : n + 1 ≡ suc n = omega arith in ap (λ m. map f (range_with_len a m)) s ∙ by a n
  where
    by : (a n : ℕ) → map f (range_with_len a (suc n)) ≡ map f (range_with_len a n) ++ f (a + n) ∷ []
    by a zero = ap (λ m. f m ∷ []) (omega arith)
    by a (suc n) = let s : (a + 1) + n ≡ a + suc n = omega arith in ap (λ xs. f a ∷ xs) (by (a + 1) n ∙ ap (λ m. map f (range_with_len (a + 1) n) ++ f m ∷ []) s)

mapped_more : {X Y : Type 0} (f : X → Y) (xs : List X) (x : X) → map f (xs ++ x ∷ []) ≡ map f xs ++ f x ∷ []
mapped_more f [] x = refl
mapped_more f (y ∷ xs) x = ap (λ ys. f y ∷ ys) (mapped_more f xs x)

pub mapped_twice : {X Y Z : Type 0} (f : Y → Z) (g : X → Y) (xs : List X) → map (λ x. f (g x)) xs ≡ map f (map g xs)
mapped_twice f g [] = refl
mapped_twice f g (x ∷ xs) = ap (λ ys. f (g x) ∷ ys) (mapped_twice f g xs)

module _ (k : Config) (table : TableId) where
  pub one_more : (n : ℕ) (boards : List WordBoard) (b : WordBoard) → map held boards ≡ new_boards k table 0 n
      → held b ≡ board_of k table (OfPipe (fresh_pipe n)) → map held (boards ++ b ∷ []) ≡ new_boards k table 0 (n + 1)
  one_more n boards b all one =
      let at : ℕ → HeldBoard = λ p. board_of k table (OfPipe (fresh_pipe p)) in
      mapped_more held boards b ∙ ap (λ hs. hs ++ held b ∷ []) all ∙ ap (λ h. new_boards k table 0 n ++ h ∷ []) one
      ∙ ap (λ m. new_boards k table 0 n ++ at m ∷ []) (sym (zero-add n)) ∙ sym (ranged_more at 0 n)

  new_tables : (a n : ℕ) → map (λ h. h.table) (new_boards k table a n) ≡ replicate n table
  new_tables a zero = refl
  new_tables a (suc n) = ap (λ ts. table ∷ ts) (new_tables (a + 1) n)

  new_numbers : (a n : ℕ) → map (λ h. number_of h.seat.actors) (new_boards k table a n) ≡ range_with_len (a + 1) n
  new_numbers a zero = refl
  new_numbers a (suc n) = ap (λ ns. (a + 1) ∷ ns) (new_numbers (a + 1) n)

  new_length : (a n : ℕ) → length (new_boards k table a n) ≡ n
  new_length a zero = refl
  new_length a (suc n) = ap suc (new_length (a + 1) n)

  mapped_length : {X Y : Type 0} (f : X → Y) (xs : List X) → length (map f xs) ≡ length xs
  mapped_length f [] = refl
  mapped_length f (x ∷ xs) = ap suc (mapped_length f xs)

  pub tables_are : (n : ℕ) (boards : List WordBoard) → map held boards ≡ new_boards k table 0 n
      → map (λ b. b.seat.table_id) boards ≡ replicate (length boards) table
  tables_are n boards all =
      let count : n ≡ length boards = sym (new_length 0 n) ∙ ap length (sym all) ∙ mapped_length held boards in
      mapped_twice (λ h. h.table) held boards ∙ ap (map (λ h. h.table)) all ∙ new_tables 0 n ∙ ap (λ m. replicate m table) count

  pub numbers_are : (n : ℕ) (boards : List WordBoard) → map held boards ≡ new_boards k table 0 n
      → map (λ b. number_of b.seat.me.0.actors) boards ≡ range_with_len 1 n
  numbers_are n boards all =
      mapped_twice (λ h. number_of h.seat.actors) held boards ∙ ap (map (λ h. number_of h.seat.actors)) all ∙ new_numbers 0 n

pub held_is : (b : WordBoard) (k : Config) (table : TableId) (x : View) → b.words.now.key ≡ k → b.seat.table_id ≡ table
    → b.seat.me.0 ≡ seated (x ∷ []) → b.heard ≡ Nothing → held b ≡ board_of k table x
held_is b k table x c t s h = λ i. record { config = c i; table = t i; seat = s i; heard = h i }
