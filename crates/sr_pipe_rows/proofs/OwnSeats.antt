-- The first board of a switch is that of a pipe that has done nothing yet.
use Rattle.std.proofs.Common.{◌≡◌, ◌∙◌, ℕ, zero, suc, ◌+◌, ◌<◌, List, [], ◌∷◌, length, map, slice_index_or, refl, sym, ap, subst, arith}
use Rattle.std.specs.List.{range_with_len}
use Rattle.atomic_table.specs.Seated.{TableId}
use Rattle.sr_core.specs.HeldPipe.{HeldPipe}
use Rattle.sr_machine.specs.Config.{Config}
use Rattle.sr_machine.specs.Pipe.{fresh_pipe}
use Rattle.sr_machine.specs.declared.view.View.TheVariants.{OfPipe}
use Rattle.sr_pipe.specs.Known.{IsFor}
use Rattle.sr_words.specs.Besides.{beside_of}
use Rattle.sr_words.specs.Boarding.{FitIdle, HeldBoard, board_of, held, new_boards}
use Rattle.sr_words.specs.Hearing.{told}
use Rattle.sr_words.specs.Steps.{FitsSeat}
use Rattle.sr_words.specs.declared.word_board.WordBoard.{WordBoard}

pub first_board : (k : Config) (t : TableId) (n : ℕ) (boards : List WordBoard) (b : WordBoard) → map held boards ≡ new_boards k t 0 n
    → 0 < length boards → b ≡ slice_index_or boards 0 b → held b ≡ board_of k t (OfPipe (fresh_pipe 0))
first_board k t n [] b e m f = absurd (omega arith)
first_board k t zero (x ∷ boards) b e m f = cc
first_board k t (suc n) (x ∷ boards) b e m f = let h : held x ≡ board_of k t (OfPipe (fresh_pipe 0)) = cc in ap held f ∙ h

pub is_for_seat : (b : WordBoard) (k : Config) (t : TableId) (pipe : HeldPipe) → held b ≡ board_of k t (OfPipe pipe.view)
    → k.layout ≡ pipe.layout
    → IsFor (FitsSeat b.words.now.key b.seat.me.0 b.heard) (beside_of b.layout b.seat.table_id b.seat.me.0) pipe
is_for_seat b k t pipe h l = record {
  layout = b.placed ∙ ap (λ (x : HeldBoard). x.config.layout) h ∙ l;
  view = (
    k,
    l,
    (
      sym (ap (λ (x : HeldBoard). x.config) h),
      OfPipe pipe.view,
      [],
      ap (λ (x : HeldBoard). x.seat.actors) h,
      ap (λ (x : HeldBoard). told x.heard k (OfPipe pipe.view)) h,
    ),
  );
}

-- boards of which nothing was told or done fit idle pipes
pub new_idle : (k : Config) (t : TableId) (a n : ℕ) → FitIdle (new_boards k t a n) (map fresh_pipe (range_with_len a n))
new_idle k t a zero = tt
new_idle k t a (suc n) = ((k, (refl, OfPipe (fresh_pipe a), [], refl, refl)), refl, new_idle k t (a + 1) n)
