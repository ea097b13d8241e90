-- The boards of idle pipes, joined to the controller's, rest.
use Rattle.std.proofs.Common.{◌≡◌, ◌∙◌, ℕ, zero, suc, ◌+◌, ◌<◌, ◌==◌, ◌&&◌, Bool, true, List, [], ◌∷◌, ◌++◌, length, map, replicate, slice_index_or, take, drop, Option, None, Some, option_map, refl, sym, ap, arith}
use Rattle.std.proofs.lemmas.Bool.Decides.{nat_tests}
use Rattle.std.proofs.lemmas.List.{append_assoc, append-nil}
use Rattle.std.specs.List.{list_all, range_with_len}
use Rattle.atomic_table.specs.Seated.{TableId}
use Rattle.sr_base.specs.Layout.{LayoutView}
use Rattle.sr_machine.specs.Config.{Config}
use Rattle.sr_machine.specs.Pipe.{entered, is_idle}
use Rattle.sr_machine.specs.declared.controller_view.ControllerView.{ControllerView}
use Rattle.sr_machine.specs.declared.pipe_view.PipeView.{PipeView}
use Rattle.sr_machine.specs.declared.view.View.{View}
use Rattle.sr_machine.specs.declared.view.View.TheVariants.{OfPipe, OfController}
use Rattle.sr_words.proofs.Hears.{enters_busy, enters_number, refusal_then, time_controller}
use Rattle.sr_words.proofs.Launching.{mapped_twice}
use Rattle.sr_words.specs.Boarding.{AreAtRest, FitIdle, HeldBoard, held, is_controlled, number_of, views_of}
use Rattle.sr_words.specs.Besides.{all_but_first}
use Rattle.sr_words.specs.Hearing.{told}
use Rattle.sr_words.specs.Laws.{BoardsKnowController, BoardsKnowPipes}
use Rattle.sr_words.specs.Steps.{FitsSeat}
use Rattle.sr_words.specs.declared.seated.Seated.{Seated}
use Rattle.sr_words.specs.declared.heard.Heard.{Heard}
use Rattle.sr_words.specs.declared.heard.Heard.TheVariants.{Nothing, Entered, Time, Refusal}
use Rattle.sr_words.specs.declared.word_board.WordBoard.{WordBoard}

-- an idle pipe was told nothing
told_idle : (k : Config) (h : Heard) (u v : PipeView) → told h k (OfPipe u) ≡ Some (OfPipe v) → is_idle v.stage ≡ true → u ≡ v
told_idle k Nothing u v e i = cc
told_idle k (Entered packet) u v e i = let busy = enters_busy k packet (OfPipe u) v e in cc
told_idle k (Time ms) u v e i = cc
told_idle k (Refusal before after) u v e i = let c = refusal_then k before after (OfPipe u) (OfPipe v) e in let f = c.1 in cc

-- a seat of one pipe
one_pipe : (xs : List View) (a : ℕ) → number_of xs ≡ a + 1 → (v : PipeView) × (xs ≡ OfPipe v ∷ []) × (v.number ≡ a)
one_pipe [] a e = absurd (omega arith)
one_pipe (OfPipe v ∷ []) a e = (v, refl, omega arith)
one_pipe (OfPipe v ∷ y ∷ rest) a e = absurd (omega arith)
one_pipe (OfController c ∷ rest) a e = absurd (omega arith)

abbrev AreIdle : List HeldBoard → List PipeView → ℕ → ℕ → Type 0
AreIdle boards views a n =
    (views_of boards ≡ map OfPipe views) × (map (λ v. v.number) views ≡ range_with_len a n)
    × (list_all (λ v. is_idle v.stage) views ≡ true)

idle_views : (boards : List HeldBoard) (views : List PipeView) (a n : ℕ) → FitIdle boards views
    → map (λ b. number_of b.seat.actors) boards ≡ range_with_len (a + 1) n → AreIdle boards views a n
idle_views [] [] a zero f e = (refl, refl, refl)
idle_views [] [] a (suc n) f e = cc
idle_views [] (v ∷ views) a n f e = absurd f
idle_views (b ∷ boards) [] a n f e = absurd f
idle_views (b ∷ boards) (v ∷ views) a zero f e = cc
idle_views (b ∷ boards) (v ∷ views) a (suc n) f e =
    let number : number_of b.seat.actors ≡ a + 1 = cc in
    let others : map (λ b. number_of b.seat.actors) boards ≡ range_with_len ((a + 1) + 1) n = cc in
    let r = idle_views boards views (a + 1) n f.2 others in
    let p = one_pipe b.seat.actors a number in
    let g = f.0.1 in
    let first : g.1 ≡ OfPipe p.0 = let s : g.1 ∷ g.2 ≡ OfPipe p.0 ∷ [] = sym g.3 ∙ p.1 in cc in
    let same : p.0 ≡ v = told_idle f.0.0 b.heard p.0 v (ap (told b.heard f.0.0) (sym first) ∙ g.4) f.1 in
    let here : v.number ≡ a = ap (λ (u : PipeView). u.number) (sym same) ∙ p.2 in (
      ap (λ xs. xs ++ views_of boards) p.1 ∙ ap (λ u. OfPipe u ∷ views_of boards) same ∙ ap (λ xs. OfPipe v ∷ xs) r.0,
      ap (λ m. m ∷ map (λ v. v.number) views) here ∙ ap (λ ns. a ∷ ns) r.1,
      ap (λ t. t && list_all (λ v. is_idle v.stage) views) f.1 ∙ r.2,
    )

controlled : (xs : List View) → is_controlled xs ≡ true → (c : ControllerView) × (xs ≡ OfController c ∷ [])
controlled [] e = cc
controlled (OfController c ∷ []) e = (c, refl)
controlled (OfController c ∷ y ∷ rest) e = cc
controlled (OfPipe v ∷ rest) e = cc

module _ (l : LayoutView) (controller all : List View) (boards : List WordBoard) (alone : is_controlled controller ≡ true)
    (numbers : map (λ b. number_of b.seat.me.0.actors) boards ≡ range_with_len 1 l.shape.pipes)
    (e : all ≡ controller ++ views_of (map held boards)) where
  views_are : (views : List PipeView) → FitIdle (map held boards) views → AreIdle (map held boards) views 0 l.shape.pipes
  views_are views fit =
      idle_views (map held boards) views 0 l.shape.pipes fit (sym (mapped_twice (λ h. number_of h.seat.actors) held boards) ∙ numbers)

  all_are : (views : List PipeView) → FitIdle (map held boards) views
      → all ≡ OfController (controlled controller alone).0 ∷ map OfPipe views
  all_are views fit =
      let c = controlled controller alone in
      e ∙ ap (λ xs. xs ++ views_of (map held boards)) c.1 ∙ ap (λ xs. OfController c.0 ∷ xs) (views_are views fit).0

  -- the views beside the controller's are the pipes'
  pub pipes_of : (views : List PipeView) → FitIdle (map held boards) views → all_but_first all ≡ map OfPipe views
  pipes_of views fit = ap all_but_first (all_are views fit)

  pub rest_of : (now : LayoutView) → now ≡ l → ((views : List PipeView) × FitIdle (map held boards) views) → AreAtRest now all
  rest_of now same idle =
      let r = views_are idle.0 idle.1 in
      record {
        controller = (controlled controller alone).0;
        pipes = idle.0;
        are = all_are idle.0 idle.1;
        numbers = r.1 ∙ ap (λ (m : LayoutView). range_with_len 0 m.shape.pipes) (sym same);
        idle = r.2;
      }

-- the controller's board fits what it did
pub fits_joined : (made_for made_then : Config) (old new : Seated) (h heard : Heard) (more : List View) → made_then ≡ made_for → heard ≡ h
    → new.actors ≡ old.actors ++ more → (k : Config) (y : View) → FitsSeat made_for old h k y → FitsSeat made_then new heard k y
fits_joined made_for made_then old new h heard more same t e k y f =
    (f.0 ∙ sym same, f.1, f.2 ++ more, e ∙ ap (λ xs. xs ++ more) f.3, ap (λ (j : Heard). told j k f.1) t ∙ f.4)

-- a board of a pipe alone, which fits a view of it, is that pipe's
told_number : (k : Config) (h : Heard) (x : View) (v : PipeView) → told h k x ≡ Some (OfPipe v) → (u : PipeView) × (x ≡ OfPipe u) × (u.number ≡ v.number)
told_number k Nothing (OfPipe u) v e = (u, refl, cc)
told_number k Nothing (OfController c) v e = cc
told_number k (Entered packet) (OfPipe u) v e = (u, refl, sym (enters_number k packet u v e))
told_number k (Entered packet) (OfController c) v e = cc
told_number k (Time ms) (OfPipe u) v e = cc
told_number k (Time ms) (OfController c) v e = let d = time_controller k ms (OfController c) (OfPipe v) e in let f = d.1 in cc
told_number k (Refusal before after) x v e = let d = refusal_then k before after x (OfPipe v) e in let f = d.1 in cc

pub boards_know : BoardsKnowPipes
boards_know made_for seat h k v f alone =
    let n = told_number k h f.1 v f.4 in
    let none : f.2 ≡ [] = ap all_but_first (sym f.3) ∙ alone in
    ap number_of (f.3 ∙ ap (λ x. x ∷ f.2) n.1 ∙ ap (λ xs. OfPipe n.0 ∷ xs) none) ∙ ap (λ m. m + 1) n.2

-- and one that fits a view of the controller is the controller's
no_pipe_told : (o : Option PipeView) (c : ControllerView) → option_map OfPipe o ≡ Some (OfController c) → ⊥
no_pipe_told None c e = cc
no_pipe_told (Some v) c e = cc

told_controller : (k : Config) (h : Heard) (x : View) (c : ControllerView) → told h k x ≡ Some (OfController c) → (d : ControllerView) × (x ≡ OfController d)
told_controller k h (OfController d) c e = (d, refl)
told_controller k Nothing (OfPipe u) c e = cc
told_controller k (Entered packet) (OfPipe u) c e = absurd (no_pipe_told (entered k.layout packet u) c e)
told_controller k (Time ms) (OfPipe u) c e = cc
told_controller k (Refusal None after) (OfPipe u) c e = cc
told_controller k (Refusal (Some ms) after) (OfPipe u) c e = cc

pub boards_know_controller : BoardsKnowController
boards_know_controller made_for seat h k c f alone =
    let n = told_controller k h f.1 c f.4 in
    let none : f.2 ≡ [] = ap all_but_first (sym f.3) ∙ alone in
    ap is_controlled (f.3 ∙ ap (λ x. x ∷ f.2) n.1 ∙ ap (λ xs. OfController n.0 ∷ xs) none)

-- ---- one board after the other

-- the first board is taken out
pub first_out : {X : Type 0} (items now : List X) (next : X) → 0 < length items → next ≡ slice_index_or items 0 next
    → now ≡ take 0 items ++ drop 1 items → items ≡ next ∷ now
first_out [] now next b e f = absurd (omega arith)
first_out (x ∷ items) now next b e f = ap (λ y. y ∷ items) (sym e) ∙ ap (λ ys. next ∷ ys) (sym f)

pub joined_more : (own own2 : List View) (items now : List WordBoard) (next : WordBoard) → items ≡ next ∷ now → own2 ≡ own ++ next.seat.me.0.actors
    → own2 ++ views_of (map held now) ≡ own ++ views_of (map held items)
joined_more own own2 items now next e f =
    ap (λ xs. xs ++ views_of (map held now)) f
    ∙ append_assoc own next.seat.me.0.actors (views_of (map held now))
    ∙ ap (λ (bs : List WordBoard). own ++ views_of (map held bs)) (sym e)

pub tables_more : (items now : List WordBoard) (next : WordBoard) (t : TableId) → items ≡ next ∷ now
    → map (λ b. b.seat.table_id) items ≡ replicate (length items) t
    → (next.seat.table_id ≡ t) × (map (λ b. b.seat.table_id) now ≡ replicate (length now) t)
tables_more items now next t e h =
    let g : next.seat.table_id ∷ map (λ b. b.seat.table_id) now ≡ t ∷ replicate (length now) t =
    ap (map (λ b. b.seat.table_id)) (sym e) ∙ h ∙ ap (λ (bs : List WordBoard). replicate (length bs) t) e in
    (cc, cc)

-- no board is left
pub emptied : (n : ℕ) (b : Bool) → b ≡ (n == 0) → b ≡ true → n ≡ 0
emptied n b e t = grind (arith, nat_tests)

pub all_joined : (own whole : List View) (items : List WordBoard) → length items ≡ 0 → own ++ views_of (map held items) ≡ whole → own ≡ whole
all_joined own whole [] n e = sym (append-nil own) ∙ e
all_joined own whole (b ∷ items) n e = absurd (omega arith)
