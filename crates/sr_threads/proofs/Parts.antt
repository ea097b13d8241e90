-- All pipes beside one another: what is said of each by its place is said of all in turn.
use Rattle.std.proofs.Common.{◌≡◌, ◌∙◌, ℕ, zero, suc, ◌+◌, ◌<◌, List, [], ◌∷◌, ◌++◌, length, slice_index_or, refl, sym, ap, subst, arith}
use Rattle.sr_base.specs.Layout.{LayoutView}
use Rattle.sr_rounds.specs.declared.timed.Timed.{Timed}
use Rattle.sr_threads.proofs.Laps.{ready_then, share_both, worked_still, worked_then}
use Rattle.sr_threads.specs.Working.{AllReady, AllWorked, IsReady, Worked, share_in}
use Rattle.sr_threads.specs.declared.worker.Worker.{Worker}

pub ready_at : (l : LayoutView) (ws : List Worker) (i : ℕ) (w : Worker) → AllReady l ws → i < length ws → w ≡ slice_index_or ws i w → IsReady l w
ready_at l [] i w all b e = absurd (omega arith)
ready_at l (x ∷ ws) zero w all b e = subst (IsReady l) (sym e) all.0
ready_at l (x ∷ ws) (suc i) w all b e = ready_at l ws i w all.1 (omega arith) e

pub worked_each : (l : LayoutView) (packets : List Timed) (ws vs : List Worker) → length vs ≡ length ws
    → ((i : ℕ) (d : Worker) → i < length ws
    → Worked (slice_index_or ws i d) (share_in l (slice_index_or ws i d).pipe.view.number packets) (slice_index_or vs i d))
    → AllWorked l packets ws vs
worked_each l packets [] [] n each = tt
worked_each l packets [] (v ∷ vs) n each = absurd (omega arith)
worked_each l packets (w ∷ ws) [] n each = absurd (omega arith)
worked_each l packets (w ∷ ws) (v ∷ vs) n each = (
  each 0 w (omega arith),
  worked_each l packets ws vs (omega arith) (λ i d b. each (suc i) d (omega arith)),
)

pub all_ready_then : (l : LayoutView) (packets : List Timed) (ws vs : List Worker) → AllReady l ws → AllWorked l packets ws vs → AllReady l vs
all_ready_then l packets [] [] r h = tt
all_ready_then l packets [] (v ∷ vs) r h = absurd h
all_ready_then l packets (w ∷ ws) [] r h = absurd h
all_ready_then l packets (w ∷ ws) (v ∷ vs) r h =
    (ready_then l w v (share_in l w.pipe.view.number packets) r.0 h.0, all_ready_then l packets ws vs r.1 h.1)

pub all_worked_then : (l : LayoutView) (xs ys : List Timed) (ws vs us : List Worker) → AllWorked l xs ws vs → AllWorked l ys vs us
    → AllWorked l (xs ++ ys) ws us
all_worked_then l xs ys [] [] [] a b = tt
all_worked_then l xs ys [] [] (u ∷ us) a b = absurd b
all_worked_then l xs ys [] (v ∷ vs) us a b = absurd a
all_worked_then l xs ys (w ∷ ws) [] us a b = absurd a
all_worked_then l xs ys (w ∷ ws) (v ∷ vs) [] a b = absurd b
all_worked_then l xs ys (w ∷ ws) (v ∷ vs) (u ∷ us) a b = (
  subst (λ ps. Worked w ps u)
      (ap (λ n. share_in l w.pipe.view.number xs ++ share_in l n ys) a.0.number ∙ sym (share_both l w.pipe.view.number xs ys))
      (worked_then w v u (share_in l w.pipe.view.number xs) (share_in l v.pipe.view.number ys) a.0 b.0),
  all_worked_then l xs ys ws vs us a.1 b.1,
)

-- no packet was handled
pub none_worked : (l : LayoutView) (ws : List Worker) → AllReady l ws → AllWorked l [] ws ws
none_worked l [] r = tt
none_worked l (w ∷ ws) r = (worked_still l w w r.0 [] refl refl refl (λ s. (s, refl)), none_worked l ws r.1)
