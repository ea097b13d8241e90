-- A whole run on threads.
use Rattle.std.proofs.Common.{◌≡◌, ◌∙◌, ℕ, zero, suc, ◌≤◌, ◌++◌, false, List, [], ◌∷◌, length, take, drop, Option, None, refl, sym, ap, subst, arith}
use Rattle.std.proofs.Math.Seq.{take-length}
use Rattle.std.proofs.lemmas.List.{append-nil}
use Rattle.std.specs.List.{list_any}
use Rattle.atomic_table.specs.Seated.{TableId}
use Rattle.sr_base.specs.Key.{KeyView}
use Rattle.sr_base.specs.Layout.{LayoutView}
use Rattle.sr_ctl.specs.Needs.{is_look}
use Rattle.sr_ctl.specs.SeenController.{SeenController}
use Rattle.sr_inv_ends.specs.Laws.{clock_after}
use Rattle.sr_inv_final.specs.Reached.{IsReached}
use Rattle.sr_inv_rest.specs.Laws.{NoLook}
use Rattle.sr_law.specs.declared.line.Line.{Line}
use Rattle.sr_machine.specs.Boards.{Beside}
use Rattle.sr_machine.specs.Config.{Config}
use Rattle.sr_machine.specs.Opening.{opening_controller}
use Rattle.sr_machine.specs.declared.controller_view.ControllerView.{ControllerView}
use Rattle.sr_machine.specs.declared.job.Job.{Job}
use Rattle.sr_machine.specs.declared.job.Job.TheVariants as job
use Rattle.sr_machine.specs.declared.view.View.TheVariants.{OfController}
use Rattle.sr_rounds.specs.Rounds.{rounds_of}
use Rattle.sr_rounds.specs.declared.round.Round.{Round}
use Rattle.sr_rounds.specs.declared.timed.Timed.{Timed}
use Rattle.sr_script.specs.Fitting.{IsFitting}
use Rattle.sr_script.specs.Spelled.{Spelled}
use Rattle.sr_scripted.specs.Config.{config_of}
use Rattle.sr_scripted.specs.Played.{Replays}
use Rattle.sr_threads.proofs.Handled.{are_idle, have_handled}
use Rattle.sr_threads.proofs.Replays.{replays}
use Rattle.sr_threads.proofs.Together.{all_at_work, all_hired_ready, beside_held, fits_held}
use Rattle.sr_threads.specs.Governing.{Fits, Governs}
use Rattle.sr_threads.specs.Hiring.{Hired, views_in}
use Rattle.sr_threads.specs.Playing.{Played}
use Rattle.sr_threads.specs.Replayed.{AtWork, Ends, RunsOnThreads}
use Rattle.sr_threads.specs.Working.{AllReady, AllWorked}
use Rattle.sr_threads.specs.declared.worker.Worker.{Worker}
use Rattle.sr_words.specs.Boarding.{board_of, held}
use Rattle.sr_words.specs.declared.word_board.WordBoard.{WordBoard}

-- the controller's board at the beginning
pub governs_first : (k : Config) (t : TableId) (b : WordBoard) (c : SeenController) → held b ≡ board_of k t (OfController (opening_controller k))
    → c.config ≡ k → c.view ≡ opening_controller k → Governs b c
governs_first k t b c e config view = record {
  layout =
      ap (λ (x : Beside). x.layout) (beside_held b k t (OfController (opening_controller k)) e) ∙ ap (λ (x : Config). x.layout) (sym config);
  view =
      subst (λ (x : Config). Fits b x (OfController c.view)) (sym config)
      (subst (λ (x : ControllerView). Fits b k (OfController x)) (sym view) (fits_held b k t (OfController (opening_controller k)) e));
}

-- between rounds all are at work
pub at_work : (k : Config) (t : TableId) (l : LayoutView) (packets : List Timed) (rounds : List Round) (ws vs : List Worker) (a b : WordBoard)
    (c d : SeenController) → Hired k t 0 k.layout.shape.pipes ws → held a ≡ board_of k t (OfController (opening_controller k)) → c.config ≡ k
    → Played l packets rounds ws a c vs b d
    → (u : TableId) × AtWork d.config u vs b d
at_work k t l packets rounds ws vs a b c d hired e config played =
    let same : k ≡ d.config = sym (played.config ∙ config) in (
      t,
      subst (λ (x : Config). AtWork x t vs b d) same
          (record {
            pipes = all_at_work k t l packets 0 k.layout.shape.pipes ws vs hired played.worked;
            governs = played.governs;
            belongs = played.belongs ∙ beside_held a k t (OfController (opening_controller k)) e;
          }),
    )

no_look : (j : Job) → is_look j ≡ false → NoLook j
no_look job.Free e = tt
no_look (job.Draw d) e = tt
no_look (job.Store s) e = tt
no_look (job.Pass grace pipe w) e = tt
no_look (job.Drain pipe count w) e = tt
no_look (job.Look pipe) e = cc
no_look (job.Hit from ms key place taken) e = tt

first_clock : (k : Config) → (opening_controller k).clock ≡ None
unfolding opening_controller
first_clock k = refl

pub runs_so : (k : Config) (t : TableId) (l : LayoutView) (packets : List Timed) (rounds : List Round) (ws vs : List Worker) (a b : WordBoard)
    (c d : SeenController) (lines : List Line) (awaited : Option KeyView) → 1 ≤ k.layout.shape.pipes → l ≡ k.layout
    → rounds ≡ rounds_of l.shape.window_ms packets
    → Hired k t 0 k.layout.shape.pipes ws → c.config ≡ k → c.view ≡ opening_controller k
    → Played l packets rounds ws a c vs b d
    → is_look d.view.job ≡ false
    → Ends d.config (views_in vs) d.view lines awaited
    → list_any (λ w. w.short) vs ≡ false
    → RunsOnThreads k packets lines awaited
runs_so k t l packets rounds ws vs a b c d lines awaited some same are hired config view played look ends whole =
    let kept : d.config ≡ k = played.config ∙ config in
    let mine : Played k.layout packets rounds ws a c vs b d = subst (λ (x : LayoutView). Played x packets rounds ws a c vs b d) same played in
    let all = all_at_work k t l packets 0 k.layout.shape.pipes ws vs hired played.worked in
    record {
      last = ends.last;
      reached = subst (λ (x : Config). IsReached x ends.last) kept ends.reached;
      idle = are_idle k t k.layout.shape.pipes vs ends.last all ends.pipes;
      leisure = subst (λ (x : ControllerView). NoLook x.job) (sym ends.controller) (no_look d.view.job look);
      clock =
          ap (λ (x : ControllerView). x.clock) ends.controller ∙ played.clock
          ∙ ap (λ (x : ControllerView). clock_after x.clock rounds) view
          ∙ ap (λ (o : Option ℕ). clock_after o rounds) (first_clock k)
          ∙ ap (clock_after None) (are ∙ ap (λ (x : LayoutView). rounds_of x.shape.window_ms packets) same);
      handled = have_handled k t packets ws vs ends.last some hired mine.worked whole ends.pipes;
      state = ends.state;
      turns = ends.turns;
      all = ends.all;
    }

-- ---- in a caller's terms

worked_length : (l : LayoutView) (packets : List Timed) (ws vs : List Worker) → AllWorked l packets ws vs → length vs ≡ length ws
worked_length l packets [] [] h = refl
worked_length l packets [] (v ∷ vs) h = absurd h
worked_length l packets (w ∷ ws) [] h = absurd h
worked_length l packets (w ∷ ws) (v ∷ vs) h = ap suc (worked_length l packets ws vs h.1)

all_dropped : {X : Type 0} (n : ℕ) (xs : List X) → n ≡ length xs → drop n xs ≡ []
all_dropped zero [] e = refl
all_dropped zero (x ∷ xs) e = absurd (omega arith)
all_dropped (suc n) [] e = refl
all_dropped (suc n) (x ∷ xs) e = all_dropped n xs (omega arith)

-- a list of which each item was written anew
written : (n : ℕ) (ws vs : List Worker) → length vs ≡ length ws → n ≡ length ws → take n (vs ++ drop (length vs) ws) ≡ vs
written n ws vs many all =
    let same : n ≡ length vs = all ∙ sym many in
    ap (λ (us : List Worker). take n (vs ++ us)) (all_dropped (length vs) ws many) ∙ ap (take n) (append-nil vs)
    ∙ ap (λ m. take m vs) same ∙ take-length vs

pub ready_first : (key conf : Config) (t : TableId) (l : LayoutView) (ws slice : List Worker) → key ≡ conf → l ≡ conf.layout
    → Hired key t 0 l.shape.pipes ws → slice ≡ ws → AllReady l slice
ready_first key conf t l ws slice same layout hired value =
    let here : l ≡ key.layout = layout ∙ sym (ap (λ (x : Config). x.layout) same) in
    subst (AllReady l) (sym value)
    (subst (λ (x : LayoutView). AllReady x ws) (sym here) (all_hired_ready key t 0 l.shape.pipes ws hired))

module _ (key conf : Config) (t : TableId) (l : LayoutView) (packets : List Timed) (rounds : List Round) (ws slice vs : List Worker) (a b : WordBoard)
    (c d : SeenController) (same : key ≡ conf) (layout : l ≡ conf.layout) (hired : Hired key t 0 l.shape.pipes ws) (value : slice ≡ ws)
    (first : held a ≡ board_of key t (OfController (opening_controller key))) (config : c.config ≡ conf)
    (played : Played l packets rounds slice a c vs b d) (n : ℕ) (all : n ≡ length ws) where
  hired_on : Hired conf t 0 conf.layout.shape.pipes ws
  hired_on =
      subst (λ (x : LayoutView). Hired conf t 0 x.shape.pipes ws) layout (subst (λ (x : Config). Hired x t 0 l.shape.pipes ws) same hired)

  first_on : held a ≡ board_of conf t (OfController (opening_controller conf))
  first_on = subst (λ (x : Config). held a ≡ board_of x t (OfController (opening_controller x))) same first

  played_on : Played l packets rounds ws a c vs b d
  played_on = subst (λ (us : List Worker). Played l packets rounds us a c vs b d) value played

  left : take n (vs ++ drop (length vs) ws) ≡ vs
  left = written n ws vs (worked_length l packets ws vs played_on.worked) all

  pub work_left : (u : TableId) × AtWork d.config u (take n (vs ++ drop (length vs) ws)) b d
  work_left =
      let w = at_work conf t l packets rounds ws vs a b c d hired_on first_on config played_on in
      (w.0, subst (λ (us : List Worker). AtWork d.config w.0 us b d) (sym left) w.1)

  pub runs_left : (lines : List Line) (awaited : Option KeyView) → 1 ≤ conf.layout.shape.pipes → rounds ≡ rounds_of l.shape.window_ms packets
      → c.view ≡ opening_controller conf → is_look d.view.job ≡ false
      → Ends d.config (views_in (take n (vs ++ drop (length vs) ws))) d.view lines awaited
      → list_any (λ w. w.short) (take n (vs ++ drop (length vs) ws)) ≡ false
      → RunsOnThreads conf packets lines awaited
  runs_left lines awaited some are view look ends whole =
      runs_so conf t l packets rounds ws vs a b c d lines awaited some layout are hired_on config view played_on look
      (subst (λ (us : List Worker). Ends d.config (views_in us) d.view lines awaited) left ends)
      (subst (λ (us : List Worker). list_any (λ w. w.short) us ≡ false) left whole)

pub replays_for : (s : Spelled) (k : Config) (packets : List Timed) (lines : List Line) (awaited : Option KeyView) → IsFitting s
    → k ≡ config_of s → RunsOnThreads k packets lines awaited → Replays s packets lines awaited
replays_for s k packets lines awaited f e h =
    replays s packets lines awaited f (subst (λ (x : Config). RunsOnThreads x packets lines awaited) e h)
