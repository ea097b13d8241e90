-- The boards rest in a state that events lead to, and the turns after it are the machine's from there.
use Rattle.std.proofs.Common.{◌≡◌, ◌∙◌, ℕ, zero, suc, ◌+◌, ◌<◌, ◌++◌, List, [], ◌∷◌, length, map, slice_get, reverse, Option, Some, None, option_map, refl, sym, ap, subst, zero-add, arith}
use Rattle.std.proofs.lemmas.Option.{same_Some}
use Rattle.std.specs.List.{range_with_len}
use Rattle.sr_base.specs.Key.{KeyView}
use Rattle.sr_base.specs.Layout.{LayoutView}
use Rattle.sr_ctl.specs.Laws.{SettlesAsMachine, stepped_to}
use Rattle.sr_ctl.specs.Settles.{EndsSo, SettledOn}
use Rattle.sr_law.specs.declared.line.Line.{Line}
use Rattle.sr_machine.proofs.Kept.{reached_config}
use Rattle.sr_machine.specs.Config.{Config}
use Rattle.sr_machine.specs.Core.{Core, newest_first, pipe_lines}
use Rattle.sr_machine.specs.declared.controller_view.ControllerView.{ControllerView}
use Rattle.sr_machine.specs.declared.name.Name.{Name}
use Rattle.sr_machine.specs.declared.pipe_view.PipeView.{PipeView}
use Rattle.sr_machine.specs.declared.settled.Settled.{Settled}
use Rattle.sr_machine.specs.declared.settled.Settled.TheVariants as settled
use Rattle.sr_machine.specs.declared.view.View.{View}
use Rattle.sr_machine.specs.declared.view.View.TheVariants.{OfPipe, OfController}
use Rattle.sr_scripted.specs.Played.{settled_for}
use Rattle.sr_threads.specs.Replayed.{Ends}
use Rattle.sr_words.specs.Laws.{ShownStatesMeet}
use Rattle.sr_words.specs.Seats.{AllShown, ShowsKnown}
use Rattle.sr_words.specs.Steps.{IsKnown}

-- ---- the pipes of a state that shows them all

pipe_here : (o : Option PipeView) (v : PipeView) → option_map OfPipe o ≡ Some (OfPipe v) → o ≡ Some v
pipe_here None v e = cc
pipe_here (Some w) v e = cc

shown_at : (s : Core) (vs : List PipeView) (a n p : ℕ) → map (λ v. v.number) vs ≡ range_with_len a n → AllShown s (map OfPipe vs)
    → p < n → slice_get s.pipes (a + p) ≡ slice_get vs p
shown_at s [] a zero p e h b = absurd (omega arith)
shown_at s [] a (suc n) p e h b = cc
shown_at s (v ∷ vs) a zero p e h b = absurd (omega arith)
shown_at s (v ∷ vs) a (suc n) zero e h b =
    let number : v.number ≡ a = cc in
    let place : a + 0 ≡ v.number = omega arith in
    ap (slice_get s.pipes) place ∙ pipe_here (slice_get s.pipes v.number) v h.0
shown_at s (v ∷ vs) a (suc n) (suc p) e h b =
    let rest : map (λ v. v.number) vs ≡ range_with_len (a + 1) n = cc in
    let place : a + suc p ≡ (a + 1) + p = omega arith in
    ap (slice_get s.pipes) place ∙ shown_at s vs (a + 1) n p rest h.1 (omega arith)

same_list : (xs ys : List PipeView) → length xs ≡ length ys → ((p : ℕ) → p < length xs → slice_get xs p ≡ slice_get ys p) → xs ≡ ys
same_list [] [] n at = refl
same_list [] (y ∷ ys) n at = absurd (omega arith)
same_list (x ∷ xs) [] n at = absurd (omega arith)
same_list (x ∷ xs) (y ∷ ys) n at =
    ap (λ z. z ∷ xs) (same_Some x y (at 0 (omega arith)))
    ∙ ap (λ zs. y ∷ zs) (same_list xs ys (omega arith) (λ p b. at (suc p) (omega arith)))

counted : (vs : List PipeView) (a n : ℕ) → map (λ v. v.number) vs ≡ range_with_len a n → length vs ≡ n
counted [] a zero e = refl
counted [] a (suc n) e = cc
counted (v ∷ vs) a zero e = cc
counted (v ∷ vs) a (suc n) e =
    let rest : map (λ v. v.number) vs ≡ range_with_len (a + 1) n = cc in ap suc (counted vs (a + 1) n rest)

pipes_are : (s : Core) (vs : List PipeView) (n : ℕ) → length s.pipes ≡ n → map (λ v. v.number) vs ≡ range_with_len 0 n
    → AllShown s (map OfPipe vs) → s.pipes ≡ vs
pipes_are s vs n many numbers shown =
    let count = counted vs 0 n numbers in
    same_list s.pipes vs (omega arith)
    (λ p b. ap (slice_get s.pipes) (sym (zero-add p)) ∙ shown_at s vs 0 n p numbers shown (omega arith))

controller_is : (s : Core) (c : ControllerView) → Some (OfController s.controller) ≡ Some (OfController c) → s.controller ≡ c
controller_is s c e = cc

not_memory : (o : Option KeyView) → settled_for o ≡ settled.Memory → ⊥
not_memory None e = cc
not_memory (Some key) e = cc

-- ---- the end of a run

pub ends_so : (meet : ShownStatesMeet) (machine : SettlesAsMachine) (k : Config) (views : List PipeView) (c d : ControllerView) (r : Settled)
    (awaited : Option KeyView) (l : LayoutView) (list : Option (List ℕ)) (fits fits_after : Config → View → Type 0)
    (shows_after : (Name → ℕ) → Type 0) (found lines : List Line)
    → l ≡ k.layout
    → map (λ v. v.number) views ≡ range_with_len 0 k.layout.shape.pipes
    → IsKnown k (OfController c ∷ map OfPipe views) list
    → SettledOn k fits (ShowsKnown l list) c r fits_after shows_after d
    → r ≡ settled_for awaited
    → found ≡ pipe_lines views ++ d.lines
    → lines ≡ reverse (newest_first found)
    → Ends k views c lines awaited
ends_so meet machine k views c d r awaited l list fits fits_after shows_after found lines same numbers known settled so all sorted =
    let s : Core = known.shown.state in
    let i = meet k (OfController c ∷ map OfPipe views) known.shown in
    let config : s.config ≡ k = reached_config k s (known.shown.reached.events, known.shown.reached.leads) in
    let count : length s.pipes ≡ k.layout.shape.pipes = i.shape.pipes.count ∙ ap (λ (x : Config). x.layout.shape.pipes) config in
    let pipes : s.pipes ≡ views = pipes_are s views k.layout.shape.pipes count numbers known.shown.shown.1 in
    let controller : s.controller ≡ c = controller_is s c known.shown.shown.0 in
    let words : ShowsKnown l list s.words = subst (λ (m : LayoutView). ShowsKnown m list s.words) (sym same) known.words in
    let ends : EndsSo s.config s.controller (settled_for awaited) settled.steps d =
    subst (λ (x : Config). EndsSo x s.controller (settled_for awaited) settled.steps d) (sym config)
    (subst (λ (x : ControllerView). EndsSo k x (settled_for awaited) settled.steps d) (sym controller)
    (subst (λ (x : Settled). EndsSo k c x settled.steps d) so settled.ends)) in
    record {
      last = s;
      reached = known.shown.reached;
      pipes = pipes;
      controller = controller;
      state = stepped_to s settled.steps d;
      turns = machine s (settled_for awaited) settled.steps d (not_memory awaited) ends (settled.words s.words words).0;
      all =
          sorted ∙ ap (λ (ls : List Line). reverse (newest_first ls)) all
          ∙ ap (λ (vs : List PipeView). reverse (newest_first (pipe_lines vs ++ d.lines))) (sym pipes);
    }
