-- The pipes, the controller and the words at the beginning are the machine there.
use Rattle.std.proofs.Common.{◌≡◌, ◌∙◌, ℕ, ◌+◌, ◌++◌, List, [], ◌∷◌, length, map, sym, ap, subst, arith}
use Rattle.std.proofs.lemmas.List.FromFn.{map-range_with_len_more}
use Rattle.std.specs.List.{range_with_len}
use Rattle.sr_base.specs.Layout.{LayoutView}
use Rattle.sr_core.specs.HeldCore.{Shows}
use Rattle.sr_core.specs.HeldPipe.{HeldPipe}
use Rattle.sr_core.specs.HeldPipes.{views_of}
use Rattle.sr_core.specs.PlainWords.{HeldWords, ShowsWords}
use Rattle.sr_ctl.specs.SeenController.{SeenController}
use Rattle.sr_interleave.proofs.Pipes.{fresh_more, length_more, views_more}
use Rattle.sr_interleave.specs.Together.{ArePipes, AreTogether, held}
use Rattle.sr_machine.specs.Core.{opening}
use Rattle.sr_machine.specs.Opening.{opening_controller, opening_pipes, opening_words}
use Rattle.sr_machine.specs.Pipe.{fresh_pipe}
use Rattle.sr_machine.specs.declared.pipe_view.PipeView.{PipeView}

-- so many pipes that have done nothing yet
pub record AreNew (l : LayoutView) (n : ℕ) (ps : List HeldPipe) : Type 0 where
  pub count : length ps ≡ n
  pub each : ArePipes l 0 ps
  pub views : views_of ps ≡ map fresh_pipe (range_with_len 0 n)

pub new_more : (l : LayoutView) (n : ℕ) (ps : List HeldPipe) (q : HeldPipe) → AreNew l n ps → q.layout ≡ l → q.view ≡ fresh_pipe n
    → AreNew l (n + 1) (ps ++ q ∷ [])
new_more l n ps q new layout view =
    let count = new.count in
    let longer = length_more ps q in record {
      count = omega (arith, count, longer);
      each = fresh_more l n ps q new.each count layout view;
      views =
          views_more ps q
          ∙ ap (λ vs. vs ++ q.view ∷ []) new.views
          ∙ ap (λ v. map fresh_pipe (range_with_len 0 n) ++ v ∷ []) view
          ∙ sym (map-range_with_len_more fresh_pipe 0 n n (omega arith));
    }

-- the pipes of a controller's layout, on words of it
pub together_new : (board : HeldWords) (ps : List HeldPipe) (c : SeenController) (l : LayoutView) → board.layout ≡ c.config.layout
    → l ≡ c.config.layout → length ps ≡ l.shape.pipes → ArePipes l 0 ps → AreTogether board ps c
together_new board ps c l same is count each =
    let here : l ≡ board.layout = is ∙ sym same in record {
      on = record { count = count ∙ ap (λ (x : LayoutView). x.shape.pipes) here; each = subst (λ (x : LayoutView). ArePipes x 0 ps) here each };
      controller = sym same;
    }

pub shows_new : (board : HeldWords) (ps : List HeldPipe) (c : SeenController) (l : LayoutView) → l ≡ c.config.layout
    → views_of ps ≡ map fresh_pipe (range_with_len 0 l.shape.pipes) → c.view ≡ opening_controller c.config
    → ShowsWords c.config.layout board.words (opening_words c.config) → Shows (held board ps c) (opening c.config)
unfolding opening_pipes
shows_new board ps c l is views view words = (
  opening_words c.config,
  words,
  ap (λ (v : List PipeView). record { config = c.config; words = opening_words c.config; pipes = v; controller = opening_controller c.config })
      (sym (views ∙ ap (λ (x : LayoutView). map fresh_pipe (range_with_len 0 x.shape.pipes)) is))
      ∙ ap (λ v. record { config = c.config; words = opening_words c.config; pipes = views_of ps; controller = v }) (sym view),
)
