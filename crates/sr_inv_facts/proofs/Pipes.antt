-- What holds of each pipe, as one of them changes.
use Rattle.std.proofs.Common.{◌≡◌, ℕ, zero, suc, ◌<◌, Bool, true, false, ◌≢◌, List, [], ◌∷◌, length, ◌==◌, slice_get, slice_set, Some, sym, refl, ap, ◌∙◌, subst, arith}
use Rattle.std.proofs.lemmas.Bool.Decides.{nat_tests}
use Rattle.std.proofs.lemmas.Option.{slice_get_within, same_Some}
use Rattle.sr_inv_facts.specs.Readings.{EachPipe, SomePipe}
use Rattle.sr_machine.specs.Pipe.{is_idle}
use Rattle.sr_machine.specs.declared.pipe_view.PipeView.{PipeView}
use Rattle.sr_machine.specs.declared.stage.Stage.{Stage}
use Rattle.sr_machine.specs.declared.stage.Stage.TheVariants.{Idle}
use Rattle.sr_update.proofs.Rows.{get_set_same, get_set_other}

module _ (pipes : List PipeView) (p : ℕ) (v w : PipeView) (is : slice_get pipes p ≡ Some v) where
  -- the pipe that changed, and the others
  pub set_cases : (P : ℕ → PipeView → Type 0) → P p w → ((q : ℕ) (u : PipeView) → q ≢ p → slice_get pipes q ≡ Some u → P q u)
      → EachPipe P (slice_set pipes p w)
  set_cases P own else q u e = at (q == p) refl
    where
      at : (b : Bool) → (q == p) ≡ b → P q u
      at true t =
          let i : q ≡ p = grind (arith, nat_tests) in
          let here : Some w ≡ Some u =
          sym (get_set_same pipes p w (slice_get_within pipes p v is)) ∙ (ap (λ n. slice_get (slice_set pipes p w) n) (sym i) ∙ e) in
          subst (P q) (same_Some w u here) (subst (λ n. P n w) (sym i) own)
      at false t =
          let i : q ≢ p = grind (arith, nat_tests) in
          else q u i (sym (get_set_other pipes p q w i) ∙ e)

  -- what holds of each and of the new one, holds of each again
  pub each_set : (P : ℕ → PipeView → Type 0) → EachPipe P pipes → P p w → EachPipe P (slice_set pipes p w)
  each_set P all own = set_cases P own (λ q u i e. all q u e)

  -- where what holds changes for the others too
  pub each_turns : (P Q : ℕ → PipeView → Type 0) → EachPipe P pipes → Q p w
      → ((q : ℕ) (u : PipeView) → q ≢ p → slice_get pipes q ≡ Some u → P q u → Q q u)
      → EachPipe Q (slice_set pipes p w)
  each_turns P Q all own turn = set_cases Q own (λ q u i e. turn q u i e (all q u e))

  -- some pipe that is another one is still there; and the new one is
  pub some_else : (P : ℕ → PipeView → Type 0) (q : ℕ) (u : PipeView) → q ≢ p → slice_get pipes q ≡ Some u → P q u
      → SomePipe P (slice_set pipes p w)
  some_else P q u i e h = (q, u, get_set_other pipes p q w i ∙ e, h)

  pub some_here : (P : ℕ → PipeView → Type 0) → P p w → SomePipe P (slice_set pipes p w)
  some_here P h = (p, w, get_set_same pipes p w (slice_get_within pipes p v is), h)

-- what holds of each pipe, where one fact leads to the other
pub each_then : (P Q : ℕ → PipeView → Type 0) (pipes : List PipeView)
    → ((q : ℕ) (u : PipeView) → slice_get pipes q ≡ Some u → P q u → Q q u) → EachPipe P pipes → EachPipe Q pipes
each_then P Q pipes turn all q u e = turn q u e (all q u e)

-- a pipe into which a packet may come has none in hand
pub idle : (a : Stage) → is_idle a ≡ true → a ≡ Idle
idle Idle e = refl
idle a e = cc

-- a pipe that is in reach is there
pub pipe_there : (pipes : List PipeView) (n : ℕ) → n < length pipes → (v : PipeView) × (slice_get pipes n ≡ Some v)
pipe_there [] n h = absurd (omega arith)
pipe_there (v ∷ pipes) zero h = (v, refl)
pipe_there (v ∷ pipes) (suc n) h = pipe_there pipes n (omega arith)
