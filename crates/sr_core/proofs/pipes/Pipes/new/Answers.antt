use Rattle.std.proofs.Common.{◌≡◌, ◌∙◌, ◌+◌, ◌++◌, [], ◌∷◌, ap, arith, map, subst, sym}
use Rattle.std.specs.List.{range_with_len}
use Rattle.std.proofs.lemmas.List.FromFn.{map-range_with_len_more}
use Rattle.sr_core.specs.HeldPipes.{AreOf, views_of}
use Rattle.sr_core.proofs.Views.{layouts_more, views_more}
use Rattle.sr_machine.specs.Pipe.{fresh_pipe}
use Rattle.sr_core.proofs.pipes.Pipes.new.Goals as goal

pub loop-number-preserved : goal.loop-number-preserved
loop-number-preserved c =
    let n = c.loop-number.number in
    subst (λ xs. AreOf c.args.layout.now xs × (views_of xs ≡ map fresh_pipe (range_with_len 0 (n + 1))))
    (sym c.in_ok-push.ensures.items) (
      layouts_more c.args.layout.now c.loop-number.pipes.items c.new.result c.loop-number.invariant.0 c.new.ensures.layout,
      views_more c.loop-number.pipes.items c.new.result
          ∙ ap (λ vs. vs ++ c.new.result.view ∷ []) c.loop-number.invariant.1
          ∙ ap (λ v. map fresh_pipe (range_with_len 0 n) ++ v ∷ []) c.new.ensures.view
          ∙ sym (map-range_with_len_more fresh_pipe 0 n n (omega arith)),
    )
