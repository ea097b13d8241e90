use Rattle.std.proofs.Common.{◌∙◌, List, length, ap, subst, sym}
use Rattle.sr_core.specs.HeldPipe.{HeldPipe}
use Rattle.sr_core.specs.HeldPipes.{views_of}
use Rattle.sr_interleave.specs.Together.{ArePipes}
use Rattle.sr_machine.specs.Config.{Config}
use Rattle.sr_stepped.proofs.Opened.{shows_new, together_new}
use Rattle.sr_stepped.proofs.running.run_over.Goals as goal

pub run_all-requires-clause-together : goal.run_all-requires-clause-together
run_all-requires-clause-together c =
    together_new c.args.board.now c.as_mut_slice.result.now c.args.controller.now c.layout.result.now c.requires.layout
    (c.layout.ensures ∙ ap (λ (k : Config). k.layout) c.config.ensures)
    (ap length c.as_mut_slice.ensures.value ∙ c.in_ok-pipes.ensures.count)
    (subst (λ (ps : List HeldPipe). ArePipes c.layout.result.now 0 ps) (sym c.as_mut_slice.ensures.value) c.in_ok-pipes.ensures.each)

pub run_all-requires-clause-first : goal.run_all-requires-clause-first
run_all-requires-clause-first c =
    shows_new c.args.board.now c.as_mut_slice.result.now c.args.controller.now c.layout.result.now
    (c.layout.ensures ∙ ap (λ (k : Config). k.layout) c.config.ensures)
    (ap views_of c.as_mut_slice.ensures.value ∙ c.in_ok-pipes.ensures.views) c.requires.controller c.requires.words
