use Rattle.std.proofs.Common.{◌≡◌, ◌∙◌, ◌≤◌, length, refl, ap, subst, arith}
use Rattle.sr_base.specs.Layout.{LayoutView}
use Rattle.sr_base.specs.declared.shape.Shape.{Shape}
use Rattle.sr_machine.specs.Config.{Config}
use Rattle.sr_rounds.specs.Rounds.{rounds_of}
use Rattle.sr_threads.proofs.Whole.{ready_first, runs_left, work_left}
use Rattle.sr_threads.proofs.replaying.run_over.Goals as goal

pub play_rounds-requires-clause-pipes : goal.play_rounds-requires-clause-pipes
play_rounds-requires-clause-pipes g c κs within =
    ready_first c.args.switch.now.table.shared.key c.args.controller.now.config c.args.switch.now.table.shared.table_id c.layout.result.now
    c.in_ok-workers.workers.items c.as_mut_slice.result.now c.requires.switch (c.layout.ensures ∙ ap (λ (k : Config). k.layout) c.config.ensures)
    c.in_ok-workers.ensures c.as_mut_slice.ensures.value

pub end-requires : goal.end-requires
end-requires g c =
    let all : c.in_ok-workers.workers.len ≡ length c.in_ok-workers.workers.items = let o = c.in_ok-workers.workers.ok.0 in omega arith in
    work_left c.args.switch.now.table.shared.key c.args.controller.now.config c.args.switch.now.table.shared.table_id c.layout.result.now c.args.packets.now
    c.deref.result.now c.in_ok-workers.workers.items c.as_mut_slice.result.now c.play_rounds.new.workers c.in_ok-pipes.field-0.controller c.play_rounds.new.board
    c.args.controller.now c.play_rounds.new.controller c.requires.switch (c.layout.ensures ∙ ap (λ (k : Config). k.layout) c.config.ensures)
    c.in_ok-workers.ensures c.as_mut_slice.ensures.value c.in_ok-pipes.ensures.1 refl c.in_ok-play_rounds.ensures c.in_ok-workers.workers.len all

pub returns-clause-runs : goal.returns-clause-runs
returns-clause-runs g c =
    let all : c.in_ok-workers.workers.len ≡ length c.in_ok-workers.workers.items = let o = c.in_ok-workers.workers.ok.0 in omega arith in
    let here : 1 ≤ c.layout.result.now.shape.pipes = let p = c.layout_ranges.ensures.pipes in omega arith in
    let layout = c.layout.ensures ∙ ap (λ (k : Config). k.layout) c.config.ensures in
    let some : 1 ≤ c.args.controller.now.config.layout.shape.pipes = subst (λ (x : LayoutView). 1 ≤ x.shape.pipes) layout here in
    runs_left c.args.switch.now.table.shared.key c.args.controller.now.config c.args.switch.now.table.shared.table_id c.layout.result.now c.args.packets.now
    c.deref.result.now c.in_ok-workers.workers.items c.as_mut_slice.result.now c.play_rounds.new.workers c.in_ok-pipes.field-0.controller c.play_rounds.new.board
    c.args.controller.now c.play_rounds.new.controller c.requires.switch layout
    c.in_ok-workers.ensures c.as_mut_slice.ensures.value c.in_ok-pipes.ensures.1 refl c.in_ok-play_rounds.ensures c.in_ok-workers.workers.len all
    c.in_ok-ended.ended.0.lines.items c.in_ok-ended.ended.0.awaited some
    (c.deref.ensures.value ∙ c.in_ok-rounds.ensures ∙ ap (λ (x : Shape). rounds_of x.window_ms c.args.packets.now) c.shape.ensures)
    c.requires.controller c.between_turns.ensures c.in_ok-ended.ensures.lines c.in_ok-ended.ensures.whole
