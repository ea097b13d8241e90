use Rattle.std.proofs.Common.{slice_index_or, subst}
use Rattle.sr_threads.proofs.Parts.{ready_at, worked_each}
use Rattle.sr_threads.specs.Working.{Worked, share_in}
use Rattle.sr_threads.specs.declared.worker.Worker.{Worker}
use Rattle.sr_threads.proofs.round.all_work.Goals as goal

pub for_each_mut-requires-clause-accepts : goal.for_each_mut-requires-clause-accepts
for_each_mut-requires-clause-accepts g c κs within i p b e = ready_at c.args.layout.now c.args.workers.now i p.now c.requires b e

pub returns : goal.returns
returns g c =
    worked_each c.args.layout.now c.args.packets.now c.args.workers.now c.for_each_mut.new.s c.for_each_mut.auto.s
    (λ i d b.
    let m = (c.for_each_mut.ensures i d b).1 in
    subst
    (λ (v : Worker). Worked (slice_index_or c.args.workers.now i d)
    (share_in c.args.layout.now (slice_index_or c.args.workers.now i d).pipe.view.number c.args.packets.now) v) m.left
    (subst (λ (x : Worker). Worked x (share_in c.args.layout.now x.pipe.view.number c.args.packets.now) m.after_call.now) m.argument_is m.call))
