use Rattle.std.proofs.Common.{◌≡◌, ◌+◌, ◌==◌, true, false, take, sym, subst, arith}
use Rattle.std.proofs.lemmas.Bool.Decides.{nat_tests}
use Rattle.sr_hash.specs.Uses.{pipe_number}
use Rattle.sr_threads.proofs.Laps.{more_else, more_own}
use Rattle.sr_threads.specs.Working.{Worked, share_in}
use Rattle.sr_threads.specs.declared.worker.Worker.{Worker}
use Rattle.sr_threads.proofs.worker.Worker.work.Goals.{then-pipe_of-number, else-pipe_of-number}
use Rattle.sr_threads.proofs.worker.Worker.work.Goals as goal

pub loop-timed-preserved : goal.loop-timed-preserved
loop-timed-preserved g c =
    let value = c.pipe_of.ensures.value in
    elim c.if-pipe_of-number.branch [
      | then-pipe_of-number w ↦
          (let test = w.if-pipe_of-number in
          let own : (pipe_number c.timed-item.result.packet.key c.args.layout.now.shape.pipes == c.number-number.result) ≡ true = grind (arith, nat_tests) in
          subst (λ (u : Worker). Worked c.args.self.now (share_in c.args.layout.now c.number-number.result (take (c.loop-timed.timed-index + 1) c.args.packets.now)) u)
          (sym w.self-is)
          (more_own c.args.layout.now c.number-number.result c.loop-timed.timed-index c.args.packets.now c.timed-item.result c.args.self.now
          c.loop-timed.self w.handle.new.self c.loop-timed-test.true c.timed-item.is own c.loop-timed.invariant w.handle.ensures))
      | else-pipe_of-number w ↦
          (let test = w.if-pipe_of-number in
          let own : (pipe_number c.timed-item.result.packet.key c.args.layout.now.shape.pipes == c.number-number.result) ≡ false = grind (arith, nat_tests) in
          subst (λ (u : Worker). Worked c.args.self.now (share_in c.args.layout.now c.number-number.result (take (c.loop-timed.timed-index + 1) c.args.packets.now)) u)
          (sym w.self-is)
          (more_else c.args.layout.now c.number-number.result c.loop-timed.timed-index c.args.packets.now c.timed-item.result c.args.self.now
          c.loop-timed.self c.loop-timed-test.true c.timed-item.is own c.loop-timed.invariant))
    ]
