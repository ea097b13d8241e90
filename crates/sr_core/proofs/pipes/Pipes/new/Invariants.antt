use Rattle.std.proofs.Common.{◌≡◌, map}
use Rattle.std.specs.List.{range_with_len}
use Rattle.sr_core.specs.HeldPipes.{AreOf, views_of}
use Rattle.sr_machine.specs.Pipe.{fresh_pipe}
use Rattle.sr_core.proofs.pipes.Pipes.new.Given as goal

abbrev pub invariant-loop-number : goal.invariant-loop-number
invariant-loop-number l = AreOf l.layout l.pipes.items × (views_of l.pipes.items ≡ map fresh_pipe (range_with_len 0 l.number))
