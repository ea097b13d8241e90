use Rattle.std.proofs.Common.{reverse, take}
use Rattle.sr_audit.specs.Answers.{TellsAnswers}
use Rattle.sr_audit.proofs.pairing.all_answers.Given as goal

abbrev pub invariant-loop-line : goal.invariant-loop-line
invariant-loop-line l = TellsAnswers l.answers (reverse (take l.line-index l.lines))
