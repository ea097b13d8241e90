use Rattle.std.proofs.Common.{arith}
use Rattle.std.proofs.lemmas.Fmt.{length-decimal-le}
use Rattle.sr_text.proofs.line_text.LineText.put_u64.Goals as goal

pub digits-requires-clause-digits : goal.digits-requires-clause-digits
digits-requires-clause-digits c = length-decimal-le 20 c.args.n (omega arith) (omega arith) (omega arith)
