use Rattle.std.proofs.Common.{refl, arith}
use Rattle.sr_audit.proofs.Using.{cursor_more}
use Rattle.sr_audit.proofs.used.Used.advance.Goals as goal

pub loop-i-preserved : goal.loop-i-preserved
loop-i-preserved c = record {
  cursor = refl;
  used = λ earlier h by.
      cursor_more c.loop-i.self c.take.new.self c.args.lines.now c.index-lines-i.result c.args.tick c.loop-i.i c.loop-i.invariant.cursor c.loop-i-test.true
      c.index-lines-i.is (omega (arith, c.if-tick-out.false, c.out.ensures)) c.in_ok-take.ensures.each (c.loop-i.invariant.used earlier h by);
}
