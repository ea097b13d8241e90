use Rattle.std.proofs.Common.{refl, sym, subst, ◌∙◌, ◌<◌, length, arith}
use Rattle.sr_audit.proofs.Ending.{entered_more, passed_more}
use Rattle.sr_audit.proofs.endings.Endings.advance.Goals as goal

pub loop-i-preserved : goal.loop-i-preserved
loop-i-preserved c =
    let inside : c.loop-i.i < length c.loop-i.self.list.items = subst (λ l. c.loop-i.i < length l.items) (sym c.loop-i.invariant.list) (omega (arith, c.loop-i-test.true, c.len-i-end.ensures)) in
    record {
      cursor = refl;
      list = c.in_ok-take.ensures.list ∙ c.loop-i.invariant.list;
      lists = λ all older.
          passed_more c.loop-i.self c.take.new.self all c.index-ending.result.now c.loop-i.i c.loop-i.invariant.cursor c.in_ok-take.ensures.list inside
          c.index-ending.ensures c.in_ok-take.ensures.each (c.loop-i.invariant.lists all older);
      entered = λ older.
          entered_more c.loop-i.self c.take.new.self c.index-ending.result.now c.args.tick c.loop-i.i c.loop-i.invariant.cursor c.in_ok-take.ensures.list inside
          c.index-ending.ensures (omega (arith, c.if-tick-ending.false)) (c.loop-i.invariant.entered older);
    }
