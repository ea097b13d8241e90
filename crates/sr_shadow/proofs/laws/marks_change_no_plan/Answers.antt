use Rattle.std.proofs.Common.{refl}
use Rattle.sr_shadow.proofs.Marking.{marked_plan}
use Rattle.sr_shadow.proofs.laws.marks_change_no_plan.Goals as goal

pub returns : goal.returns
returns c = record {
  same = marked_plan;
  close = λ e. record { key = refl; place = refl; also = refl };
  sweep = λ e hit. record { key = refl; place = refl; also = refl };
}
