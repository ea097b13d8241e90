use Rattle.std.proofs.Common.{sym, ◌∙◌, arith}
use Rattle.std.specs.BTreeMap.{get}
use Rattle.std.specs.Ordering.{nat_cmp}
use Rattle.sr_audit.proofs.Ringing.{rings_same, rings_more}
use Rattle.sr_audit.proofs.rings.Rings.absorb.Goals as goal

pub returns-in_ok-insert : goal.returns-in_ok-insert
returns-in_ok-insert c before t size fall =
    let line = c.args.line.now in
    let pipe = c.in-Some.pipe in
    let counted = sym c.counted_in.ensures ∙ c.in-Some.is in
    rings_more line before (get nat_cmp c.args.self.now.map) (get nat_cmp c.take-ring.new.self.map) (get nat_cmp c.insert.new.self) pipe c.take-ring.result c.absorb.new.self counted
    (c.take-ring.ensures.taken before) (λ told. c.in_ok-absorb.ensures pipe before counted (omega arith) fall told)
    c.take-ring.ensures.others c.in_ok-insert.ensures.updates.0 (t (omega arith) fall.2)

pub returns-in_default : goal.returns-in_default
returns-in_default c before t size fall =
    rings_same c.args.line.now before (get nat_cmp c.args.self.now.map) (sym c.counted_in.ensures ∙ c.in_default.is) (t (omega arith) fall.2)
