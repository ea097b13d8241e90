use Rattle.std.proofs.Common.{[], All, subst}
use Rattle.std.proofs.lemmas.List.Elements.{All-from_recursion, All-more, recursion_from_All}
use Rattle.std.proofs.lemmas.List.{take_all}
use Rattle.sr_inv_facts.specs.Fitted.{IsPacket}
use Rattle.sr_rounds.specs.declared.timed.Timed.{Timed}
use Rattle.sr_scripted.proofs.played.packets_ranges.Goals as goal

pub loop-timed-init : goal.loop-timed-init
loop-timed-init c = All-from_recursion (λ (t : Timed). IsPacket t.packet) [] (tt {0})

pub loop-timed-preserved : goal.loop-timed-preserved
loop-timed-preserved c =
    All-more (λ (t : Timed). IsPacket t.packet) c.args.packets.now c.loop-timed.timed-index c.timed-item.result c.loop-timed-test.true c.loop-timed.invariant
    (subst (λ (t : Timed). IsPacket t.packet) c.timed-item.is c.key_ranges.ensures)

pub returns : goal.returns
returns c =
    recursion_from_All (λ (t : Timed). IsPacket t.packet) c.args.packets.now
    (subst (All (λ (t : Timed). IsPacket t.packet)) (take_all c.loop-timed.timed-index c.args.packets.now c.loop-timed-test.false) c.loop-timed.invariant)
