use Rattle.std.proofs.Common.{sym, ◌∙◌}
use Rattle.std.proofs.lemmas.Result.{on_ok_weaker}
use Rattle.sr_audit.proofs.Ringing.{absorb_held, absorb_pushed, absorb_answer}
use Rattle.sr_audit.proofs.ring.Ring.absorb.Goals as goal

pub returns-then-is_held : goal.returns-then-is_held
returns-then-is_held c = rw c.in-Packet.is
    (on_ok_weaker c.hold.result (λ p pipe before e size fall t. absorb_held pipe c.args.self.now c.hold.new.self before c.in-Packet.number c.in-Packet.entered
    c.in-Packet.out c.in-Packet.pipe c.in-Packet.key c.in-Packet.kind c.in-Packet.verdict (sym c.is_held.ensures ∙ c.if-is_held.true) e size fall p t) c.hold.ensures)

pub returns-else-is_held : goal.returns-else-is_held
returns-else-is_held c = rw c.in-Packet.is
    (λ pipe before e size fall t. absorb_pushed pipe c.args.self.now c.push.new.self before c.in-Packet.number c.in-Packet.entered
    c.in-Packet.out c.in-Packet.pipe c.in-Packet.key c.in-Packet.kind c.in-Packet.verdict (sym c.is_held.ensures ∙ c.if-is_held.false) e size c.push.ensures t)

pub returns-in-Answer : goal.returns-in-Answer
returns-in-Answer c = rw c.in-Answer.is
    (on_ok_weaker c.answer.result (λ p pipe before e size fall t. absorb_answer pipe c.args.self.now c.answer.new.self before c.in-Answer.out c.in-Answer.pipe
    c.in-Answer.nth c.in-Answer.key c.in-Answer.verdict e fall p t) c.answer.ensures)
