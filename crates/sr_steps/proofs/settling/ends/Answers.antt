use Rattle.std.proofs.Common.{ap}
use Rattle.sr_machine.specs.Settling.{follows}
use Rattle.sr_steps.proofs.Settles.{not_refused, refused_by}
use Rattle.sr_steps.proofs.settling.ends.Goals as goal

pub returns-in-Did : goal.returns-in-Did
returns-in-Did c = not_refused c.args.answer.now c.args.core.now (ap follows c.in-Did.is)

pub returns-in-NotYet : goal.returns-in-NotYet
returns-in-NotYet c = not_refused c.args.answer.now c.args.core.now (ap follows c.in-NotYet.is)

pub returns-in_ok-refuses-in-NoRoom : goal.returns-in_ok-refuses-in-NoRoom
returns-in_ok-refuses-in-NoRoom c =
    refused_by c.in_ok-refuses-in-NoRoom.field-0 c.args.answer.now c.args.core.now c.refuses.new.core (ap follows c.in-NoRoom.is)
    c.in_ok-refuses-in-NoRoom.ensures

pub returns-in_ok-refuses-in-VersionsFull : goal.returns-in_ok-refuses-in-VersionsFull
returns-in_ok-refuses-in-VersionsFull c =
    refused_by c.in_ok-refuses-in-VersionsFull.field-0 c.args.answer.now c.args.core.now c.refuses-in-VersionsFull.new.core
    (ap follows c.in-VersionsFull.is) c.in_ok-refuses-in-VersionsFull.ensures
