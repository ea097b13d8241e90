use Rattle.sr_update.proofs.Bits.{put_in, put_out}
use Rattle.sr_update.proofs.number_set.with_number.Goals as goal

pub returns-then-on : goal.returns-then-on
returns-then-on c = rw (c.if-on.true) (put_in c.args.set c.args.n c.requires)

pub returns-else-on : goal.returns-else-on
returns-else-on c = rw (c.if-on.false) (put_out c.args.set c.args.n c.requires)
