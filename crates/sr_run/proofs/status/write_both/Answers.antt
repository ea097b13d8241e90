use Rattle.sr_io.proofs.Writing.{writes_front, writes_then}
use Rattle.sr_run.proofs.status.write_both.Goals as goal

pub returns-in-All : goal.returns-in-All
returns-in-All g c =
    writes_then c.write-in-All.result c.args.first.now c.args.second.now c.in-All.ensures c.write-in-All.ensures

pub returns-in-Failed : goal.returns-in-Failed
returns-in-Failed g c = writes_front c.args.first.now c.args.second.now c.in-Failed.ensures
