use Rattle.sr_io.proofs.Writing.{writes_then, writes_front}
use Rattle.sr_gen.specs.Capture.{capture_header, records_from, capture_of}
use Rattle.sr_gen.proofs.capture.make.Goals as goal

pub returns-in-All : goal.returns-in-All
unfolding capture_of
returns-in-All g c =
    writes_then c.write_records.result capture_header (records_from c.args.number 0 c.args.packets) c.in-All.ensures c.write_records.ensures

pub returns-in-Failed : goal.returns-in-Failed
unfolding capture_of
returns-in-Failed g c = writes_front capture_header (records_from c.args.number 0 c.args.packets) c.in-Failed.ensures
