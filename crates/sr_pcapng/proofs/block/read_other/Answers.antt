use Rattle.sr_pcapng.proofs.Blocks.{other_gives}
use Rattle.sr_pcapng.proofs.block.read_other.Goals as goal

pub returns-clause-reads : goal.returns-clause-reads
returns-clause-reads g c = λ xs h.
    other_gives c.close.result c.args.section.now c.endian.result c.args.offset c.args.size xs _ c.endian.ensures (c.close.ensures.closes xs h)
