use Rattle.std.proofs.Common.{ap, sym, ◌∙◌, arith}
use Rattle.sr_pcap.specs.Reader.{ReaderView}
use Rattle.sr_pcap.proofs.Reading.{record_taken}
use Rattle.sr_pcap.proofs.reader.Reader.take.Goals as goal

pub returns-clause-taken : goal.returns-clause-taken
returns-clause-taken c =
    let view = c.self.view_is in
    let there = ap (λ (r : ReaderView). r.window) view in
    rw (← c.self.view_is) (record_taken c.self.inside.format c.self.inside.offset _ c.args.header.size c.self.inside.window c.pass.new.self c.self.inside.ended
    (ap (λ (r : ReaderView). r.ended) view ∙ c.requires.going) (rw (← there) at c.requires.there) c.pass.ensures (omega arith))
