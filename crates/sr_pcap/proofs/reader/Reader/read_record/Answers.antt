use Rattle.std.proofs.Common.{◌≡◌, ap, sym, subst, ◌∙◌}
use Rattle.sr_pcap.specs.Reader.{ReaderView, Answers}
use Rattle.sr_pcap.specs.declared.next.Next.TheVariants.{Whole}
use Rattle.sr_pcap.proofs.Reading.{takes_record}
use Rattle.sr_pcap.proofs.reader.Reader.read_record.Goals as goal

pub returns-in-Ok-clause-record : goal.returns-in-Ok-clause-record
returns-in-Ok-clause-record g c = λ xs p.
    let old = c.args.self.now in
    let header = c.in-Ok.header in
    let left = (g.S.Source.known c.look.new.source).left in
    let l = c.in-Ok.ensures.looks xs p in
    let offset : c.look.new.self.offset ≡ old.offset = ap (λ (r : ReaderView). r.offset) c.look.ensures.same in
    subst (λ n. Answers n old.format old.offset xs c.take.new.self left) (sym (c.take.ensures.whole ∙ ap (λ o. Whole header.ms o) offset))
    (takes_record header old.format old.offset c.look.new.self.window xs left c.take.new.self l.0 c.in-Ok.ensures.found.0 l.1
    (ap (λ (r : ReaderView). r.bytes) c.take.ensures.taken) (ap (λ (r : ReaderView). r.window) c.take.ensures.taken))
