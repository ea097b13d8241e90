use Rattle.std.proofs.Common.{Some, subst, sym, ap, ◌∙◌}
use Rattle.sr_io.specs.Window.{Pending}
use Rattle.sr_capture.specs.declared.capture_reader.CaptureReader.{CaptureReader}
use Rattle.sr_capture.specs.declared.capture_reader.CaptureReader.TheVariants as reader
use Rattle.sr_capture.specs.Reader.{Answers, IsGoing, place_of, window_of}
use Rattle.sr_capture.specs.Records.{next_record}
use Rattle.sr_capture.proofs.Arrivals.{classic_answered, ng_answered}
use Rattle.sr_capture.proofs.capture_reader.CaptureReader.next.Goals as goal

pub returns-in-Classic-clause-record : goal.returns-in-Classic-clause-record
returns-in-Classic-clause-record g c = λ xs p.
    let going = subst IsGoing c.in-Classic.is c.requires in
    let left = (g.S.Source.known c.next-next.new.source).left in
    let here = subst (λ (r : CaptureReader). Pending (window_of r) (g.S.Source.known c.args.source.now).left xs) c.in-Classic.is p in
    subst (λ (r : CaptureReader). Answers c.of_classic.result (next_record (place_of r) xs) (reader.Classic c.next-next.new.self) left) (sym c.in-Classic.is)
    (classic_answered c.in-Classic.reader c.next-next.new.self c.link.result c.next-next.result c.of_classic.result xs left c.of_classic.ensures c.link.ensures
    (c.next-next.ensures.step going) (c.next-next.ensures.record going xs here))

pub returns-in-Ng-clause-record : goal.returns-in-Ng-clause-record
returns-in-Ng-clause-record g c = λ xs p.
    let going = subst IsGoing c.in-Ng.is c.requires in
    let left = (g.S.Source.known c.next.new.source).left in
    let here = subst (λ (r : CaptureReader). Pending (window_of r) (g.S.Source.known c.args.source.now).left xs) c.in-Ng.is p in
    subst (λ (r : CaptureReader). Answers c.of_ng.result (next_record (place_of r) xs) (reader.Ng c.next.new.self) left) (sym c.in-Ng.is)
    (ng_answered c.in-Ng.reader c.next.new.self c.next.result c.of_ng.result xs left c.of_ng.ensures (c.next.ensures.packet going xs here))
