-- What a reader answers, as the record that comes next.
use Rattle.std.specs.Prelude.{ℕ, Some, None}
use Rattle.sr_pcap.specs.declared.next.Next.{Next}
use Rattle.sr_pcap.specs.declared.next.Next.TheVariants as classic
use Rattle.sr_pcapng.specs.declared.ng_next.NgNext.{NgNext}
use Rattle.sr_pcapng.specs.declared.ng_next.NgNext.TheVariants as ng
use Rattle.sr_capture.specs.declared.capture_refusal.CaptureRefusal.TheVariants.{Cut, TooLong, TooMany, Block, Magic, Major}
use Rattle.sr_capture.specs.declared.record.Record.{Record}
use Rattle.sr_capture.specs.declared.record.Record.TheVariants.{Whole, Over, Failed}

abbrev pub classic_record : Next → ℕ → Record
classic_record (classic.Whole ms offset) link = Whole ms link offset
classic_record classic.End link = Over None
classic_record (classic.Truncated offset) link = Over (Some (Cut offset))
classic_record classic.ReadFault link = Failed
classic_record (classic.TooLong offset size) link = Over (Some (TooLong offset))

abbrev pub ng_record : NgNext → Record
ng_record (ng.Whole ms link offset) = Whole ms link offset
ng_record ng.End = Over None
ng_record (ng.Truncated offset) = Over (Some (Cut offset))
ng_record ng.ReadFault = Failed
ng_record (ng.TooLong offset size) = Over (Some (TooLong offset))
ng_record (ng.Block offset) = Over (Some (Block offset))
ng_record ng.Magic = Over (Some Magic)
ng_record ng.Major = Over (Some Major)
ng_record (ng.TooMany offset) = Over (Some (TooMany offset))
