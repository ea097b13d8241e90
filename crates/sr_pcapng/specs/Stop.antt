-- Why no packet comes, as an answer.
use Rattle.sr_pcapng.specs.declared.ng_next.NgNext.{NgNext}
use Rattle.sr_pcapng.specs.declared.ng_next.NgNext.TheVariants as next
use Rattle.sr_pcapng.specs.declared.stop.Stop.{Stop}
use Rattle.sr_pcapng.specs.declared.stop.Stop.TheVariants as stop

abbrev pub said : Stop → NgNext
said stop.End = next.End
said (stop.Truncated offset) = next.Truncated offset
said stop.ReadFault = next.ReadFault
said (stop.TooLong offset size) = next.TooLong offset size
said (stop.Block offset) = next.Block offset
said stop.Magic = next.Magic
said stop.Major = next.Major
said (stop.TooMany offset) = next.TooMany offset
