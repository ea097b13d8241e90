-- How a run ends where the header of a capture is refused.
use Rattle.sr_capture.specs.declared.capture_refusal.CaptureRefusal.{CaptureRefusal}
use Rattle.sr_capture.specs.declared.capture_refusal.CaptureRefusal.TheVariants as refusal
use Rattle.sr_pcap.specs.declared.begin_refusal.BeginRefusal.{BeginRefusal}
use Rattle.sr_pcap.specs.declared.begin_refusal.BeginRefusal.TheVariants as begin
use Rattle.sr_run.specs.declared.status.Status.{Status}
use Rattle.sr_run.specs.declared.status.Status.TheVariants.{Capture, Memory}
use Rattle.sr_run.specs.declared.status.Status.TheVariants as status

-- the refusal of a header; a definition answers neither a fault nor want of memory
abbrev pub header_refusal : BeginRefusal → CaptureRefusal
header_refusal (begin.Truncated offset) = refusal.Cut offset
header_refusal begin.Magic = refusal.Magic
header_refusal begin.Major = refusal.Major
header_refusal begin.LinkType = refusal.LinkType
header_refusal begin.ReadFault = refusal.Magic
header_refusal begin.Memory = refusal.Magic

-- how a run ends where the header wasn't read
abbrev pub status_without : BeginRefusal → Status
status_without (begin.Truncated offset) = Capture (refusal.Cut offset)
status_without begin.Magic = Capture refusal.Magic
status_without begin.Major = Capture refusal.Major
status_without begin.LinkType = Capture refusal.LinkType
status_without begin.ReadFault = status.ReadFault
status_without begin.Memory = Memory
