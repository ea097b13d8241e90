-- From what was read and printed to what a run of `one` says.
use Rattle.std.proofs.Common.{◌≡◌, ℕ, ◌≤◌, List, [], ◌∷◌, Option, Ok, Err, inl, inr, refl, sym, ap, ◌∙◌, subst}
use Rattle.sr_io.specs.Sink.{SinkKnown, Adds, Writes}
use Rattle.sr_io.specs.Source.{SourceKnown}
use Rattle.sr_io.specs.declared.sink.Put.TheVariants as put
use Rattle.sr_io.specs.Faults.{Counts}
use Rattle.sr_io.proofs.Adding.{adds_nothing}
use Rattle.sr_io.proofs.Counting.{counts_as}
use Rattle.sr_pcap.specs.declared.begin_refusal.BeginRefusal.{BeginRefusal}
use Rattle.sr_pcap.specs.declared.begin_refusal.BeginRefusal.TheVariants as begin
use Rattle.sr_base.specs.declared.packet.Packet.{Packet}
use Rattle.sr_capture.specs.declared.captured.Captured.{Captured}
use Rattle.sr_capture.specs.Capture.{Keeps, Reads, capture_of}
use Rattle.sr_capture.specs.Records.{Records}
use Rattle.sr_capture.specs.declared.capture_refusal.CaptureRefusal.{CaptureRefusal}
use Rattle.sr_run.specs.declared.status.Status.{Status}
use Rattle.sr_run.specs.declared.status.Status.TheVariants.{Done, Usage, Script, Capture, ReadFault, WriteFault, Memory, Waiting, Breach}
use Rattle.sr_run.specs.Capture.{header_refusal, status_without}
use Rattle.sr_run.specs.One.{OneSays, EndsOne, PrintsLawful, one_text, one_skips, refusal_of, refusal_in, printed, printed_in}
use Rattle.sr_run.specs.Outside.{WritesNothing}
use Rattle.sr_run.specs.Printing.{EndsPrinting}
use Rattle.sr_run.proofs.LawfulLines.{prints_lawful}

-- a capture whose header is refused
says_refused : (why : BeginRefusal) (vip : ℕ × ℕ) (servers : ℕ) (xs : List ℕ) (source : SourceKnown) (sink : SinkKnown) → capture_of xs ≡ Err why
    → OneSays (Capture (header_refusal why)) vip servers xs source sink sink
unfolding refusal_of printed
says_refused why vip servers xs source sink refused = (
  ap refusal_in refused,
  subst (λ t. Adds sink.taken sink.taken t) (sym (ap (λ r. printed_in r vip servers) refused)) (adds_nothing sink.taken),
  inl (rw refused refl),
)

-- a capture of which nothing was kept
pub says_unread : (why : BeginRefusal) (vip : ℕ × ℕ) (servers : ℕ) (xs : List ℕ) (source : SourceKnown) (sink : SinkKnown) → Reads (λ packet ms. packet) (Err why) (vip ∷ []) xs source.left
    → OneSays (status_without why) vip servers xs source sink sink
says_unread (begin.Truncated offset) vip servers xs source sink read = says_refused (begin.Truncated offset) vip servers xs source sink read
says_unread begin.Magic vip servers xs source sink read = says_refused begin.Magic vip servers xs source sink read
says_unread begin.Major vip servers xs source sink read = says_refused begin.Major vip servers xs source sink read
says_unread begin.LinkType vip servers xs source sink read = says_refused begin.LinkType vip servers xs source sink read
says_unread begin.ReadFault vip servers xs source sink read = adds_nothing sink.taken
says_unread begin.Memory vip servers xs source sink read = adds_nothing sink.taken

pub ends_unread : (why : BeginRefusal) → EndsOne (status_without why)
ends_unread (begin.Truncated offset) = tt
ends_unread begin.Magic = tt
ends_unread begin.Major = tt
ends_unread begin.LinkType = tt
ends_unread begin.ReadFault = tt
ends_unread begin.Memory = tt

-- nothing was written then
pub quiet_unread : (why : BeginRefusal) (sink : SinkKnown) → WritesNothing (status_without why) sink sink
quiet_unread (begin.Truncated offset) sink = tt
quiet_unread begin.Magic sink = tt
quiet_unread begin.Major sink = tt
quiet_unread begin.LinkType sink = tt
quiet_unread begin.ReadFault sink = adds_nothing sink.taken
quiet_unread begin.Memory sink = adds_nothing sink.taken

pub not_written : (why : BeginRefusal) → status_without why ≡ WriteFault → ⊥
not_written (begin.Truncated offset) e = cc e
not_written begin.Magic e = cc e
not_written begin.Major e = cc e
not_written begin.LinkType e = cc e
not_written begin.ReadFault e = cc e
not_written begin.Memory e = cc e

-- a read fault is the reader's
pub fault_unread : (why : BeginRefusal) → status_without why ≡ ReadFault → why ≡ begin.ReadFault
fault_unread (begin.Truncated offset) e = absurd (cc e)
fault_unread begin.Magic e = absurd (cc e)
fault_unread begin.Major e = absurd (cc e)
fault_unread begin.LinkType e = absurd (cc e)
fault_unread begin.ReadFault e = refl
fault_unread begin.Memory e = absurd (cc e)

-- a capture that was read, and what was printed of it
pub says_read : (vip : ℕ × ℕ) (servers : ℕ) (xs : List ℕ) (source : SourceKnown) (before after : SinkKnown) (status : Status) (captured : Captured Packet) (records : Records) → 1 ≤ servers
    → capture_of xs ≡ Ok records → Keeps (λ packet ms. packet) (vip ∷ []) records source.left captured
    → EndsPrinting status captured.ending (one_text servers captured.skips.items captured.packets.items) before after → OneSays status vip servers xs source before after
unfolding refusal_of printed
says_read vip servers xs source before after status captured records some taken keeps ends = by_status status ends
  where
    refusal : refusal_of xs ≡ captured.ending
    refusal = ap refusal_in taken ∙ sym keeps.ending

    text : one_text servers captured.skips.items captured.packets.items ≡ printed vip servers xs
    text =
        ap (λ k. one_text servers k captured.packets.items) keeps.skips
        ∙ ap (λ k. one_text servers (one_skips vip records) k) keeps.packets
        ∙ sym (ap (λ r. printed_in r vip servers) taken)

    lawful : PrintsLawful vip servers xs
    lawful = prints_lawful vip servers xs records some taken

    by_status : (status : Status) → EndsPrinting status captured.ending (one_text servers captured.skips.items captured.packets.items) before after → OneSays status vip servers xs source before after
    by_status Done ends = (refusal ∙ ends.0, keeps.all ends.0, subst (λ t. Adds before.taken after.taken t) text ends.1.taken, lawful)
    by_status (Capture why) ends = (refusal ∙ ends.0, subst (λ t. Adds before.taken after.taken t) text ends.1.taken, inr lawful)
    by_status WriteFault ends = ((λ none. keeps.all (sym refusal ∙ none)), (subst (λ t. Writes put.Failed before after t) text ends).taken, lawful)
    by_status Usage ends = absurd ends
    by_status (Script refusal) ends = absurd ends
    by_status ReadFault ends = absurd ends
    by_status Memory ends = absurd ends
    by_status (Waiting key) ends = absurd ends
    by_status (Breach line what) ends = absurd ends

-- printing ends in a status of the command, and tells the sink's faults
pub ends_printing : (status : Status) (ending : Option CaptureRefusal) (text : List ℕ) (before after : SinkKnown) → EndsPrinting status ending text before after → EndsOne status
ends_printing Done ending text before after ends = tt
ends_printing (Capture why) ending text before after ends = tt
ends_printing WriteFault ending text before after ends = tt
ends_printing Usage ending text before after ends = absurd ends
ends_printing (Script refusal) ending text before after ends = absurd ends
ends_printing ReadFault ending text before after ends = absurd ends
ends_printing Memory ending text before after ends = absurd ends
ends_printing (Waiting key) ending text before after ends = absurd ends
ends_printing (Breach line what) ending text before after ends = absurd ends

pub quiet_printing : (status : Status) (ending : Option CaptureRefusal) (text : List ℕ) (before after : SinkKnown) → EndsPrinting status ending text before after → WritesNothing status before after
quiet_printing Done ending text before after ends = tt
quiet_printing (Capture why) ending text before after ends = tt
quiet_printing WriteFault ending text before after ends = tt
quiet_printing Usage ending text before after ends = absurd ends
quiet_printing (Script refusal) ending text before after ends = absurd ends
quiet_printing ReadFault ending text before after ends = absurd ends
quiet_printing Memory ending text before after ends = absurd ends
quiet_printing (Waiting key) ending text before after ends = absurd ends
quiet_printing (Breach line what) ending text before after ends = absurd ends

pub counts_printing : (status : Status) (ending : Option CaptureRefusal) (text : List ℕ) (before after : SinkKnown) → EndsPrinting status ending text before after
    → Counts (status ≡ WriteFault) before.faults after.faults
counts_printing Done ending text before after ends = counts_as (λ f. cc) (λ f. cc) ends.1.faults
counts_printing (Capture why) ending text before after ends = counts_as (λ f. cc) (λ f. cc) ends.1.faults
counts_printing WriteFault ending text before after ends = counts_as (λ f. refl) (λ f. refl) ends.faults
counts_printing Usage ending text before after ends = absurd ends
counts_printing (Script refusal) ending text before after ends = absurd ends
counts_printing ReadFault ending text before after ends = absurd ends
counts_printing Memory ending text before after ends = absurd ends
counts_printing (Waiting key) ending text before after ends = absurd ends
counts_printing (Breach line what) ending text before after ends = absurd ends

-- a read fault has nothing to do with printing
pub printing_no_fault : (status : Status) (ending : Option CaptureRefusal) (text : List ℕ) (before after : SinkKnown) → EndsPrinting status ending text before after → status ≡ ReadFault → ⊥
printing_no_fault Done ending text before after ends e = cc
printing_no_fault (Capture why) ending text before after ends e = cc
printing_no_fault WriteFault ending text before after ends e = cc
printing_no_fault Usage ending text before after ends e = absurd ends
printing_no_fault (Script refusal) ending text before after ends e = absurd ends
printing_no_fault ReadFault ending text before after ends e = absurd ends
printing_no_fault Memory ending text before after ends e = absurd ends
printing_no_fault (Waiting key) ending text before after ends e = absurd ends
printing_no_fault (Breach line what) ending text before after ends e = absurd ends
