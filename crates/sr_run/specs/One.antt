-- What the command `one` does: one pipe, one pool, every packet sent to the server that its key's hash picks.
use Rattle.std.specs.Prelude.{◌≡◌, ◌⊎◌, ℕ, ◌+◌, List, [], ◌∷◌, Option, Some, None, Result, Ok, Err, IsErr}
use Rattle.std.specs.List.{range_with_len}
use Rattle.std.specs.Option.{ForSome}
use Rattle.sr_base.specs.declared.packet.Packet.{Packet}
use Rattle.sr_base.specs.declared.shape.Shape.{Shape}
use Rattle.sr_capture.specs.Capture.{capture_of}
use Rattle.sr_capture.specs.Packets.{kept_in, skips_in}
use Rattle.sr_capture.specs.Records.{Records}
use Rattle.sr_frame.specs.declared.skip.Skip.{Skip}
use Rattle.sr_hash.specs.Uses.{selected}
use Rattle.sr_io.specs.Faults.{Counts}
use Rattle.sr_io.specs.Sink.{SinkKnown, Adds, AddsFront}
use Rattle.sr_io.specs.Source.{SourceKnown}
use Rattle.sr_law.specs.declared.line.Line.{Line}
use Rattle.sr_law.specs.declared.line.Line.TheVariants as lines
use Rattle.sr_law.specs.declared.verdict.Verdict.TheVariants.{To}
use Rattle.sr_law.specs.Pools.{VipPools}
use Rattle.sr_law.specs.Setup.{SetupView}
use Rattle.sr_pcap.specs.declared.begin_refusal.BeginRefusal.{BeginRefusal}
use Rattle.sr_capture.specs.declared.capture_refusal.CaptureRefusal.{CaptureRefusal}
use Rattle.sr_run.specs.declared.status.Status.{Status}
use Rattle.sr_run.specs.declared.status.Status.TheVariants.{Done, Capture, ReadFault, WriteFault, Memory}
use Rattle.sr_run.specs.Capture.{header_refusal}
use Rattle.sr_run.specs.LawfulLog.{IsLawfulLog}
use Rattle.sr_run.specs.Outside.{Outside}
use Rattle.sr_script.specs.Spelled.{default_shape}
use Rattle.sr_text.specs.LineText.{log_text}

-- the pools: the one virtual address has one pool, of all the servers in their order
abbrev pub one_pools : ℕ → List VipPools
one_pools servers = record { first = range_with_len 0 servers; given = [] } ∷ []

-- the shape: that of a script which says nothing, with one pipe, and with pools as large as they may be
abbrev pub one_shape : Shape
one_shape = record default_shape { pipes = 1; pool_max = 255 }

-- what its lines are judged for: this shape, so many servers, their one pool, and the packets of the capture
abbrev pub one_setup : ℕ → List Packet → SetupView
one_setup servers packets = record { shape = one_shape; servers = servers; pools = one_pools servers; packets = packets }

-- the opening line: version 0 of the virtual address is its pool 1
abbrev pub opening_line : Line
opening_line = lines.Given 1 0 0 1

-- the line of a packet that entered at this tick, of so many servers
abbrev pub packet_line : ℕ → ℕ → Packet → Line
packet_line servers tick packet =
    lines.Packet packet.number tick (tick + 1) 0 packet.key packet.kind (To (selected servers packet.key) 0 1)

-- the lines of packets, the first of which entered at this tick: two ticks for each
abbrev pub packet_lines : ℕ → ℕ → List Packet → List Line
packet_lines servers tick [] = []
packet_lines servers tick (packet ∷ packets) = packet_line servers tick packet ∷ packet_lines servers (tick + 2) packets

-- all the lines
abbrev pub one_lines : ℕ → List Packet → List Line
one_lines servers packets = opening_line ∷ packet_lines servers 2 packets

-- the text of the skipped records and the lines
unfoldable pub one_text : ℕ → List (ℕ × Skip) → List Packet → List ℕ
one_text servers skips packets = log_text skips (one_lines servers packets)

-- the packets and the skipped records of a capture
abbrev pub one_packets : ℕ × ℕ → Records → List Packet
one_packets vip records = kept_in (λ packet ms. packet) (vip ∷ []) records.frames

abbrev pub one_skips : ℕ × ℕ → Records → List (ℕ × Skip)
one_skips vip records = skips_in (vip ∷ []) records.frames

-- the refusal of a capture with these records, if it is refused
abbrev pub refusal_in : Result Records BeginRefusal → Option CaptureRefusal
refusal_in (Ok records) = records.ending
refusal_in (Err why) = Some (header_refusal why)

-- what is printed of a capture with these records
abbrev pub printed_in : Result Records BeginRefusal → ℕ × ℕ → ℕ → List ℕ
printed_in (Ok records) vip servers = one_text servers (one_skips vip records) (one_packets vip records)
printed_in (Err why) vip servers = []

-- why these bytes are refused, if they are
unfoldable pub refusal_of : List ℕ → Option CaptureRefusal
refusal_of bytes = refusal_in (capture_of bytes)

-- what `one` prints of these bytes: of a capture that is refused in a record the whole records before it
unfoldable pub printed : ℕ × ℕ → ℕ → List ℕ → List ℕ
printed vip servers bytes = printed_in (capture_of bytes) vip servers

-- What `one` prints of these bytes, of a capture whose header isn't refused, is the text of the skipped records and of lines that are lawful for its
-- setup.
abbrev pub PrintsLawful : ℕ × ℕ → ℕ → List ℕ → Type 0
PrintsLawful vip servers bytes =
    (records : Records) × (capture_of bytes ≡ Ok records)
    × IsLawfulLog (one_setup servers (one_packets vip records)) (one_skips vip records) (printed vip servers bytes)

-- the statuses with which `one` ends: it reads a capture, and knows neither scripts nor rules of lines
abbrev pub EndsOne : Status → Type 0
EndsOne Done = Unit {0}
EndsOne (Capture why) = Unit {0}
EndsOne ReadFault = Unit {0}
EndsOne WriteFault = Unit {0}
EndsOne Memory = Unit {0}
EndsOne status = ⊥

-- What each status says of `one` over these bytes, of what the source has left of them, and of what the sink took.
abbrev pub OneSays : Status → ℕ × ℕ → ℕ → List ℕ → SourceKnown → SinkKnown → SinkKnown → Type 0
OneSays Done vip servers bytes source before after =
    (refusal_of bytes ≡ None) × (source.left ≡ Some []) × Adds before.taken after.taken (printed vip servers bytes) × PrintsLawful vip servers bytes
OneSays (Capture why) vip servers bytes source before after =
    (refusal_of bytes ≡ Some why) × Adds before.taken after.taken (printed vip servers bytes) × (IsErr (capture_of bytes) ⊎ PrintsLawful vip servers bytes)
OneSays ReadFault vip servers bytes source before after = Adds before.taken after.taken []
OneSays WriteFault vip servers bytes source before after =
    (refusal_of bytes ≡ None → source.left ≡ Some []) × AddsFront before.taken after.taken (printed vip servers bytes) × PrintsLawful vip servers bytes
OneSays Memory vip servers bytes source before after = Adds before.taken after.taken []
OneSays status vip servers bytes source before after = ⊥

-- What a run of `one` comes to: its statuses, for every source; what they say, where the source tells its bytes; and that a read fault is one of
-- the source.
pub record RunsOne (vip : ℕ × ℕ) (servers : ℕ) (status : Status) (before after : Outside) : Type 0 where
  pub ends : EndsOne status
  pub says : ForSome before.source.left (λ bytes. OneSays status vip servers bytes after.source before.sink after.sink)
  pub read_fault : Counts (status ≡ ReadFault) before.source.faults after.source.faults
