-- What is kept of a capture for a script, and what the lines of its run are judged by.
use Rattle.std.specs.Prelude.{ℕ, List, [], length, map, None, Option}
use Rattle.sr_base.specs.declared.packet.Packet.{Packet}
use Rattle.sr_capture.specs.Packets.{kept_in, skips_in}
use Rattle.sr_capture.specs.Records.{Records}
use Rattle.sr_frame.specs.declared.skip.Skip.{Skip}
use Rattle.sr_inv_ends.specs.Laws.{clock_after}
use Rattle.sr_law.specs.Pools.{pools_from}
use Rattle.sr_law.specs.Setup.{SetupView}
use Rattle.sr_rounds.specs.Rounds.{rounds_of}
use Rattle.sr_rounds.specs.declared.timed.Timed.{Timed}
use Rattle.sr_script.specs.Spelled.{Spelled}

-- a packet is kept with its time
abbrev pub timed : Packet → ℕ → Timed
timed packet ms = record { packet = packet; ms = ms }

-- the packets to a script's virtual addresses, and the skipped records, of a capture
abbrev pub played_packets : Spelled → Records → List Timed
played_packets s records = kept_in timed s.vips records.frames

abbrev pub played_skips : Spelled → Records → List (ℕ × Skip)
played_skips s records = skips_in s.vips records.frames

-- a script's shape, servers and pools
abbrev pub script_setup : Spelled → SetupView
script_setup s = record { shape = s.shape; servers = length s.servers; pools = pools_from 0 s.first s.changes; packets = [] }

-- what the lines of a run over these packets are judged by: the script's shape, servers and pools, and the packets
abbrev pub setup_for : Spelled → List Timed → SetupView
setup_for s packets = record (script_setup s) { packets = map (λ t. t.packet) packets }

-- the time at which the last round of these packets begins; none where there are no packets
abbrev pub last_time : Spelled → List Timed → Option ℕ
last_time s packets = clock_after None (rounds_of s.shape.window_ms packets)
