-- The lines of a run over what is kept of a capture: lawful, settled, and with rare verdicts for their reasons alone.
use Rattle.std.proofs.Common.{map}
use Rattle.sr_law.proofs.Kept.{kept}
use Rattle.sr_law.proofs.Switches.{newer}
use Rattle.sr_law.specs.Lawful.{IsLawful}
use Rattle.sr_law_causes.proofs.Plainly.{final_lines, versions_free}
use Rattle.sr_played.proofs.Once.{played_once}
use Rattle.sr_played.proofs.Rarely.{none_held, places_found, room_found, switches_made}
use Rattle.sr_played.proofs.Taking.{takable}
use Rattle.sr_played.specs.Captured.{played_packets, setup_for}
use Rattle.sr_played.specs.Lines.{PlayedLinesHold}

pub played : PlayedLinesHold
played s bytes records lines awaited f taken lawful settled =
    let packets = played_packets s records in
    let seen = map (λ t. t.packet) packets in
    let h : IsLawful (setup_for s packets) lines = lawful (takable s bytes records f taken) in
    let final = final_lines (setup_for s packets) lines h in
    record {
      lawful = h;
      kept = kept _ _ lines h.0;
      newer = newer _ _ lines h.0;
      free = versions_free _ _ lines h.0;
      once = final.0 (played_once s records);
      answered = final.1;
      settled = settled;
      switches = switches_made s packets seen lines h awaited settled;
      rings = room_found s packets seen lines h;
      updates = none_held s packets seen lines h awaited settled;
      rows = places_found s packets seen lines h;
    }
