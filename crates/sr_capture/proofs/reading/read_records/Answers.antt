use Rattle.std.proofs.Common.{◌+◌, ℕ, List, length, ap, refl, ◌∙◌, arith}
use Rattle.sr_capture.specs.Capture.{most_records}
use Rattle.sr_capture.specs.Packets.{seen_in}
use Rattle.sr_capture.specs.Reader.{place_of}
use Rattle.sr_capture.specs.Records.{records_from}
use Rattle.sr_capture.proofs.Gathering.{reached_more, reached_over, reached_full}
use Rattle.sr_capture.proofs.reading.read_records.Goals as goal

pub loop-number-preserved : goal.loop-number-preserved
loop-number-preserved g c =
    let held = c.loop-number.invariant in
    let sees = c.see-seen.ensures ∙ ap (λ (bytes : List ℕ). seen_in c.in-Whole.link bytes c.args.vips.now) c.bytes.ensures in
    record {
      going = c.in-Whole.ensures.going;
      few = omega (arith, c.keep.ensures.few, held.few);
      still = c.in-Whole.ensures.faults.still (λ f. absurd (cc f)) ∙ held.still;
      reached = λ xs p.
          let so_far = held.reached xs p in
          let a = c.in-Whole.ensures.record so_far.bytes so_far.pending in
          reached_more g.T.Kept.kept c.args.vips.now (records_from most_records (place_of c.args.reader) xs) c.loop-number.clock c.see.new.self c.loop-number.number (place_of c.loop-number.reader) _ _ _
          c.loop-number.skips.items c.keep.new.skips.items c.loop-number.packets.items c.keep.new.packets.items c.next.new.self c.in-Whole.ms c.in-Whole.link c.in-Whole.offset c.time.result c.see-seen.result so_far
          c.loop-number-test.true a c.see.ensures c.time.ensures sees c.in_ok-keep-in-Whole.ensures.skips c.in_ok-keep-in-Whole.ensures.packets;
    }

pub returns-in-Over-clause-capture : goal.returns-in-Over-clause-capture
returns-in-Over-clause-capture g c = λ xs p.
    let so_far = c.loop-number.invariant.reached xs p in
    let a = c.in-Over.ensures.record so_far.bytes so_far.pending in
    reached_over g.T.Kept.kept c.args.vips.now (records_from most_records (place_of c.args.reader) xs) c.loop-number.clock c.loop-number.number (place_of c.loop-number.reader) _ _ _
    (record { skips = c.loop-number.skips; packets = c.loop-number.packets; ending = c.in-Over.ending }) c.next.new.self c.in-Over.ending so_far a refl

pub returns-clause-capture : goal.returns-clause-capture
returns-clause-capture g c = λ xs p.
    let so_far = c.loop-number.invariant.reached xs p in
    let a = c.next-2.ensures.record so_far.bytes so_far.pending in
    reached_full g.T.Kept.kept c.args.vips.now (records_from most_records (place_of c.args.reader) xs) c.loop-number.clock c.loop-number.number (place_of c.loop-number.reader) _ _ _
    (record { skips = c.loop-number.skips; packets = c.loop-number.packets; ending = c.in_ok-ending.ending }) c.next-2.new.self c.next-2.result so_far c.loop-number-test.false a c.in_ok-ending.ensures
