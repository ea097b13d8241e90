use Rattle.std.proofs.Common.{◌≡◌, Some, Err, ap, ◌∙◌, arith}
use Rattle.sr_demo.proofs.Reading.{made_read, not_unread}
use Rattle.sr_gen.specs.Capture.{capture_of}
use Rattle.sr_demo.proofs.capture.read_made.Goals as goal

pub returns-in-Ok : goal.returns-in-Ok
returns-in-Ok c =
    let bytes : c.new-source.result.left ≡ capture_of c.args.number c.args.packets = ap (λ s. s.left) c.new-source.ensures ∙ c.in_ok-bytes.ensures in
    made_read c.args.number c.args.packets c.args.vips.now c.in-Ok.captured (Some c.read_capture.new.source.left) c.requires.packets.1
    (c.in-Ok.ensures.capture (capture_of c.args.number c.args.packets) (ap Some bytes))

-- the source never fails, and the header of such a capture isn't refused
pub unreachable-requires : goal.unreachable-requires
unreachable-requires c =
    let bytes : c.new-source.result.left ≡ capture_of c.args.number c.args.packets = ap (λ s. s.left) c.new-source.ensures ∙ c.in_ok-bytes.ensures in
    not_unread c.args.number c.args.packets c.args.vips.now c.in-Err.why (Some c.read_capture.new.source.left) c.requires.packets.1
    (λ e. let rose = c.in-Err.ensures.faults.rose (ap Err e) in absurd (omega (arith, rose)))
    c.in_default.not-Memory
    (c.in-Err.ensures.capture (capture_of c.args.number c.args.packets) (ap Some bytes))
