use Rattle.std.proofs.Common.{◌≡◌, length, take, replicate, ap, ◌∙◌, ◌-◌, ◌++◌, arith}
use Rattle.sr_marks.proofs.Bits.{bits_in-grown}
use Rattle.sr_marks.proofs.flags.Flags.grown.Goals as goal

pub returns : goal.returns
returns c =
    let made = c.in_ok-grown.ensures.items in
    let copied : c.extend_from_slice.new.self.items ≡ c.self.inside.words.items = c.in_ok-extend_from_slice.ensures.items ∙ (ap (λ ws. ws ++ c.as_slice.result.now) made ∙ c.as_slice.ensures.value) in
    let long = ap length copied in
    bits_in-grown c.self.inside.words.items c.resize.new.self.items c.args.self.now c.args.words c.extend_from_slice.new.self.len c.self.view_is c.requires.more (omega arith)
    (c.in_ok-resize.ensures.items ∙ ap (λ ws. take c.args.words ws ++ replicate (c.args.words - c.extend_from_slice.new.self.len) 0) copied)
