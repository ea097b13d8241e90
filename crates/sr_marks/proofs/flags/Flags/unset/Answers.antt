use Rattle.std.proofs.Common.{[], ◌≡◌, take, replicate, ap, refl, ◌∙◌, ◌-◌, ◌*◌, ◌++◌, false, arith}
use Rattle.sr_marks.proofs.Bits.{bits_in-none, bits_in-grown}
use Rattle.sr_marks.proofs.flags.Flags.unset.Goals as goal

pub returns : goal.returns
returns c =
    let made = c.in_ok-unset.ensures.items in
    let none : c.in_ok-unset.unset.len ≡ 0 = omega (arith, c.in_ok-unset.ensures.len) in
    let all : 64 * c.args.words - 0 ≡ 64 * c.args.words = omega arith in
    bits_in-grown [] c.resize.new.self.items [] c.args.words 0 bits_in-none (omega arith) refl
    (c.in_ok-resize.ensures.items ∙ (ap (λ ws. take c.args.words ws ++ replicate (c.args.words - c.in_ok-unset.unset.len) 0) made ∙ ap (λ k. take c.args.words [] ++ replicate (c.args.words - k) 0) none))
    ∙ ap (λ k. replicate k false) all
