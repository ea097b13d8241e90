use Rattle.std.proofs.Common.{◌≡◌, ◌+◌, ◌∙◌, ◌++◌, ◌∷◌, [], List, map, ap, sym, arith}
use Rattle.std.specs.List.{range_with_len}
use Rattle.std.proofs.lemmas.List.FromFn.{map-range_with_len_more}
use Rattle.sr_law.specs.declared.line.Line.{Line}
use Rattle.sr_machine.specs.Opening.{opening_line}
use Rattle.sr_acts.proofs.controller_machine.opening_lines.Goals as goal

pub loop-vip-preserved : goal.loop-vip-preserved
loop-vip-preserved c =
    let e : 0 + c.loop-vip.vip ≡ c.loop-vip.vip = omega arith in
    c.push.ensures.lines ∙ ap (λ (xs : List Line). xs ++ c.opening_line.result ∷ []) (c.in_ok-reserve.ensures.lines ∙ c.loop-vip.invariant)
    ∙ ap (λ (x : Line). map opening_line (range_with_len 0 c.loop-vip.vip) ++ x ∷ []) c.opening_line.ensures ∙ sym (map-range_with_len_more opening_line 0 c.loop-vip.vip c.loop-vip.vip e)
