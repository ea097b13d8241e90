use Rattle.std.proofs.Common.{◌≡◌, ◌≤◌, ◌∙◌, ◌∷◌, ◌-◌, length, replicate, ap, sym, subst, arith}
use Rattle.std.specs.List.{AllByRecursion}
use Rattle.std.proofs.lemmas.List.{length-replicate}
use Rattle.sr_machine.specs.Reads.{steady}
use Rattle.sr_update.specs.Numbers.{opening_row}
use Rattle.sr_update.specs.declared.number_state.NumberState.TheVariants.{Current, Free}
use Rattle.sr_acts.specs.Versions.{FitsVip, HasRows}
use Rattle.sr_acts.proofs.Rows.{all_replicate, filled, row_length, rows_replicated, steady_fits}
use Rattle.sr_acts.proofs.versions.Versions.new.Goals as goal

pub invariant_of-result : goal.invariant_of-result
invariant_of-result c =
    let l = c.args.layout.now in
    let some : 1 ≤ l.shape.versions = omega (arith, c.layout_ranges.ensures.versions.0) in
    let low : c.loop-vip._vip ≤ l.vips = omega (arith, c.loop-vip.auto._vip-end, c.vips-vip-end.ensures) in
    let high : l.vips ≤ c.loop-vip._vip = omega (arith, c.loop-vip-test.false, c.vips-vip-end.ensures) in
    let vips : c.loop-vip.vips.items ≡ replicate l.vips (steady 0) = filled _ c.loop-vip._vip l.vips (steady 0) c.loop-vip.invariant.1 low high in (
      subst (HasRows l) (sym c.in_ok-new.ensures) (rows_replicated l (opening_row l.shape.versions) (row_length l.shape.versions Current Free some)),
      subst (HasRows l) (sym (filled _ c.loop-vip._vip l.vips _ c.loop-vip.invariant.0 low high)) (rows_replicated l (1 ∷ replicate (l.shape.versions - 1) 0) (row_length l.shape.versions 1 0 some)),
      ap length vips ∙ length-replicate l.vips (steady 0),
      subst (AllByRecursion (FitsVip l)) (sym vips) (all_replicate (FitsVip l) l.vips (steady 0) (steady_fits l c.layout_ranges.ensures)),
    )
