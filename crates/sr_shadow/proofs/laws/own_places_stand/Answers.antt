use Rattle.sr_shadow.proofs.Gives.{own_stands}
use Rattle.sr_shadow.proofs.laws.own_places_stand.Goals as goal

pub returns : goal.returns
returns c = λ key place own.
    let h = c.layout_ranges.ensures in
    own_stands c.args.layout.now.shape key place h.buckets.0 h.full_rows.0 h.full_groups own
