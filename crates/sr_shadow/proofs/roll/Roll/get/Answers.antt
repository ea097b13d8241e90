use Rattle.std.proofs.Common.{None, ap, sym, ◌∙◌, is_some, true≢false, unwrap_or}
use Rattle.sr_shadow.proofs.Slots.{found_at}
use Rattle.sr_shadow.proofs.roll.Roll.get.Goals as goal

pub returns-in-Some : goal.returns-in-Some
returns-in-Some c = λ front back e is told.
    let f = found_at 0 _ c.args.number _ front back e c.self.invariant.rising (ap (λ v. v.entries) c.self.view_is ∙ is) told in
    c.as_ref.ensures.value ∙ ap (λ o. unwrap_or o None) (c.in-Some.ensures.value ∙ f)

pub returns-in-None : goal.returns-in-None
returns-in-None c = λ front back e is told.
    let f = found_at 0 _ c.args.number _ front back e c.self.invariant.rising (ap (λ v. v.entries) c.self.view_is ∙ is) told in
    absurd (true≢false (sym (ap is_some (c.in-None.ensures.value ∙ f))))
