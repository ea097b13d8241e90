use Rattle.std.proofs.Common.{ap, sym, find, ◌∙◌}
use Rattle.sr_shadow.specs.Entry.{may_retire}
use Rattle.sr_shadow.proofs.roll.Roll.first_retirable.Goals as goal

pub returns-in-Some : goal.returns-in-Some
returns-in-Some c = c.entry_at.ensures ∙ sym (c.in-Some.ensures _ c.self.invariant.marked) ∙ ap (λ v. find (may_retire v.lives) v.entries) c.self.view_is

pub returns-in-None : goal.returns-in-None
returns-in-None c = sym (c.in-None.ensures _ c.self.invariant.marked) ∙ ap (λ v. find (may_retire v.lives) v.entries) c.self.view_is
