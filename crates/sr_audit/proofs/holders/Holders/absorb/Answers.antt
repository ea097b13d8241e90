use Rattle.std.proofs.Common.{◌≡◌, ℕ, true, false, not, ◌∷◌, Some, None, ap, sym, ◌∙◌, subst}
use Rattle.std.specs.BTreeMap.{is_at}
use Rattle.std.specs.BTreeSet.{contains}
use Rattle.std.specs.Bool.{if◌then◌else◌}
use Rattle.std.specs.Prelude.{is_some}
use Rattle.std.proofs.lemmas.Option.{same_Some}
use Rattle.sr_law.specs.declared.line.Line.TheVariants.{Retired}
use Rattle.sr_law.specs.Number.{opened_with}
use Rattle.sr_law.specs.Opening.{opening}
use Rattle.sr_law.specs.Ticks.{key_of}
use Rattle.sr_audit.specs.Holders.{holder_cmp}
use Rattle.sr_audit.proofs.HeldOpen.{retired_more, opened_more, unheld}
use Rattle.sr_audit.proofs.holders.Holders.absorb.Goals as goal

pub returns-in-Some-opening : goal.returns-in-Some-opening
returns-in-Some-opening c before connected tells k version =
    let key = c.in-Some.key in
    let own : c.in-Retired.key ≡ key = same_Some c.in-Retired.key key (sym (ap key_of c.in-Retired.is) ∙ sym c.key.ensures ∙ c.in-Some.is) in
    let opens : opening before key ≡ Some c.in-Some-opening.opening = sym (c.opening.ensures before connected) ∙ c.in-Some-opening.is in
    let line : c.args.line.now ≡ Retired c.in-Retired.out key = c.in-Retired.is ∙ ap (Retired c.in-Retired.out) own in
    retired_more (λ q. contains holder_cmp c.args.self.now.set q) (λ q. contains holder_cmp c.remove.new.self q) before key c.in-Some-opening.opening tells c.in-Retired.out opens
    (subst (λ h. (q : ℕ × ℕ × ℕ × ℕ) → contains holder_cmp c.remove.new.self q ≡ if is_at (holder_cmp h) q then false else contains holder_cmp c.args.self.now.set q) c.holder.ensures c.remove.ensures.updates.0) k version
    ∙ sym (ap (λ l. opened_with version (opening (l ∷ before) k)) line)

pub returns-in_ok-insert : goal.returns-in_ok-insert
returns-in_ok-insert c before connected tells k version =
    let key = c.in-Some.key in
    let closed : opening before key ≡ None = unheld (opening before key) (sym (ap is_some (c.opening-in_default-line.ensures before connected)) ∙ c.is_none.ensures ∙ ap not c.if-is_none.true) in
    opened_more (λ q. contains holder_cmp c.args.self.now.set q) (λ q. contains holder_cmp c.insert.new.self q) before key c.in-Some-opened_by.opening tells c.args.line.now closed
    (sym c.opened_by.ensures ∙ c.in-Some-opened_by.is)
    (subst (λ h. (q : ℕ × ℕ × ℕ × ℕ) → contains holder_cmp c.insert.new.self q ≡ if is_at (holder_cmp h) q then true else contains holder_cmp c.args.self.now.set q) c.holder-in-Some-opened_by.ensures c.in_ok-insert.ensures.updates.0) k version
