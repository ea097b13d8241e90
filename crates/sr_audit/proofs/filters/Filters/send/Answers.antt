use Rattle.std.proofs.Common.{◌≡◌, ◌==◌, rules, cond, Some, None, not, sym, ap, subst, ◌∙◌}
use Rattle.std.specs.BTreeMap.{get, is_at}
use Rattle.std.specs.Option.{option_copied_mut}
use Rattle.std.specs.Ordering.{nat_cmp}
use Rattle.sr_audit.specs.Filters.{MayHaveSet, Sends}
use Rattle.sr_audit.proofs.Filtering.{sends_found, sends_own, sends_none}
use Rattle.sr_audit.proofs.filters.Filters.send.Goals as goal

pub returns-in_ok-set : goal.returns-in_ok-set
returns-in_ok-set c vip =
    let map = c.args.self.now.map in
    let f = c.in-Some.filter.now in
    let after = c.get_mut.follows.lender c.set.new.self in
    let own : c.key.inside.vip ≡ c.args.key.vip = ap (λ k. k.vip) c.key.view_is in
    let found : get nat_cmp map c.key.inside.vip ≡ Some f = sym c.get_mut.ensures.value ∙ ap option_copied_mut c.in-Some.is in
    sends_found c.args.bits c.args.key c.args.pool (get nat_cmp map) (get nat_cmp after) f c.set.new.self vip
    (subst (λ v. get nat_cmp map v ≡ Some f) own found)
    (subst (λ v. get nat_cmp after vip ≡ cond (is_at (nat_cmp v) vip) (Some c.set.new.self) (get nat_cmp map vip)) own
    (((c.get_mut.follows.holds c.set.new.self).3 (search rules)).0 vip))
    (subst (λ b. MayHaveSet c.args.bits c.args.key (not b) f c.set.new.self) (sym (sym c.has_pool.ensures ∙ c.if-not-has_pool.true)) c.in_ok-set.ensures)

pub returns-else-not-has_pool : goal.returns-else-not-has_pool
returns-else-not-has_pool c vip =
    let map = c.args.self.now.map in
    let f = c.in-Some.filter.now in
    let after = c.get_mut.follows.lender f in
    let own : c.key.inside.vip ≡ c.args.key.vip = ap (λ k. k.vip) c.key.view_is in
    let found : get nat_cmp map c.key.inside.vip ≡ Some f = sym c.get_mut.ensures.value ∙ ap option_copied_mut c.in-Some.is in
    sends_own c.args.bits c.args.key c.args.pool (get nat_cmp map) (get nat_cmp after) f vip
    (subst (λ v. get nat_cmp map v ≡ Some f) own found)
    (subst (λ v. get nat_cmp after vip ≡ cond (is_at (nat_cmp v) vip) (Some f) (get nat_cmp map vip)) own
    (((c.get_mut.follows.holds f).3 (search rules)).0 vip))
    (sym c.has_pool.ensures ∙ c.if-not-has_pool.false)

pub returns-in_default : goal.returns-in_default
returns-in_default c vip =
    let map = c.args.self.now.map in
    let own : c.key.inside.vip ≡ c.args.key.vip = ap (λ k. k.vip) c.key.view_is in
    let none : get nat_cmp map c.key.inside.vip ≡ None = sym c.get_mut.ensures.value ∙ ap option_copied_mut c.in_default.is in
    subst (λ m. Sends c.args.bits c.args.key c.args.pool (c.args.key.vip == vip) (get nat_cmp map vip) (get nat_cmp m vip)) (sym c.get_mut.follows.holds-at-none)
    (sends_none c.args.bits c.args.key c.args.pool (get nat_cmp map) vip (subst (λ v. get nat_cmp map v ≡ None) own none))
