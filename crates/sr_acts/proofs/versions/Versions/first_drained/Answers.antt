use Rattle.std.proofs.Common.{◌<◌, subst, sym}
use Rattle.std.specs.Prelude.{IfSome}
use Rattle.sr_acts.proofs.Rows.{drained_version, drained_vip}
use Rattle.sr_acts.specs.Versions.{VersionsView}
use Rattle.sr_acts.proofs.versions.Versions.first_drained.Goals as goal

pub returns-clause-vip : goal.returns-clause-vip
returns-clause-vip c =
    let i = c.self.inside in
    subst (λ (v : VersionsView). IfSome c.first_drained.result (λ p. p.0 < v.layout.vips)) c.self.view_is
    (subst (λ o. IfSome o (λ p. p.0 < i.layout.vips)) (sym c.first_drained.ensures) (drained_vip i.layout i.numbers c.indexed.result.now.book.entries c.self.invariant.0))

pub returns-clause-version : goal.returns-clause-version
returns-clause-version c =
    let i = c.self.inside in
    subst (λ (v : VersionsView). IfSome c.first_drained.result (λ p. p.1 < v.layout.shape.versions)) c.self.view_is
    (subst (λ o. IfSome o (λ p. p.1 < i.layout.shape.versions)) (sym c.first_drained.ensures) (drained_version i.layout i.numbers c.indexed.result.now.book.entries c.self.invariant.0))
