use Rattle.std.proofs.Common.{◌≡◌, Bool, true, false, Some, None, if◌then◌else◌, subst}
use Rattle.std.proofs.lemmas.Option.{same_Some}
use Rattle.sr_machine.specs.Telling.{is_no_earlier, may_refuse}
use Rattle.sr_machine.specs.declared.controller_view.ControllerView.{ControllerView}
use Rattle.sr_standing.proofs.StandingKept.{after_stands, begun_stands, opening_stands, set_stands}
use Rattle.sr_standing.proofs.StandingTakes.{drain_stands, look_stands}
use Rattle.sr_standing.specs.Standing.{Stands}
use Rattle.sr_standing.proofs.laws.standings_are_kept.Goals as goal

-- what was told changes neither the book nor the job
told : (b : Bool) (c d e : ControllerView) → (if b then Some e else None) ≡ Some d → Stands e → Stands d
told true c d e q h = subst Stands (same_Some e d q) h
told false c d e q h = cc

pub returns-clause-opening : goal.returns-clause-opening
returns-clause-opening c = opening_stands

pub returns-clause-begun : goal.returns-clause-begun
returns-clause-begun c = begun_stands

pub returns-clause-step : goal.returns-clause-step
returns-clause-step c = after_stands

pub returns-clause-set : goal.returns-clause-set
returns-clause-set c = set_stands

pub returns-clause-drained : goal.returns-clause-drained
returns-clause-drained c = λ k v pipe count x w h. drain_stands k v x pipe count w h

pub returns-clause-looked : goal.returns-clause-looked
returns-clause-looked c = λ k v pipe at x h. look_stands k v x pipe at h

pub returns-clause-told_time : goal.returns-clause-told_time
returns-clause-told_time c = λ ms v d q h. told (is_no_earlier v.clock ms) v d (record v { clock = Some ms }) q h

pub returns-clause-told_to_refuse : goal.returns-clause-told_to_refuse
returns-clause-told_to_refuse c = λ v d q h. told (may_refuse v) v d (record v { refusing = true }) q h
