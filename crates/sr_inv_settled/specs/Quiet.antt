-- States in which nothing is left to do, however they came about: all is made, or an update waits for a key that has no place.
use Rattle.std.specs.Prelude.{◌≡◌, ℕ, false, List, Option, None, Some}
use Rattle.std.specs.List.{AllByRecursion}
use Rattle.sr_base.specs.Key.{KeyView}
use Rattle.sr_inv_final.specs.Rest.{AreEmpty, AreIdle}
use Rattle.sr_machine.specs.Begins.{NoAct}
use Rattle.sr_machine.specs.Core.{Core}
use Rattle.sr_machine.specs.Settling.{awaited}
use Rattle.sr_machine.specs.declared.job.Job.TheVariants.{Free}
use Rattle.sr_shadow.specs.declared.entry.Entry.{Entry}
use Rattle.sr_update.specs.Updates.{has_come}
use Rattle.sr_update.specs.declared.give_change.GiveChange.{GiveChange}

-- no packet is in hand, the cell of each ring that the controller would load next is empty, and the controller has no job and no act to begin
pub record HasNothingToDo (s : Core) : Type 0 where
  pub idle : AreIdle s
  pub empty : AreEmpty s
  pub free : s.controller.job ≡ Free
  pub none : NoAct s.config s.controller

-- none of these changes is due
abbrev pub AreLater : Option ℕ → List GiveChange → Type 0
AreLater clock gives = AllByRecursion (λ g. has_come g.at_ms clock ≡ false) gives

-- moreover no update is under way, and no change of a pool is due
pub record IsQuiet (s : Core) : Type 0 where
  pub nothing : HasNothingToDo s
  pub over : s.controller.update ≡ None
  pub later : AreLater s.controller.clock s.controller.gives

-- or else the update that is under way waits for this key
pub record IsWaiting (s : Core) (key : KeyView) : Type 0 where
  pub nothing : HasNothingToDo s
  pub entry : Entry
  pub awaits : awaited s.controller ≡ Some entry
  pub own : entry.key ≡ key
