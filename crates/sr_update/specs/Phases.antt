-- An update: which number it gives, which one it replaces, and how far it has come.
use Rattle.sr_base.specs.declared.vip_word.Phase.{Phase}
use Rattle.sr_update.specs.declared.update.Update.{Update}

-- an update in a phase
pub record InPhase : Type 0 where
  pub phase : Phase
  pub update : Update
