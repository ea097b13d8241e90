-- What an auditor knows of the lines so far.
use Rattle.std.specs.Prelude.{◌≡◌, List, None, length}
use Rattle.sr_law.specs.declared.line.Line.{Line}
use Rattle.sr_law.specs.Lawful.{first_broken}
use Rattle.sr_law.specs.Retire.{EndingPacket}
use Rattle.sr_law.specs.Setup.{SetupView}
use Rattle.sr_audit.specs.declared.audit.Audit.{Audit}
use Rattle.sr_audit.specs.Connections.{TellsConnections}
use Rattle.sr_audit.specs.Downs.{TellsDowns}
use Rattle.sr_audit.specs.Filters.{TellsFilters}
use Rattle.sr_audit.specs.Greatest.{TellsGreatest, TellsRefused}
use Rattle.sr_audit.specs.Holders.{TellsHolders}
use Rattle.sr_audit.specs.Holds.{TellsHolds}
use Rattle.sr_audit.specs.LastGivings.{TellsGivings}
use Rattle.sr_audit.specs.LastSweep.{TellsSweep}
use Rattle.sr_audit.specs.LastTicks.{TellsPlaced, TellsRetired}
use Rattle.sr_audit.specs.LastUpdate.{TellsUpdate}
use Rattle.sr_audit.specs.LiveRows.{TellsRows}
use Rattle.sr_audit.specs.Numbered.{TellsSweeps}
use Rattle.sr_audit.specs.Places.{TellsPlaces}
use Rattle.sr_audit.specs.Rings.{TellsRings}
use Rattle.sr_audit.specs.Switches.{TellsSwitches}
use Rattle.sr_audit.specs.Used.{TellsUsed}
use Rattle.sr_audit.specs.Versions.{TellsVersions}

-- no line of these, the newest first, breaks a clause by the lines before it
abbrev pub IsLawfulSoFar : SetupView → List EndingPacket → List Line → Type 0
IsLawfulSoFar setup endings before = first_broken setup endings before ≡ None

-- each index is that of these lines
pub record Tells (setup : SetupView) (audit : Audit) (before : List Line) : Type 0 where
  pub vips : audit.update.vips ≡ length setup.pools
  pub update : TellsUpdate audit.update before
  pub givings : TellsGivings audit.givings before
  pub versions : TellsVersions audit.versions before
  pub switches : TellsSwitches audit.switches before
  pub connections : TellsConnections audit.connections before
  pub holders : TellsHolders audit.holders before
  pub downs : TellsDowns audit.downs before
  pub filters : TellsFilters setup.shape.filter_bits audit.filters before
  pub holds : TellsHolds audit.holds before
  pub places : TellsPlaces audit.places before
  pub rings : TellsRings audit.rings before
  pub given : TellsGreatest audit.given before
  pub refused : TellsRefused audit.refused before
  pub rows : TellsRows audit.rows before
  pub sweep : TellsSweep audit.sweep before
  pub sweeps : TellsSweeps audit.sweeps before
  pub placed : TellsPlaced audit.placed before
  pub retired : TellsRetired audit.retired before
  pub used : TellsUsed audit.used before
