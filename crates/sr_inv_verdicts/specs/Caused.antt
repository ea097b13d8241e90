-- Parts of the causes that stand alone: packets in flight, servers that are being taken down, and the reports of pipes.
use Rattle.std.specs.Prelude.{◌≡◌, ℕ, false, reverse}
use Rattle.sr_inv_facts.specs.Flying.{OnLeg}
use Rattle.sr_inv_facts.specs.InCauses.{LegCaused, OnDowning, told_reports}
use Rattle.sr_inv_facts.specs.InHeld.{reports_in}
use Rattle.sr_inv_facts.specs.Readings.{EachPipe}
use Rattle.sr_law.specs.TakenDown.{is_known_down}
use Rattle.sr_machine.specs.Core.{Core, printed}

-- a packet in flight has a cause for what became of it that its line may tell
abbrev pub FlightsCaused : Core → Type 0
FlightsCaused s = EachPipe (λ p v. OnLeg v.stage (LegCaused s.config.layout.shape (printed s) p)) s.pipes

-- no packet can know of a server that is just being taken down
abbrev pub DowningUnknown : Core → Type 0
DowningUnknown s = OnDowning s.controller.job (λ server. (tick : ℕ) → is_known_down (printed s) server tick ≡ false)

-- the lines tell of each pipe's reports in their order
abbrev pub ReportsTold : Core → Type 0
ReportsTold s = EachPipe (λ p v. told_reports p (printed s) ≡ reverse (reports_in v.lines)) s.pipes
