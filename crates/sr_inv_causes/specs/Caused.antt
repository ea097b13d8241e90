-- A part of the causes that stands alone.
use Rattle.std.specs.Prelude.{◌≡◌, true}
use Rattle.sr_inv_facts.specs.InCauses.{setup_of}
use Rattle.sr_inv_order.specs.Meeting.{EachLine}
use Rattle.sr_law.specs.Cause.{meets_cause}
use Rattle.sr_machine.specs.Core.{Core, printed}

-- each verdict that is printed has its cause in the lines before it
abbrev pub CausesTold : Core → Type 0
CausesTold s = EachLine (λ before l. meets_cause (setup_of s.config) before l ≡ true) (printed s)
