-- Checks in their order.
use Rattle.std.specs.Prelude.{Bool, if◌then◌else◌}
use Rattle.sr_frame.specs.declared.skip.Skip.{Skip}
use Rattle.sr_frame.specs.declared.seen.Seen.{Seen}
use Rattle.sr_frame.specs.declared.seen.Seen.TheVariants.{Skipped}

-- where a check applies the frame is skipped for this reason, and else the next check is made
abbrev pub skip_if : Bool → Skip → Seen → Seen
skip_if applies why next = if applies then Skipped why else next
