use Rattle.std.proofs.Common.{◌≡◌, ◌==◌, length}
use denote.Text.{Utf8}
use denote.Shadow.{shadow}
use Rattle.std.specs.List.{slice_split}
use Rattle.sr_run.specs.Servers.{addresses_of}
use Rattle.sr_run.proofs.AddressLists.{prefixed}
use Rattle.sr_run.proofs.servers.addresses.Given as goal

-- the addresses so far and those of the rest are those of the word
abbrev pub invariant-loop-front : goal.invariant-loop-front
invariant-loop-front l = shadow (Utf8 l.rest) × (prefixed l.known.items (addresses_of (slice_split (λ b. b == 44) l.rest)) ≡ addresses_of (slice_split (λ b. b == 44) l.word))

abbrev pub decreases-loop-front : goal.decreases-loop-front
decreases-loop-front l = length l.rest
