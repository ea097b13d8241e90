use Rattle.std.specs.Io.KnownBytes.{Keeps}
use Rattle.sr_io.proofs.read_source.read_retried.Given as goal

-- the tries so far took nothing
abbrev pub invariant-loop : goal.invariant-loop
invariant-loop g l = Keeps (g.R.Read.remaining l.initial.reader) (g.R.Read.remaining l.reader)
