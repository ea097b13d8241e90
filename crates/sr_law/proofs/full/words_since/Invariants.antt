use Rattle.std.proofs.Common.{◌≡◌, reverse, take, ◌≤◌}
use Rattle.sr_law.specs.Full.{words_since}
use Rattle.sr_law.proofs.full.words_since.Given as goal

abbrev pub invariant-loop-i : goal.invariant-loop-i
invariant-loop-i l = (l.words ≡ words_since (reverse l.all) l.pipe l.tick (reverse (take l.i l.all))) × (l.words ≤ l.i)
