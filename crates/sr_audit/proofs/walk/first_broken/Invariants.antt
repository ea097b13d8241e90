use Rattle.std.proofs.Common.{◌≡◌, ℕ, reverse, take, None}
use Rattle.sr_law.specs.Lawful.{first_broken}
use Rattle.sr_law.specs.Retire.{endings_of}
use Rattle.sr_audit.specs.Audit.{Tells}
use Rattle.sr_audit.specs.Endings.{AreEntered, ListsEndings}
use Rattle.sr_audit.specs.Lately.{AreOut}
use Rattle.sr_audit.proofs.walk.first_broken.Given as goal

abbrev pub invariant-loop-i : goal.invariant-loop-i
invariant-loop-i l = record {
  so_far : first_broken l.setup (endings_of (reverse l.lines)) (reverse (take l.i l.lines)) ≡ None;
  tells : Tells l.setup l.audit (reverse (take l.i l.lines));
  lists : ListsEndings l.endings (reverse l.lines);
  entered : (tick : ℕ) → AreOut tick (reverse (take l.i l.lines)) → AreEntered l.endings tick;
}
