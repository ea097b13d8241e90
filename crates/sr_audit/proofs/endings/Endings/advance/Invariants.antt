use Rattle.std.proofs.Common.{◌≡◌, List}
use Rattle.sr_law.specs.declared.line.Line.{Line}
use Rattle.sr_audit.specs.Endings.{AreEntered, ListsEndings}
use Rattle.sr_audit.proofs.endings.Endings.advance.Given as goal

abbrev pub invariant-loop-i : goal.invariant-loop-i
invariant-loop-i l = record {
  cursor : l.self.next ≡ l.i;
  list : l.self.list ≡ l.initial.self.list;
  lists : (all : List Line) → ListsEndings l.initial.self all → ListsEndings l.self all;
  entered : AreEntered l.initial.self l.tick → AreEntered l.self l.tick;
}
