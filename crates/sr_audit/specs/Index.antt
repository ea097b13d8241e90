-- An index of the lines so far: `Tells index before` says that it is that of these lines, the newest first.
use Rattle.std.specs.Prelude.{List, ◌∷◌}
use Rattle.sr_law.specs.declared.line.Line.{Line}

-- the new index tells of the lines that the old one tells of, and of this one more, whatever lines these are
abbrev pub KeptWith : {T : Type 0} → (T → List Line → Type 0) → T → T → Line → Type 0
KeptWith Tells old new line = (before : List Line) → Tells old before → Tells new (line ∷ before)
