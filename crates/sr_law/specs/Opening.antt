-- The opening of a connection: the line that first sent it to a server, since it was last retired.
use Rattle.std.specs.Prelude.{ℕ, Bool, false, if◌then◌else◌, List, [], ◌∷◌, Option, Some, None, is_some}
use Rattle.std.specs.Option.{option_or}
use Rattle.sr_base.specs.Key.{KeyView, same_key}
use Rattle.sr_base.specs.declared.kind.Kind.TheVariants.{Opener}
use Rattle.sr_law.specs.declared.line.Line.{Line}
use Rattle.sr_law.specs.declared.line.Line.TheVariants.{Packet, Answer, Retired}
use Rattle.sr_law.specs.declared.verdict.Verdict.{Verdict}
use Rattle.sr_law.specs.declared.verdict.Verdict.TheVariants.{To}
use Rattle.sr_law.specs.declared.opening.Opening.{Opening}

-- the opening that a line of this verdict and tick makes
abbrev pub opened : ℕ → Verdict → Option Opening
opened out (To server version pool) = Some (record { out = out; server = server; version = version; pool = pool })
opened out verdict = None

-- the opening that a line makes of a connection that isn't open: its opener was sent to a server, by the pipe or by the controller
abbrev pub opened_by : Line → KeyView → Option Opening
opened_by (Packet number entered out pipe key Opener verdict) c = if same_key key c then opened out verdict else None
opened_by (Answer out pipe nth key verdict) c = if same_key key c then opened out verdict else None
opened_by line c = None

-- the line says that this connection is over
abbrev pub retires : Line → KeyView → Bool
retires (Retired out key) c = same_key key c
retires line c = false

-- the opening of a connection: the first line, since it was last retired, that sent an opener of it to a server
abbrev pub opening : List Line → KeyView → Option Opening
opening [] c = None
opening (line ∷ before) c = if retires line c then None else option_or (opening before c) (opened_by line c)

-- a connection is open where it has an opening
abbrev pub is_open : List Line → KeyView → Bool
is_open before c = is_some (opening before c)
