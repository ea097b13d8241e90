-- A script as its lists, and what `parse` answers.
use Rattle.std.specs.Prelude.{◌≡◌, ℕ, List, [], Result, Ok, Err, Some, IsUtf8, ◌⊎◌}
use Rattle.toml.specs.Data.{Members}
use Rattle.toml.specs.Parse.{parse_document}
use Rattle.sr_script.specs.declared.script.Script.{Script as script}
use Rattle.sr_script.specs.declared.why.Why.TheVariants.{NotToml}
use Rattle.sr_script.specs.declared.refusal.ParseRefusal.{ParseRefusal}
use Rattle.sr_script.specs.declared.refusal.ParseRefusal.TheVariants.{Script, Memory}
use Rattle.sr_script.specs.Fault.{Fault, fault_of}
use Rattle.sr_script.specs.Spelled.{Spelled}
use Rattle.sr_script.specs.Walk.{script_in}
use Rattle.sr_script.specs.Schema.{Spells}

-- what a script says
abbrev pub spelled : script → Spelled
spelled s = record {
  shape = s.shape;
  vips = s.vips.items;
  servers = s.servers.items;
  first = s.first.items;
  changes = s.changes.items;
}

-- the bytes are a TOML text, and this is its tree
pub record IsTree (bytes : List ℕ) (t : Members) : Type 0 where
  pub utf8 : IsUtf8 bytes
  pub read : parse_document bytes ≡ Some t

-- the fault of a text that isn't TOML
abbrev pub not_toml : Fault
not_toml = record { why = NotToml; path = [] }

-- the text's tree spells this script
abbrev pub IsScriptText : List ℕ → Spelled → Type 0
IsScriptText bytes s = (t : Members) × IsTree bytes t × (script_in t ≡ Ok s)

-- the text's tree has this first fault, or the text has no tree
abbrev pub HasFault : List ℕ → Fault → Type 0
HasFault bytes fault = ((t : Members) × IsTree bytes t × (script_in t ≡ Err fault)) ⊎ (((t : Members) → ¬ (IsTree bytes t)) × (fault ≡ not_toml))

-- a script is what the text's tree spells; a refusal is its first fault
abbrev pub Parses : List ℕ → Result script ParseRefusal → Type 0
Parses bytes (Ok s) = IsScriptText bytes (spelled s)
Parses bytes (Err (Script r)) = HasFault bytes (fault_of r)
Parses bytes (Err Memory) = Unit {0}

-- a script is one that the text's tree spells
abbrev pub IsSpelled : List ℕ → script → Type 0
IsSpelled bytes s = (t : Members) × IsTree bytes t × Spells t (spelled s)

-- the answer where the tree spells this script: this one, unless memory ran out
abbrev pub Takes : Spelled → Result script ParseRefusal → Type 0
Takes s (Ok x) = spelled x ≡ s
Takes s (Err (Script r)) = ⊥
Takes s (Err Memory) = Unit {0}

-- each text whose tree is a script is taken
abbrev pub TakesScripts : List ℕ → Result script ParseRefusal → Type 0
TakesScripts bytes answer = (t : Members) (s : Spelled) → IsTree bytes t → Spells t s → Takes s answer

-- the answer is that the text isn't TOML
abbrev pub SaysNotToml : Result script ParseRefusal → Type 0
SaysNotToml (Ok s) = ⊥
SaysNotToml (Err (Script r)) = r.why ≡ NotToml
SaysNotToml (Err Memory) = ⊥

-- that answer comes where the text has no tree alone
abbrev pub NotTomlIsTrue : List ℕ → Result script ParseRefusal → Type 0
NotTomlIsTrue bytes answer = SaysNotToml answer → (t : Members) → ¬ (IsTree bytes t)
