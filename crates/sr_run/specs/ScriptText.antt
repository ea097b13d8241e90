-- The script that a name of the shelf has.
use Rattle.std.specs.Prelude.{◌≡◌, ◌⊎◌, ◌<◌, ◌≤◌, ℕ, List, [], length, Option, Some, None, Result, Ok, Err}
use Rattle.sr_script.specs.declared.why.Why.TheVariants.{TextTooLong}
use Rattle.sr_script.specs.Fault.{Fault, fault_of}
use Rattle.sr_script.specs.Fitting.{IsFitting}
use Rattle.sr_script.specs.Script.{spelled, IsScriptText, HasFault}
use Rattle.sr_script.specs.Spelled.{Spelled}
use Rattle.sr_script.specs.declared.script.Script.{Script as AScript}
use Rattle.sr_run.specs.declared.status.Status.{Status}
use Rattle.sr_run.specs.declared.status.Status.TheVariants.{Script, ReadFault, Memory}

-- how many bytes a script has at most
abbrev pub most_script_bytes : ℕ
most_script_bytes = 1048576

-- the fault of a text that is longer
abbrev pub too_long : Fault
too_long = record { why = TextTooLong; path = [] }

-- the name has a text, and it is this script
abbrev pub IsScript : Option (List ℕ) → Spelled → Type 0
IsScript None s = ⊥
IsScript (Some text) s = (length text ≤ most_script_bytes) × IsScriptText text s

-- the name has a text, and it is too long, or this is its first fault
abbrev pub IsNoScript : Option (List ℕ) → Fault → Type 0
IsNoScript None fault = ⊥
IsNoScript (Some text) fault =
    ((most_script_bytes < length text) × (fault ≡ too_long)) ⊎ ((length text ≤ most_script_bytes) × HasFault text fault)

-- what fetching a name says of its text; want of memory and a fault of the shelf may come of every name
abbrev pub Fetches : Result AScript Status → Option (List ℕ) → Type 0
Fetches (Ok script) text = IsScript text (spelled script)
Fetches (Err (Script refusal)) text = IsNoScript text (fault_of refusal)
Fetches (Err ReadFault) text = Unit {0}
Fetches (Err Memory) text = Unit {0}
Fetches (Err status) text = ⊥

-- a script fits a layout; else it was refused, the shelf failed, or no memory was found
abbrev pub IsReady : Result AScript Status → Type 0
IsReady (Ok script) = IsFitting (spelled script)
IsReady (Err (Script refusal)) = Unit {0}
IsReady (Err ReadFault) = Unit {0}
IsReady (Err Memory) = Unit {0}
IsReady (Err status) = ⊥
