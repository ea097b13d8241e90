-- What the walk's answer says by the schema.
use Rattle.std.proofs.Common.{◌≡◌, List, ℕ, Some, Result, Ok, Err, IfOk, sym, ◌∙◌, inl, inr}
use Rattle.toml.specs.Data.{Members}
use Rattle.sr_script.specs.declared.script.Script.{Script as script}
use Rattle.sr_script.specs.declared.refusal.ParseRefusal.{ParseRefusal}
use Rattle.sr_script.specs.declared.refusal.ParseRefusal.TheVariants.{Script, Memory}
use Rattle.sr_script.specs.Fault.{fault_of}
use Rattle.sr_script.specs.Walk.{script_in}
use Rattle.sr_script.specs.Script.{spelled, IsTree, Parses, IsSpelled, TakesScripts, NotTomlIsTrue}
use Rattle.sr_script.proofs.Law.{walk_spells, spells_walk}
use Rattle.sr_script.proofs.NotToml.{walk_not_toml}

-- a text has one tree
one_tree : (bytes : List ℕ) (t u : Members) → IsTree bytes t → IsTree bytes u → t ≡ u
one_tree bytes t u h k = let both : Some t ≡ Some u = sym h.read ∙ k.read in cc

pub parses_spelled : (bytes : List ℕ) (answer : Result script ParseRefusal) → Parses bytes answer → IfOk answer (IsSpelled bytes)
parses_spelled bytes (Ok s) h = (h.0, h.1, walk_spells h.0 (spelled s) h.2)
parses_spelled bytes (Err e) h = tt

pub parses_takes : (bytes : List ℕ) (answer : Result script ParseRefusal) → Parses bytes answer → TakesScripts bytes answer
parses_takes bytes (Ok x) h t s tree spells =
    let same : t ≡ h.0 = one_tree bytes t h.0 tree h.1 in
    let walk : script_in h.0 ≡ Ok s = rw (← same) (spells_walk t s spells) in
    cc
parses_takes bytes (Err (Script r)) (inl h) t s tree spells =
    let same : t ≡ h.0 = one_tree bytes t h.0 tree h.1 in
    let walk : script_in h.0 ≡ Ok s = rw (← same) (spells_walk t s spells) in
    cc
parses_takes bytes (Err (Script r)) (inr h) t s tree spells = h.0 t tree
parses_takes bytes (Err Memory) h t s tree spells = tt

pub parses_not_toml : (bytes : List ℕ) (answer : Result script ParseRefusal) → Parses bytes answer → NotTomlIsTrue bytes answer
parses_not_toml bytes (Ok s) h says t tree = says
parses_not_toml bytes (Err (Script r)) (inl h) says t tree = walk_not_toml h.0 (fault_of r) h.2 says
parses_not_toml bytes (Err (Script r)) (inr h) says t tree = h.0 t tree
parses_not_toml bytes (Err Memory) h says t tree = says
