use Rattle.std.proofs.Common.{◌≡◌, map, List, ℕ, Bor, string_bytes}
use Rattle.toml.specs.View.{table_view}
use Rattle.sr_script.specs.Judge.{keys_of}
use Rattle.sr_script.specs.Walk.{only_known}
use Rattle.sr_script.proofs.known.only_known.Given as goal

-- what is left has a first unknown key where all have it
abbrev pub invariant-loop-key : goal.invariant-loop-key
invariant-loop-key l =
    only_known l.section (map {A = Bor (List ℕ)} (λ k. k.now) l.known) (map string_bytes l.key-iterator)
    ≡ only_known l.section (map {A = Bor (List ℕ)} (λ k. k.now) l.known) (keys_of (table_view l.table))
