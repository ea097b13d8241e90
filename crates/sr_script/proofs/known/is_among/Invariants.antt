use Rattle.std.proofs.Common.{◌≡◌, map, drop, List, ℕ, Bor}
use Rattle.std.specs.List.{list_any}
use Rattle.std.specs.Str.{bytes_eq}
use Rattle.sr_script.proofs.known.is_among.Given as goal

-- what is left has the key where all have it
abbrev pub invariant-loop-other : goal.invariant-loop-other
invariant-loop-other l =
    list_any (bytes_eq l.key) (map {A = Bor (List ℕ)} (λ k. k.now) (drop l.other-index l.known))
    ≡ list_any (bytes_eq l.key) (map {A = Bor (List ℕ)} (λ k. k.now) l.known)
