-- The numbers of a command are in range.
use Rattle.std.proofs.Common.{◌≡◌, ℕ, ◌≤◌, Bool, true, false, cond, ◌&&◌, List, [], ◌∷◌, length, Option, Some, None, codes, leb-true, arith, refl, subst, ◌==◌}
use Rattle.std.specs.Prelude.{nat_le, option_and_then, option_map}
use Rattle.std.specs.Str.{bytes_eq}
use Rattle.std.specs.List.{list_any, slice_split}
use Rattle.std.proofs.lemmas.Bool.{and_parts}
use Rattle.std.proofs.lemmas.Option.{cond_some}
use Rattle.sr_script.specs.Address.{address_of}
use Rattle.sr_run.specs.Command.{Command, One, Make, Audit, Replay, Steps, Demo, IsInRange, begins_with_dash, command_of, command_of_plain, demo_of, make_of, one_of, steps_of}
use Rattle.sr_run.specs.Numbers.{count_of_packets, number_of, packets_in}
use Rattle.sr_run.specs.Servers.{addresses_of, all_differ, counted, count_of_servers}

counted_some : (known : List (ℕ × ℕ)) (n : ℕ) → counted known ≡ Some n → 1 ≤ n
counted_some known n e =
    let found = cond_some (nat_le 1 (length known) && nat_le (length known) 255 && all_differ known) (length known) n e in
    let range = (and_parts (nat_le 1 (length known) && nat_le (length known) 255) (all_differ known) found.0).0 in
    let some = (and_parts (nat_le 1 (length known)) (nat_le (length known) 255) range).0 in
    omega (arith, leb-true, some, found.1)

chain_some : (o : Option (List (ℕ × ℕ))) (n : ℕ) → option_and_then counted o ≡ Some n → 1 ≤ n
chain_some None n e = absurd cc
chain_some (Some known) n e = counted_some known n e

count_some : (word : List ℕ) (n : ℕ) → count_of_servers word ≡ Some n → 1 ≤ n
unfolding count_of_servers
count_some word n e = chain_some (addresses_of (slice_split (λ b. b == 44) word)) n e

one_some : (vip : Option (ℕ × ℕ)) (count : Option ℕ) (c : Command) → ((n : ℕ) → count ≡ Some n → 1 ≤ n) → option_and_then (λ v. option_map (λ n. One v n) count) vip ≡ Some c → IsInRange c
one_some None count c some e = absurd cc
one_some (Some v) None c some e = absurd cc
one_some (Some v) (Some n) c some e = let same : One v n ≡ c = cc in subst IsInRange same (some n refl)

packets_some : (n p : ℕ) → packets_in n ≡ Some p → (1 ≤ p) × (p ≤ 4194304)
packets_some n p e =
    let found = cond_some (nat_le 1 n && nat_le n 4194304) n p e in
    let range = and_parts (nat_le 1 n) (nat_le n 4194304) found.0 in
    (omega (arith, leb-true, range.0, found.1), omega (arith, leb-true, range.1, found.1))

chain_packets : (o : Option ℕ) (p : ℕ) → option_and_then packets_in o ≡ Some p → (1 ≤ p) × (p ≤ 4194304)
chain_packets None p e = absurd cc
chain_packets (Some n) p e = packets_some n p e

count_packets : (word : List ℕ) (p : ℕ) → count_of_packets word ≡ Some p → (1 ≤ p) × (p ≤ 4194304)
unfolding count_of_packets
count_packets word p e = chain_packets (number_of word) p e

make_some : (number packets : Option ℕ) (c : Command) → ((p : ℕ) → packets ≡ Some p → (1 ≤ p) × (p ≤ 4194304)) → option_and_then (λ n. option_map (λ p. Make n p) packets) number ≡ Some c → IsInRange c
make_some None packets c some e = absurd cc
make_some (Some n) None c some e = absurd cc
make_some (Some n) (Some p) c some e = let same : Make n p ≡ c = cc in subst IsInRange same (some p refl)

audit_some : (script : List ℕ) (c : Command) → Some (Audit script) ≡ Some c → IsInRange c
audit_some script c e = let same : Audit script ≡ c = cc in subst IsInRange same tt

replay_some : (script : List ℕ) (c : Command) → Some (Replay script) ≡ Some c → IsInRange c
replay_some script c e = let same : Replay script ≡ c = cc in subst IsInRange same tt

steps_some : (script : List ℕ) (seed : Option ℕ) (c : Command) → option_map (λ n. Steps script n) seed ≡ Some c → IsInRange c
steps_some script None c e = absurd cc
steps_some script (Some n) c e = let same : Steps script n ≡ c = cc in subst IsInRange same tt

demo_some : (number : Option ℕ) (c : Command) → option_map (λ n. Demo n) number ≡ Some c → IsInRange c
demo_some None c e = absurd cc
demo_some (Some n) c e = let same : Demo n ≡ c = cc in subst IsInRange same tt

either_some : (test : Bool) (a b : Option Command) (c : Command) → ((d : Command) → a ≡ Some d → IsInRange d) → ((d : Command) → b ≡ Some d → IsInRange d) → cond test a b ≡ Some c → IsInRange c
either_some true a b c first second e = first c e
either_some false a b c first second e = second c e

plain_some : (words : List (List ℕ)) (c : Command) → command_of_plain words ≡ Some c → IsInRange c
plain_some [] c e = absurd cc
plain_some (a ∷ []) c e = absurd cc
plain_some (name ∷ script ∷ []) c e =
    either_some (bytes_eq name (codes "replay")) (Some (Replay script)) _ c (λ d f. replay_some script d f)
    (λ d f. either_some (bytes_eq name (codes "audit")) (Some (Audit script)) _ d (λ h k. audit_some script h k)
    (λ h k. either_some (bytes_eq name (codes "demo")) (demo_of script) None h (λ i m. demo_some (number_of script) i m) (λ i m. absurd cc) k) f) e
plain_some (name ∷ first ∷ second ∷ []) c e =
    either_some (bytes_eq name (codes "one")) (one_of first second) _ c
    (λ d f. one_some (address_of first) (count_of_servers second) d (count_some second) f)
    (λ d f. either_some (bytes_eq name (codes "make")) (make_of first second) _ d (λ h k. make_some (number_of first) (count_of_packets second) h (count_packets second) k) (λ h k. either_some (bytes_eq name (codes "steps")) (steps_of first second) None h (λ i m. steps_some first (number_of second) i m) (λ i m. absurd cc) k) f) e
plain_some (name ∷ first ∷ second ∷ fourth ∷ rest) c e = absurd cc

pub command_some : (words : List (List ℕ)) (c : Command) → command_of words ≡ Some c → IsInRange c
unfolding command_of
command_some words c e = either_some (list_any begins_with_dash words) None (command_of_plain words) c (λ d f. absurd cc) (plain_some words) e
