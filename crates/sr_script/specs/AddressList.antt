-- A list of addresses, beside which a set of the same addresses is kept, for looking one up.
use Rattle.std.specs.Prelude.{◌≡◌, List}
use Rattle.std.specs.Ordering.{nat_cmp, ordering_then}
use Rattle.std.specs.List.{list_any}
use Rattle.std.specs.BTreeSet.{BTreeSet, contains}
use Rattle.sr_script.specs.Spelled.{Address, same_address}

-- The set has an address exactly where the list has it. The set's order is by number, then by port.
abbrev pub HasSame : List Address → BTreeSet Address → Type 0
HasSame list set =
    (a : Address) → contains (λ x y. ordering_then (nat_cmp x.0 y.0) (nat_cmp x.1 y.1)) set a ≡ list_any (λ b. same_address b a) list
