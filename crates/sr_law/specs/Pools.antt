-- The pools of each virtual address by number, and the server that a connection's hash picks from one.
use Rattle.std.specs.Prelude.{ℕ, ◌+◌, ◌-◌, ◌==◌, if◌then◌else◌, List, [], ◌∷◌, length, slice_get, slice_index, Option, Some, None, option_map, option_and_then}
use Rattle.sr_base.specs.Key.{KeyView}
use Rattle.sr_base.specs.declared.change.Change.{Change}
use Rattle.sr_base.specs.declared.change.What.TheVariants.{Give, TakeDown}
use Rattle.sr_hash.specs.Uses.{selected}

-- the pools of one virtual address: the one that it begins with, and those that its changes give it, in the script's order
pub record VipPools : Type 0 where
  pub first : List ℕ
  pub given : List (List ℕ)

-- the pool of a number: 1 is the first one, and K + 1 that of the K-th change
abbrev pub numbered : VipPools → ℕ → Option (List ℕ)
numbered own number =
    if number == 0 then None else (if number == 1 then Some own.first else slice_get own.given (number - 2))

-- the pool of a virtual address and a number; virtual addresses are numbered from 0, and there are as many as the list is long
abbrev pub pool_of : List VipPools → ℕ → ℕ → Option (List ℕ)
pool_of pools vip number = option_and_then (λ own. numbered own number) (slice_get pools vip)

-- the server that a key's hash picks from a pool (SilkRoad, SIGCOMM 2017: the server is picked from a versioned pool by a hash of the connection)
abbrev pub picked : List ℕ → KeyView → ℕ
picked pool key = slice_index pool (selected (length pool) key)

-- the server of a key under a pool number of its virtual address
abbrev pub server_of : List VipPools → ℕ → KeyView → Option ℕ
server_of pools number key = option_map (λ pool. picked pool key) (pool_of pools key.vip number)

-- the pools that changes give to a virtual address, in order, whatever becomes of the changes
abbrev pub gives_to : ℕ → List Change → List (List ℕ)
gives_to vip [] = []
gives_to vip (change ∷ rest) =
    elim change.what [ Give to pool ↦ if to == vip then pool ∷ gives_to vip rest else gives_to vip rest | TakeDown server ↦ gives_to vip rest ]

-- the pools of the virtual addresses from this one on: a first pool for each, and what the changes give them
abbrev pub pools_from : ℕ → List (List ℕ) → List Change → List VipPools
pools_from vip [] changes = []
pools_from vip (first ∷ rest) changes = record { first = first; given = gives_to vip changes } ∷ pools_from (vip + 1) rest changes
