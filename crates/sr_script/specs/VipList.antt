-- The virtual addresses of a script as two lists.
use Rattle.std.specs.Prelude.{ℕ, List}
use Rattle.sr_script.specs.declared.vip_list.VipList.{VipList}

-- the addresses, and the pools
abbrev pub parted : VipList → List (ℕ × ℕ) × List (List ℕ)
parted v = (v.addresses.items, v.pools.items)
