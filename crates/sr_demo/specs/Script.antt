-- The script of the demonstration.
use Rattle.std.specs.Prelude.{ℕ, ◌+◌, ◌*◌, ◌/◌, ◌%◌, ◌==◌, not, List, filter, map}
use Rattle.std.specs.List.{range_with_len}
use Rattle.sr_base.specs.declared.change.Change.{Change}
use Rattle.sr_base.specs.declared.change.What.TheVariants.{Give}
use Rattle.sr_gen.specs.Connection.{address}
use Rattle.sr_script.specs.Spelled.{Address, Spelled, default_shape}

-- server i, from 0, is 10.1.0.(i + 1), port 80
abbrev pub demo_server : ℕ → Address
demo_server i = (address 10 1 0 (i + 1), 80)

-- virtual address v, from 0, is 192.0.2.(v + 1), port 80
abbrev pub demo_vip : ℕ → Address
demo_vip v = (address 192 0 2 (v + 1), 80)

-- it begins with four servers of its own
abbrev pub demo_pool : ℕ → List ℕ
demo_pool v = range_with_len (4 * v) 4

-- a pool without this server
abbrev pub without : ℕ → List ℕ → List ℕ
without server pool = filter (λ other. not (other == server)) pool

-- Change j, from 0, comes a second and a half after the one before. The virtual addresses take turns; each loses another one of
-- its four servers at each turn, and has the one before back.
abbrev pub demo_change : ℕ → Change
demo_change j = record { at_ms = 1500 * (j + 1); what = Give (j % 4) (without (4 * (j % 4) + j / 4) (demo_pool (j % 4))) }

-- eight pipes, a sweep each second, and all else as in a shape that says nothing; sixteen servers, four virtual addresses,
-- twelve changes
abbrev pub demo_script : Spelled
demo_script = record {
  shape = record default_shape { pipes = 8; idle_ms = 1000 };
  vips = map demo_vip (range_with_len 0 4);
  servers = map demo_server (range_with_len 0 16);
  first = map demo_pool (range_with_len 0 4);
  changes = map demo_change (range_with_len 0 12);
}
