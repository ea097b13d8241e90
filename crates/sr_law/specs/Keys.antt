-- When two keys clash.
use Rattle.std.specs.Prelude.{ℕ, Bool, ◌&&◌, ◌||◌, ◌==◌}
use Rattle.sr_base.specs.Key.{KeyView}
use Rattle.sr_base.specs.declared.shape.Shape.{Shape}
use Rattle.sr_hash.specs.Clash.{clashes}

-- in a way, 1 or 2, an entry of the one key is taken for the other's (SilkRoad, SIGCOMM 2017: the table holds digests, and those of two
-- connections may collide); in no other way do keys clash
abbrev pub clashes_in : Shape → ℕ → KeyView → KeyView → Bool
clashes_in shape way a b = ((way == 1) || (way == 2)) && clashes shape way a b
