-- An entry that may be missing, and whose packets another key's are taken for.
use Rattle.std.specs.Prelude.{ℕ, cond, Option, Some, None}
use Rattle.sr_base.specs.Key.{KeyView}
use Rattle.sr_base.specs.declared.shape.Shape.{Shape}
use Rattle.sr_shadow.specs.Plan.{is_mistaken}
use Rattle.sr_shadow.specs.declared.entry.Entry.{Entry}

-- 1 where there is an entry and the key's packets are taken for its own, else 0
abbrev pub mistaken_one : Shape → KeyView → Option Entry → ℕ
mistaken_one shape key None = 0
mistaken_one shape key (Some e) = cond (is_mistaken shape key e) 1 0
