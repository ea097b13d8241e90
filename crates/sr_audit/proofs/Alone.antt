-- Steps of the list of switches.
use Rattle.std.proofs.Common.{◌≡◌, ℕ, Bool, true, false, cond, List, [], ◌∷◌, ◌++◌, reverse, Option, None, Some, refl, ap, ◌∙◌}
use Rattle.std.specs.Prelude.{option_map}
use Rattle.std.specs.List.{find}
use Rattle.std.specs.Option.{option_or}
use Rattle.std.proofs.lemmas.List.{reverse-append}
use Rattle.sr_law.specs.declared.line.Line.{Line}
use Rattle.sr_law.specs.declared.line.Line.TheVariants.{Switched}
use Rattle.sr_law.specs.Newer.{last_switched}
use Rattle.sr_audit.specs.declared.switches.Switch.{Switch}
use Rattle.sr_audit.specs.Switches.{is_before, pool_before}

by : (b : Bool) (switch : Switch) (older : Option Switch) (old : Option ℕ) → option_map (λ s. s.pool) older ≡ old → option_map (λ s. s.pool) (cond b (Some switch) older) ≡ option_or (cond b (Some switch.pool) None) old
by true switch older old h = refl
by false switch older old h = h

-- one more
pub switch_more : (list : List Switch) (before : List Line) (switch : Switch) → ((vip tick : ℕ) → pool_before (reverse list) vip tick ≡ last_switched before vip tick)
    → (vip tick : ℕ) → pool_before (reverse (list ++ switch ∷ [])) vip tick ≡ last_switched (Switched switch.out switch.vip switch.pool ∷ before) vip tick
switch_more list before switch h vip tick =
    ap (λ l. pool_before l vip tick) (reverse-append list (switch ∷ []))
    ∙ by (is_before vip tick switch) switch (find (is_before vip tick) (reverse list)) (last_switched before vip tick) (h vip tick)
