-- Where a row of each group is free, no connection is left without a place.
use Rattle.std.proofs.Common.{◌≡◌, ℕ, ◌+◌, ◌*◌, ◌≤◌, ◌&&◌, Bool, true, false, List, [], ◌∷◌, if◌then◌else◌, refl, arith}
use Rattle.sr_base.specs.Key.{KeyView}
use Rattle.sr_base.specs.declared.place.Place.TheVariants.{Row}
use Rattle.sr_hash.specs.Uses.{group_of}
use Rattle.sr_law.specs.Cause.{meets_cause}
use Rattle.sr_law.specs.Lawful.{MeetsClauses}
use Rattle.sr_law.specs.Retire.{EndingPacket}
use Rattle.sr_law.specs.Rows.{is_group_full, is_live}
use Rattle.sr_law.specs.Setup.{SetupView}
use Rattle.sr_law.specs.declared.line.Line.{Line}
use Rattle.sr_law_causes.proofs.Walking.{Walk, walk, walk_met}
use Rattle.sr_law_causes.specs.Laws.{FreeRowsGivePlaces}
use Rattle.sr_law_causes.specs.Rare.{HasNone, finds_no_place, rows_held}
use Rattle.sr_law.specs.declared.line.Line.TheVariants as line
use Rattle.sr_law.specs.declared.verdict.Verdict.TheVariants as verdict

module _ (setup : SetupView) (endings : List EndingPacket) where
  -- a full group has four rows with entries
  four : (a b c d : Bool) → (a && b && c && d) ≡ true
      → (if a then 1 else 0) + (if b then 1 else 0) + (if c then 1 else 0) + (if d then 1 else 0) ≤ 3 → ⊥
  four true true true true e h = omega (arith, h)
  four true true true false e h = cc
  four true true false d e h = cc
  four true false c d e h = cc
  four false b c d e h = cc

  not_full : (before : List Line) (key : KeyView) → ((group : ℕ) → rows_held before group ≤ 3) → is_group_full setup.shape before key ≡ true → ⊥
  unfolding is_group_full
  not_full before key h e =
      let first = 4 * group_of key setup.shape.full_rows in
      four (is_live before (Row first)) (is_live before (Row (first + 1))) (is_live before (Row (first + 2))) (is_live before (Row (first + 3))) e
      (h (group_of key setup.shape.full_rows))

  none_here : (before : List Line) (l : Line) → ((group : ℕ) → rows_held before group ≤ 3) → meets_cause setup before l ≡ true
      → finds_no_place l ≡ false
  unfolding meets_cause
  none_here before (line.Packet number entered out pipe key kind verdict.NoPlace) h m = cc
  none_here before (line.Packet number entered out pipe key kind v) h m = refl
  none_here before (line.Answer out pipe nth key verdict.NoPlace) h m = absurd (not_full before key h m)
  none_here before (line.Answer out pipe nth key v) h m = refl
  none_here before l h m = refl

  none_walked : (before lines : List Line) → Walk (MeetsClauses setup endings) before lines
      → Walk (λ before l. (group : ℕ) → rows_held before group ≤ 3) before lines
      → HasNone finds_no_place lines
  none_walked before [] m h = tt
  none_walked before (l ∷ rest) m h = (none_here before l h.0 m.0.cause, none_walked (l ∷ before) rest m.1 h.1)

pub free_rows : FreeRowsGivePlaces
free_rows setup endings lines met h =
    none_walked setup endings [] lines (walk_met setup endings lines met)
    (walk (λ before l. (group : ℕ) → rows_held before group ≤ 3) lines (λ i l e. h i))
