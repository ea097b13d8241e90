-- The open group of update lines goes on with the phases of the update.
use Rattle.std.proofs.Common.{◌≡◌, ℕ, suc, ◌-◌, ◌≤◌, Bool, true, false, List, ◌∷◌, length, take, if◌then◌else◌, ◌==◌, Some, None, Option, sym, refl, ap, ◌∙◌, arith}
use Rattle.sr_base.specs.declared.vip_word.Phase.{Phase}
use Rattle.sr_base.specs.declared.vip_word.Phase.TheVariants.{Steady, Recording, Holding, Transit}
use Rattle.sr_base.specs.declared.vip_word.VipWord.{VipWord}
use Rattle.sr_inv_facts.specs.InUpdate.{At, group_by, group_first, group_of_phase, group_recording, group_steady, group_transit}
use Rattle.sr_law.specs.Groups.{after_gives, is_of_update, is_over, last_of_update, was_recorded, was_switched}
use Rattle.sr_law.specs.declared.line.Line.{Line}
use Rattle.sr_machine.specs.Deciding.{vip_at}
use Rattle.sr_machine.specs.declared.job.Job.{Job}
use Rattle.sr_machine.specs.declared.pool_update.PoolUpdate.{PoolUpdate}
use Rattle.sr_machine.specs.declared.draw.Draw.TheVariants as draw
use Rattle.sr_machine.specs.declared.store.Store.TheVariants as store
use Rattle.sr_machine.specs.declared.job.Job.TheVariants as job

-- ---- the last line of an update

-- one line more, where the first ones are there
pub gives_more : (vips : ℕ) (l : Line) (lines : List Line) → vips ≤ length lines → after_gives vips (l ∷ lines) ≡ l ∷ after_gives vips lines
gives_more vips l lines h =
    let n : length (l ∷ lines) - vips ≡ suc (length lines - vips) = omega arith in ap (λ m. take m (l ∷ lines)) n

abbrev pub group_last : ℕ → List Line → Option Line
group_last vips lines = last_of_update (after_gives vips lines)

pub group_more : (vips : ℕ) (l : Line) (lines : List Line) → vips ≤ length lines
    → group_last vips (l ∷ lines) ≡ (if is_of_update l then Some l else group_last vips lines)
group_more vips l lines h = ap last_of_update (gives_more vips l lines h)

-- ---- jobs in no phase of their own

-- the jobs whose group is that of the phase alone
abbrev pub IsPlainGroup : Job → Type 0
IsPlainGroup (job.Draw (draw.Comes u p)) = ⊥
IsPlainGroup (job.Store (store.Vip u p)) = ⊥
IsPlainGroup j = Unit {0}

plain_first : (u : PoolUpdate) (j : Job) → IsPlainGroup j → group_first u j ≡ is_over
plain_first u (job.Draw (draw.Comes w p)) b = absurd b
plain_first u (job.Store (store.Vip w p)) b = absurd b
plain_first u j b = refl

plain_recording : (u : PoolUpdate) (j : Job) → IsPlainGroup j → group_recording u j ≡ was_recorded u.vip
plain_recording u (job.Draw (draw.Comes w p)) b = absurd b
plain_recording u (job.Store (store.Vip w p)) b = absurd b
plain_recording u j b = refl

plain_transit : (u : PoolUpdate) (j : Job) → IsPlainGroup j → group_transit u j ≡ was_switched u.vip
plain_transit u (job.Draw (draw.Comes w p)) b = absurd b
plain_transit u (job.Store (store.Vip w p)) b = absurd b
plain_transit u j b = refl

plain_steady : (u : PoolUpdate) (j : Job) → IsPlainGroup j → group_steady u j ≡ is_over
plain_steady u (job.Draw (draw.Comes w p)) b = absurd b
plain_steady u (job.Store (store.Vip w p)) b = absurd b
plain_steady u j b = refl

plain_phase : (u : PoolUpdate) (w : VipWord) (p : Phase) (j m : Job) (o : Option Line) → IsPlainGroup j → IsPlainGroup m
    → group_of_phase u w j p o ≡ group_of_phase u w m p o
plain_phase u w Steady j m o a b = at (w.cur == u.given)
  where
    at : (c : Bool) → (if c then group_steady u j else group_first u j) o ≡ (if c then group_steady u m else group_first u m) o
    at true = ap (λ f. f o) (plain_steady u j a ∙ sym (plain_steady u m b))
    at false = ap (λ f. f o) (plain_first u j a ∙ sym (plain_first u m b))
plain_phase u w Recording j m o a b = ap (λ f. f o) (plain_recording u j a ∙ sym (plain_recording u m b))
plain_phase u w Holding j m o a b = refl
plain_phase u w Transit j m o a b = ap (λ f. f o) (plain_transit u j a ∙ sym (plain_transit u m b))

-- the group is the same
pub plain_group : (update : Option PoolUpdate) (vips : List VipWord) (j m : Job) (o : Option Line) → IsPlainGroup j → IsPlainGroup m
    → group_by update vips m o ≡ group_by update vips j o
plain_group None vips j m o a b = refl
plain_group (Some u) vips j m o a b = plain_phase u (vip_at vips u.vip) (vip_at vips u.vip).phase m j o b a

-- ---- where the word is known

-- the group of an update whose word is this one
pub group_at : (update : Option PoolUpdate) (vips : List VipWord) (u : PoolUpdate) (w : VipWord) (j : Job) (o : Option Line)
    → At update vips u w
    → group_by update vips j o ≡ group_of_phase u w j w.phase o
group_at update vips u w j o (e, q) =
    ap (λ z. group_by z vips j o) e ∙ ap (λ z. group_of_phase u z j z.phase o) q
