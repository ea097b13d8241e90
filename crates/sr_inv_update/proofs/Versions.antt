-- The versions that are in use stay so, as a step leaves them alone.
use Rattle.std.proofs.Common.{◌≡◌, ℕ, Bool, true, false, ◌⊎◌, ◌↔◌, List, if◌then◌else◌, ◌==◌, Some, None, Option, sym, refl, ap, ◌∙◌, inl, inr}
use Rattle.std.specs.List.{AllByRecursion}
use Rattle.sr_base.specs.Key.{KeyView}
use Rattle.sr_base.specs.declared.vip_word.Phase.{Phase}
use Rattle.sr_base.specs.declared.vip_word.Phase.TheVariants.{Steady, Recording, Holding, Transit}
use Rattle.sr_base.specs.declared.vip_word.VipWord.{VipWord}
use Rattle.sr_inv_facts.specs.InUpdate.{IsNew, JobWaited, OnGiven, OnUngiven, SwitchesUpTo, VersionsHold, is_ungiven, is_used, newest, pool_given}
use Rattle.sr_law.specs.Given.{last_given, last_version}
use Rattle.sr_law.specs.declared.line.Line.{Line}
use Rattle.sr_machine.specs.Config.{Config}
use Rattle.sr_machine.specs.Deciding.{learned, named_at, vip_at}
use Rattle.sr_machine.specs.Draws.{cleared_job, phase_job}
use Rattle.sr_machine.specs.Goes.{Goes}
use Rattle.sr_machine.specs.Jobs.{book_next}
use Rattle.sr_machine.specs.Stores.{vip_draw}
use Rattle.sr_machine.specs.Waiting.{all_passed, live_job, passed_phase, waited_job, waited_phase}
use Rattle.sr_machine.specs.declared.controller_view.ControllerView.{ControllerView}
use Rattle.sr_machine.specs.declared.job.Job.{Job}
use Rattle.sr_machine.specs.declared.pool_update.PoolUpdate.{PoolUpdate}
use Rattle.sr_machine.specs.declared.put.Aim.{Aim}
use Rattle.sr_machine.specs.declared.put.Put.{Put}
use Rattle.sr_machine.specs.declared.wait.Wait.{Wait}
use Rattle.sr_machine.specs.declared.why.Why.{Why}
use Rattle.sr_shadow.specs.declared.entry.Entry.{Entry}
use Rattle.sr_update.specs.Numbers.{NumberRows, state_of}
use Rattle.sr_update.specs.declared.number_state.NumberState.TheVariants.{Free}
use Rattle.sr_machine.specs.Goes as go
use Rattle.sr_machine.specs.declared.draw.Draw.TheVariants as draw
use Rattle.sr_machine.specs.declared.wait.Wait.TheVariants as wait
use Rattle.sr_machine.specs.declared.why.Why.TheVariants as why
use Rattle.sr_machine.specs.declared.put.Aim.TheVariants as aim
use Rattle.sr_machine.specs.declared.job.Job.TheVariants as job

-- ---- whether the Given line is still to come

pub phase_given : (u : PoolUpdate) (p : Phase) → is_ungiven (phase_job u p) ≡ false
phase_given u Steady = refl
phase_given u Recording = refl
phase_given u Holding = refl
phase_given u Transit = refl

pub vip_given : (u : PoolUpdate) (p : Phase) → is_ungiven (job.Draw (vip_draw u p)) ≡ false
vip_given u Steady = refl
vip_given u Recording = refl
vip_given u Holding = refl
vip_given u Transit = refl

pub cleared_given : (key : KeyView) (w : Why) → is_ungiven (cleared_job key w) ≡ false
cleared_given key (why.Withdrawn None) = refl
cleared_given key (why.Withdrawn (Some r)) = refl
cleared_given key why.Source = refl
cleared_given key (why.Retired n) = refl

passed_phase_given : (u : PoolUpdate) (p : Phase) → is_ungiven (passed_phase u p) ≡ false
passed_phase_given u Steady = refl
passed_phase_given u Recording = refl
passed_phase_given u Holding = refl
passed_phase_given u Transit = refl

passed_given : (w : Wait) → is_ungiven (all_passed w) ≡ false
passed_given (wait.Comes u p) = passed_phase_given u p
passed_given w = refl

live_given : (vips : List VipWord) (es : List Entry) (p : Put) (a : Aim) → is_ungiven (live_job vips es p a) ≡ false
live_given vips es p aim.Pending = refl
live_given vips es p (aim.Held h) = refl
live_given vips es p (aim.Move from planned) = refl

waited_phase_given : (u : PoolUpdate) (p : Phase) → is_ungiven (waited_phase u p) ≡ false
waited_phase_given u Steady = refl
waited_phase_given u Recording = refl
waited_phase_given u Holding = refl
waited_phase_given u Transit = refl

pub waited_given : (vips : List VipWord) (es : List Entry) (w : Wait) → is_ungiven (waited_job vips es w) ≡ false
waited_given vips es (wait.Live p) = live_given vips es p p.aim
waited_given vips es (wait.Comes u p) = waited_phase_given u p
waited_given vips es w = refl

-- the step draws the Given line
abbrev pub draws_given : Job → Bool
draws_given (job.Draw (draw.Given u)) = true
draws_given j = false

-- only that step changes it
pub same_ungiven : (k : Config) (c : ControllerView) (x : ℕ) (j m : Job) → Goes k c x j m → draws_given j ≡ false
    → is_ungiven m ≡ is_ungiven j
same_ungiven k c x j m (go.given u) d = cc
same_ungiven k c x j m (go.comes u p) d = phase_given u p
same_ungiven k c x j m (go.cleared key place w) d = cleared_given key w
same_ungiven k c x j m (go.phase_stored u p) d = vip_given u p
same_ungiven k c x j m (go.pass_last g pipe w e n) d = passed_given w
same_ungiven k c x j m (go.drain_last pipe count w e n) d = waited_given c.vips (book_next k c (job.Drain pipe count w) x).entries w
same_ungiven k c x j m g d = refl

-- ---- facts by whether it is

module _ (j m : Job) (e : is_ungiven m ≡ is_ungiven j) where
  pub new_same : (update : Option PoolUpdate) (v n : ℕ) → IsNew update j v n ↔ IsNew update m v n
  new_same None v n = ((λ h. h), (λ h. h))
  new_same (Some u) v n = ((λ h. (e ∙ h.0, h.1, h.2)), (λ h. (sym e ∙ h.0, h.1, h.2)))

  pub newest_same : (update : Option PoolUpdate) (vips : List VipWord) (v : ℕ) → newest update vips m v ≡ newest update vips j v
  newest_same None vips v = refl
  newest_same (Some u) vips v = ap (λ b. if v == u.vip then (if b then u.replaced else u.given) else (vip_at vips v).cur) e

  pub ungiven_same : (update : Option PoolUpdate) (P : PoolUpdate → Type 0) → OnUngiven update j P → OnUngiven update m P
  ungiven_same None P h = tt
  ungiven_same (Some u) P h = λ t. h (sym e ∙ t)

  pub given_same : (update : Option PoolUpdate) (P : PoolUpdate → Type 0) → OnGiven update j P → OnGiven update m P
  given_same None P h = tt
  given_same (Some u) P h = λ t. h (sym e ∙ t)

pub sum_then : {A B C : Type 0} → (B → C) → A ⊎ B → A ⊎ C
sum_then f (inl a) = inl a
sum_then f (inr b) = inr (f b)

-- the versions stay as they are; the lines give nothing new
pub carried : (k : Config) (lines now : List Line) (update : Option PoolUpdate) (vips : List VipWord) (numbers : NumberRows) (named : List (List ℕ))
    (entries after : List Entry) (mark next : ℕ) (j m : Job)
    → VersionsHold k lines update vips numbers named entries mark j → is_ungiven m ≡ is_ungiven j
    → ((v : ℕ) → last_given now v ≡ last_given lines v) → ((v n : ℕ) → last_version now v n ≡ last_version lines v n)
    → AllByRecursion (SwitchesUpTo (λ vip. named_at named vip (learned vips vip))) now
    → AllByRecursion (λ e. is_used numbers e.key.vip e.version ≡ true) after
    → JobWaited after numbers next m
    → VersionsHold k now update vips numbers named after next m
carried k lines now update vips numbers named entries after mark next j m h e g l newer used waited = record {
  current = λ v n a b.
      let o = h.current v n a b in
      (λ t. sum_then (λ r. (new_same j m e update v n).0 r) (o.0 t), λ t. o.1 (sum_then (λ r. (new_same j m e update v n).1 r) t));
  ungiven = ungiven_same j m e update (λ u. state_of u.vip u.given numbers ≡ Some Free) h.ungiven;
  given = given_same j m e update (λ u. named_at named u.vip u.given ≡ u.pool) h.given;
  pool = λ v n. h.pool v n ∙ ap pool_given (sym (l v n));
  some = h.some;
  last = λ v a.
      g v ∙ (h.last v a ∙ ap (λ n. Some (record { version = n; pool = named_at named v n })) (sym (newest_same j m e update vips v)));
  rises = h.rises;
  newer = newer;
  used = used;
  waited = waited;
}
