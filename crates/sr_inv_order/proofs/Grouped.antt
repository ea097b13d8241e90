-- Each line that is printed goes on with the update that is under way, and names the pool that comes next.
use Rattle.std.proofs.Common.{◌≡◌, ℕ, suc, ◌+◌, ◌≢◌, nat_lt, ◌==◌, ◌&&◌, not, Bool, true, false, List, [], ◌∷◌, length, Some, Option, is_some, if◌then◌else◌, sym, refl, ap, ◌∙◌, subst, arith}
use Rattle.std.proofs.lemmas.Bool.Decides.{nat_tests}
use Rattle.std.specs.List.{list_any}
use Rattle.sr_base.specs.declared.change.Change.{Change}
use Rattle.sr_base.specs.declared.vip_word.Phase.{Phase}
use Rattle.sr_base.specs.declared.vip_word.Phase.TheVariants.{Steady, Recording, Holding, Transit}
use Rattle.sr_base.specs.declared.vip_word.VipWord.{VipWord}
use Rattle.sr_inv_facts.proofs.Lists.{of_some}
use Rattle.sr_inv_facts.specs.Fitted.{IsFitted}
use Rattle.sr_inv_facts.specs.InCauses.{setup_of}
use Rattle.sr_inv_facts.specs.InUpdate.{At, AtFirst, AtPhase, JobAt, OnGiven, OnUngiven, UpdateFits, group_by, group_of_phase, newest}
use Rattle.sr_inv_facts.specs.Invariant.{Invariant}
use Rattle.sr_inv_order.proofs.Rising.{and_true, not_false}
use Rattle.sr_law.specs.Given.{has_pool, last_given}
use Rattle.sr_law.specs.Groups.{after_gives, goes_on, is_opening_give, is_over, keeps_groups, last_of_update, names_next_pool, was_given, was_given_past, was_switched}
use Rattle.sr_law.specs.Pools.{pool_of, pools_from}
use Rattle.sr_law.specs.declared.line.Line.{Line}
use Rattle.sr_machine.specs.Config.{Config}
use Rattle.sr_machine.specs.Core.{Core, printed}
use Rattle.sr_machine.specs.Deciding.{named_at, vip_at}
use Rattle.sr_machine.specs.Draws.{phase_line}
use Rattle.sr_machine.specs.Reads.{steady}
use Rattle.sr_machine.specs.Stores.{phase_word}
use Rattle.sr_machine.specs.declared.job.Job.{Job}
use Rattle.sr_machine.specs.declared.pool_update.PoolUpdate.{PoolUpdate}
use Rattle.sr_machine.specs.declared.draw.Draw.TheVariants as draw
use Rattle.sr_machine.specs.declared.job.Job.TheVariants as job
use Rattle.sr_law.specs.declared.line.Line.TheVariants as line

-- ---- the pools

pools_length : (from : ℕ) (first : List (List ℕ)) (changes : List Change) → length (pools_from from first changes) ≡ length first
pools_length from [] changes = refl
pools_length from (f ∷ rest) changes = ap suc (pools_length (from + 1) rest changes)

-- each virtual address has its pools
pub pools_count : (k : Config) → IsFitted k → length k.pools ≡ k.layout.vips
pools_count k f = ap length f.pools ∙ (pools_length 0 f.first k.changes ∙ f.fits.vips)

-- ---- the group

-- a line that goes on with the update is in its group
pub grouped : (s : Core) → Invariant s → (l : Line) → goes_on (last_of_update (after_gives s.config.layout.vips (printed s))) l ≡ true
    → names_next_pool s.config.pools (printed s) l ≡ true
    → keeps_groups (setup_of s.config) (printed s) l ≡ true
unfolding keeps_groups
grouped s i l on next =
    let count = pools_count s.config i.shape.config in
    let enough = i.update.changes.enough in
    at (length s.config.pools) count (nat_lt (length (printed s)) (length s.config.pools)) refl (grind (arith, nat_tests))
  where
    at : (n : ℕ) → n ≡ s.config.layout.vips → (b : Bool) → nat_lt (length (printed s)) (length s.config.pools) ≡ b → b ≡ false
        → ((if nat_lt (length (printed s)) (length s.config.pools) then is_opening_give (length (printed s)) l else goes_on (last_of_update (after_gives (length s.config.pools) (printed s))) l) && names_next_pool s.config.pools (printed s) l) ≡ true
    at n e true q r = cc
    at n e false q r =
        let turn : goes_on (last_of_update (after_gives (length s.config.pools) (printed s))) l ≡ true =
        ap (λ m. goes_on (last_of_update (after_gives m (printed s))) l) (pools_count s.config i.shape.config) ∙ on in
        subst (λ b. ((if b then is_opening_give (length (printed s)) l else goes_on (last_of_update (after_gives (length s.config.pools) (printed s))) l) && names_next_pool s.config.pools (printed s) l) ≡ true)
        (sym q) (and_true (goes_on (last_of_update (after_gives (length s.config.pools) (printed s))) l) (names_next_pool s.config.pools (printed s) l) turn next)

-- ---- an update's lines

module _ (s : Core) (i : Invariant s) where
  abbrev pub last_line : Option Line
  last_line = last_of_update (after_gives s.config.layout.vips (printed s))

  -- the open group, where this update is under way and its virtual address has this word
  group_at : (j : Job) → s.controller.job ≡ j → (u : PoolUpdate) (w : VipWord) → At s.controller.update s.controller.vips u w
      → group_of_phase u w j w.phase last_line ≡ true
  group_at j e u w a =
      subst (λ v. group_of_phase u v j v.phase last_line ≡ true) a.1
      (subst (λ o. group_by o s.controller.vips j last_line ≡ true) a.0
      (subst (λ m. group_by s.controller.update s.controller.vips m last_line ≡ true) e i.update.changes.group))

  pub phase_at : (j : Job) → s.controller.job ≡ j → JobAt s.config s.controller.update s.controller.vips j
  phase_at j e = subst (JobAt s.config s.controller.update s.controller.vips) e i.update.update.phase

  pub fits : (u : PoolUpdate) → s.controller.update ≡ Some u → UpdateFits s.config u
  fits u e = of_some (UpdateFits s.config) s.controller.update u i.update.update.fits e

  second : (f g : Option Line → Bool) (b : Bool) → b ≡ false → (if b then f else g) last_line ≡ true → g last_line ≡ true
  second f g true e h = cc
  second f g false e h = h

  first : (f g : Option Line → Bool) (b : Bool) → b ≡ true → (if b then f else g) last_line ≡ true → f last_line ≡ true
  first f g true e h = h
  first f g false e h = cc

  apart : (u : PoolUpdate) → u.replaced ≢ u.given → (u.replaced == u.given) ≡ false
  apart u h = grind (arith, nat_tests)

  alike : (n : ℕ) → (n == n) ≡ true
  alike n = grind (arith, nat_tests)

  -- a change begins where no update is under way
  pub given_over : (u : PoolUpdate) → s.controller.job ≡ job.Draw (draw.Given u) → is_over last_line ≡ true
  given_over u e =
      let a : AtFirst s.controller.update s.controller.vips u = phase_at (job.Draw (draw.Given u)) e in
      second is_over is_over (u.replaced == u.given) (apart u (fits u a.0).other)
      (group_at (job.Draw (draw.Given u)) e u (steady u.replaced) a)

  -- each phase comes after the one before it
  pub phase_goes_on : (u : PoolUpdate) (p : Phase) (t : ℕ) → s.controller.job ≡ job.Draw (draw.Comes u p)
      → goes_on last_line (phase_line u t p) ≡ true
  phase_goes_on u Recording t e =
      let a : AtFirst s.controller.update s.controller.vips u = phase_at (job.Draw (draw.Comes u Recording)) e in
      second is_over (was_given u.vip) (u.replaced == u.given) (apart u (fits u a.0).other)
      (group_at (job.Draw (draw.Comes u Recording)) e u (steady u.replaced) a)
  phase_goes_on u Holding t e =
      group_at (job.Draw (draw.Comes u Holding)) e u (phase_word u Recording) (phase_at (job.Draw (draw.Comes u Holding)) e)
  phase_goes_on u Transit t e =
      group_at (job.Draw (draw.Comes u Transit)) e u (phase_word u Transit) (phase_at (job.Draw (draw.Comes u Transit)) e)
  phase_goes_on u Steady t e =
      first (was_switched u.vip) is_over (u.given == u.given) (alike u.given)
      (group_at (job.Draw (draw.Comes u Steady)) e u (phase_word u Steady) (phase_at (job.Draw (draw.Comes u Steady)) e))

  -- ---- pools

  update_at : (j : Job) → s.controller.job ≡ j → (P : Option PoolUpdate → Job → Type 0) → P s.controller.update s.controller.job → (u : PoolUpdate)
      → s.controller.update ≡ Some u → P (Some u) j
  update_at j e P h u q = subst (λ m. P (Some u) m) e (subst (λ o. P o s.controller.job) q h)

  -- the pool that is given comes next
  pub given_next : (u : PoolUpdate) (t : ℕ) → s.controller.job ≡ job.Draw (draw.Given u)
      → names_next_pool s.config.pools (printed s) (line.Given t u.vip u.given u.pool) ≡ true
  given_next u t e =
      let a : AtFirst s.controller.update s.controller.vips u = phase_at (job.Draw (draw.Given u)) e in
      let new : OnUngiven (Some u) (job.Draw (draw.Given u)) (λ u. list_any (was_given_past u.vip u.pool) (printed s) ≡ false) =
      update_at (job.Draw (draw.Given u)) e (λ o j. OnUngiven o j (λ u. list_any (was_given_past u.vip u.pool) (printed s) ≡ false)) i.update.changes.new u a.0 in
      and_true (is_some (pool_of s.config.pools u.vip u.pool)) (not (list_any (was_given_past u.vip u.pool) (printed s))) (fits u a.0).pool
      (not_false (list_any (was_given_past u.vip u.pool) (printed s)) (new refl))

  switched_next : (u : PoolUpdate) → s.controller.job ≡ job.Draw (draw.Comes u Transit) → has_pool (last_given (printed s) u.vip) u.pool ≡ true
  switched_next u e =
      let a : AtPhase s.controller.update s.controller.vips u Transit = phase_at (job.Draw (draw.Comes u Transit)) e in
      let given : OnGiven (Some u) (job.Draw (draw.Comes u Transit)) (λ u. named_at s.controller.named u.vip u.given ≡ u.pool) =
      update_at (job.Draw (draw.Comes u Transit)) e (λ o j. OnGiven o j (λ u. named_at s.controller.named u.vip u.given ≡ u.pool)) i.update.versions.given u a.0 in
      let last = i.update.versions.last u.vip (fits u a.0).vip in
      let new : newest s.controller.update s.controller.vips s.controller.job u.vip ≡ u.given =
      ap (λ o. newest o s.controller.vips s.controller.job u.vip) a.0
      ∙ (ap (λ j. newest (Some u) s.controller.vips j u.vip) e ∙ ap (λ b. if b then u.given else (vip_at s.controller.vips u.vip).cur) (alike u.vip)) in
      ap (λ o. has_pool o u.pool) last
      ∙ (ap (λ n. named_at s.controller.named u.vip n == u.pool) new ∙ (ap (λ n. n == u.pool) (given refl) ∙ alike u.pool))

  -- the phase that switches names the pool that was given last
  pub phase_next : (u : PoolUpdate) (p : Phase) (t : ℕ) → s.controller.job ≡ job.Draw (draw.Comes u p)
      → names_next_pool s.config.pools (printed s) (phase_line u t p) ≡ true
  phase_next u Steady t e = refl
  phase_next u Recording t e = refl
  phase_next u Holding t e = refl
  phase_next u Transit t e = switched_next u e
