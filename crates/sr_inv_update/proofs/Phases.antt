-- Each step of the controller keeps an update in its phase.
use Rattle.std.proofs.Common.{◌≡◌, ℕ, ◌+◌, ◌<◌, Bool, true, false, not, ◌≢◌, List, length, IfSome, nat_lt, ◌==◌, slice_set, Some, None, Option, sym, refl, ap, ◌∙◌, subst, inl, inr, true≢false, arith, get_or-set_other, get_or-set_same}
use Rattle.std.proofs.lemmas.Bool.Decides.{nat_tests}
use Rattle.sr_base.specs.Key.{KeyView}
use Rattle.sr_base.specs.Layout.{LayoutView}
use Rattle.sr_base.specs.WordName.{filter_words}
use Rattle.sr_base.specs.declared.vip_word.Phase.{Phase}
use Rattle.sr_base.specs.declared.vip_word.Phase.TheVariants.{Steady, Recording, Holding, Transit}
use Rattle.sr_base.specs.declared.vip_word.VipWord.{VipWord}
use Rattle.sr_inv_facts.proofs.Lists.{of_some}
use Rattle.sr_inv_facts.specs.InShape.{JobFits, MayDrain}
use Rattle.sr_inv_facts.specs.InUpdate.{AtPhase, AtRest, IsAside, IsPlacing, IsWordOf, JobAt, UpdateFits, UpdateHolds, WaitAt}
use Rattle.sr_machine.specs.Config.{Config}
use Rattle.sr_machine.specs.Deciding.{update_pool, vip_at}
use Rattle.sr_machine.specs.Draws.{cleared_job, phase_job}
use Rattle.sr_machine.specs.Goes.{Goes}
use Rattle.sr_machine.specs.Jobs.{book_next}
use Rattle.sr_machine.specs.Reads.{steady}
use Rattle.sr_machine.specs.Stores.{is_last_filter, phase_word, vip_draw}
use Rattle.sr_machine.specs.Waiting.{all_passed, live_job, passed_phase, waited_job, waited_phase}
use Rattle.sr_machine.specs.declared.controller_view.ControllerView.{ControllerView}
use Rattle.sr_machine.specs.declared.job.Job.{Job}
use Rattle.sr_machine.specs.declared.pool_update.PoolUpdate.{PoolUpdate}
use Rattle.sr_machine.specs.declared.put.Aim.{Aim}
use Rattle.sr_machine.specs.declared.put.Put.{Put}
use Rattle.sr_machine.specs.declared.wait.Wait.{Wait}
use Rattle.sr_machine.specs.declared.why.Why.{Why}
use Rattle.sr_shadow.specs.declared.entry.Entry.{Entry}
use Rattle.sr_machine.specs.Goes as go
use Rattle.sr_machine.specs.declared.draw.Draw.TheVariants as draw
use Rattle.sr_machine.specs.declared.store.Store.TheVariants as store
use Rattle.sr_machine.specs.declared.wait.Wait.TheVariants as wait
use Rattle.sr_machine.specs.declared.why.Why.TheVariants as why
use Rattle.sr_machine.specs.declared.put.Aim.TheVariants as aim
use Rattle.sr_machine.specs.declared.job.Job.TheVariants as job

-- ---- the word of a virtual address after a write

pub vip_here : (vips : List VipWord) (vip : ℕ) (w : VipWord) → vip < length vips → vip_at (slice_set vips vip w) vip ≡ w
vip_here vips vip w h = get_or-set_same vips vip w (steady 0) h

pub vip_else : (vips : List VipWord) (vip other : ℕ) (w : VipWord) → other ≢ vip → vip_at (slice_set vips vip w) other ≡ vip_at vips other
vip_else vips vip other w h = get_or-set_other vips vip other w (steady 0) h

pub phase_of : (u : PoolUpdate) (p : Phase) → (phase_word u p).phase ≡ p
phase_of u Steady = refl
phase_of u Recording = refl
phase_of u Holding = refl
phase_of u Transit = refl

-- ---- steps that leave the update as it is

module _ (k : Config) (update : Option PoolUpdate) (vips : List VipWord) where
  rests : (u : PoolUpdate) → IsPlacing u (vip_at vips u.vip) → update ≡ Some u → AtRest update vips
  rests u h e = subst (λ o. AtRest o vips) (sym e) h

  at_phase : (u : PoolUpdate) (p : Phase) → JobAt k update vips (job.Draw (draw.Comes u p)) → JobAt k update vips (phase_job u p)
  at_phase u Steady h = h
  at_phase u Recording h = h
  at_phase u Holding h = h
  at_phase u Transit h = h

  at_passed_phase : (g pipe : ℕ) (u : PoolUpdate) (p : Phase) → JobAt k update vips (job.Pass g pipe (wait.Comes u p))
      → JobAt k update vips (passed_phase u p)
  at_passed_phase g pipe u Steady h = (h, omega arith)
  at_passed_phase g pipe u Recording h = h
  at_passed_phase g pipe u Holding h = h
  at_passed_phase g pipe u Transit h = h

  at_passed : (g pipe : ℕ) (w : Wait) → JobAt k update vips (job.Pass g pipe w) → JobAt k update vips (all_passed w)
  at_passed g pipe (wait.Judge p) h = h
  at_passed g pipe (wait.Live p) h = h
  at_passed g pipe (wait.Retire key) h = h
  at_passed g pipe (wait.Comes u p) h = at_passed_phase g pipe u p h
  at_passed g pipe (wait.Release vip n) h = h

  at_live : (words : List VipWord) (es : List Entry) (p : Put) (a : Aim) → AtRest update vips → JobAt k update vips (live_job words es p a)
  at_live words es p aim.Pending h = h
  at_live words es p (aim.Held o) h = h
  at_live words es p (aim.Move from planned) h = h

  at_waited_phase : (u : PoolUpdate) (p : Phase) → MayDrain (wait.Comes u p) → AtPhase update vips u p
      → JobAt k update vips (waited_phase u p)
  at_waited_phase u Steady m h = absurd m
  at_waited_phase u Recording m h = rests u (inl h.1) h.0
  at_waited_phase u Holding m h = absurd m
  at_waited_phase u Transit m h = rests u (inr h.1) h.0

  at_waited : (words : List VipWord) (es : List Entry) (w : Wait) → MayDrain w → WaitAt update vips w
      → JobAt k update vips (waited_job words es w)
  at_waited words es (wait.Judge p) m h = h
  at_waited words es (wait.Live p) m h = at_live words es p p.aim h
  at_waited words es (wait.Retire key) m h = h
  at_waited words es (wait.Comes u p) m h = at_waited_phase u p m h
  at_waited words es (wait.Release vip n) m h = h

  at_cleared : (key : KeyView) (w : Why) → AtRest update vips → JobAt k update vips (cleared_job key w)
  at_cleared key (why.Withdrawn None) h = h
  at_cleared key (why.Withdrawn (Some r)) h = h
  at_cleared key why.Source h = h
  at_cleared key (why.Retired n) h = h

-- a step that stores no phase, and isn't the last one of an update
abbrev pub IsPlain : LayoutView → Job → Type 0
IsPlain l (job.Store (store.Vip u p)) = ⊥
IsPlain l (job.Store (store.Filter u index)) = is_last_filter l index ≡ false
IsPlain l j = Unit {0}

pub at_goes : (k : Config) (c : ControllerView) (x : ℕ) (j m : Job) → Goes k c x j m → IsPlain k.layout j → JobFits k.layout j
    → JobAt k c.update c.vips j
    → JobAt k c.update c.vips m
at_goes k c x j m go.stays_free n f h = h
at_goes k c x j m (go.waits w) n f h = h
at_goes k c x j m (go.refused i) n f h = h
at_goes k c x j m (go.taken_down i) n f h = h
at_goes k c x j m (go.given u) n f h = h
at_goes k c x j m (go.comes u p) n f h = at_phase k c.update c.vips u p h
at_goes k c x j m (go.reserved p) n f h = h
at_goes k c x j m (go.placed p) n f h = h
at_goes k c x j m (go.cleared key place w) n f h = at_cleared k c.update c.vips key w h
at_goes k c x j m (go.retired key place i) n f h = h
at_goes k c x j m (go.answered r) n f h = h
at_goes k c x j m (go.sweep_begins ms e place s) n f h = h
at_goes k c x j m (go.sweep_empty ms e) n f h = h
at_goes k c x j m (go.swept from ms) n f h = h
at_goes k c x j m (go.downed i) n f h = h
at_goes k c x j m (go.member_next u i e) n f h = (h.0, more)
  where
    more : i + 1 < length (update_pool k u)
    more = at (nat_lt (i + 1) (length (update_pool k u))) refl e
      where
        at : (b : Bool) → nat_lt (i + 1) (length (update_pool k u)) ≡ b → not b ≡ false → i + 1 < length (update_pool k u)
        at true q r = grind (arith, nat_tests)
        at false q r = cc
at_goes k c x j m (go.member_last u i e) n f h = h.0
at_goes k c x j m (go.head u) n f h = h
at_goes k c x j m (go.phase_stored u p) n f h = absurd n
at_goes k c x j m (go.filter_next u i e) n f h = (h.0, more)
  where
    more : i + 1 < filter_words k.layout.shape
    more = at (nat_lt (i + 1) (filter_words k.layout.shape)) refl e
      where
        at : (b : Bool) → nat_lt (i + 1) (filter_words k.layout.shape) ≡ b → not b ≡ false → i + 1 < filter_words k.layout.shape
        at true q r = grind (arith, nat_tests)
        at false q r = cc
at_goes k c x j m (go.filter_last u i e) n f h = absurd (true≢false (sym e ∙ n))
at_goes k c x j m (go.reserve_stored p) n f h = h
at_goes k c x j m (go.judged_live p e) n f h = h
at_goes k c x j m (go.judged_withdrawn p e) n f h = h
at_goes k c x j m (go.emptied key place w) n f h = h
at_goes k c x j m (go.pass_stays g pipe w e) n f h = h
at_goes k c x j m (go.pass_next g pipe w e r) n f h = h
at_goes k c x j m (go.pass_last g pipe w e r) n f h = at_passed k c.update c.vips g pipe w h
at_goes k c x j m (go.drain_stays pipe count w e) n f h = h
at_goes k c x j m (go.drain_next pipe count w e r) n f h = h
at_goes k c x j m (go.drain_last pipe count w e r) n f h =
    at_waited k c.update c.vips c.vips (book_next k c (job.Drain pipe count w) x).entries w f.2 h
at_goes k c x j m (go.look_next pipe e r) n f h = h
at_goes k c x j m (go.look_last pipe e r) n f h = h
at_goes k c x j m (go.look_took pipe e) n f h = h
at_goes k c x j m (go.hit_next from ms key place i e at s) n f h = h
at_goes k c x j m (go.hit_last from ms key place i e) n f h = h

-- ---- a phase is stored

stored_draw : (k : Config) (update : Option PoolUpdate) (vips : List VipWord) (u : PoolUpdate) (p : Phase) → AtPhase update vips u p
    → JobAt k update vips (job.Draw (vip_draw u p))
stored_draw k update vips u Steady h = h
stored_draw k update vips u Recording h = h
stored_draw k update vips u Holding h = h
stored_draw k update vips u Transit h = h

-- the job that stores a phase has its update
pub storing : (k : Config) (update : Option PoolUpdate) (vips : List VipWord) (u : PoolUpdate) (p : Phase)
    → JobAt k update vips (job.Store (store.Vip u p)) → update ≡ Some u
storing k update vips u Steady h = h.0
storing k update vips u Recording h = h.0
storing k update vips u Holding h = h.0
storing k update vips u Transit h = h.0

aside_is : (update : Option PoolUpdate) (u : PoolUpdate) (vip : ℕ) → update ≡ Some u → IsAside update vip → vip ≢ u.vip
aside_is update u vip e h = subst (λ o. IsAside o vip) e h

pub phase_stored : (k : Config) (update : Option PoolUpdate) (vips : List VipWord) (u : PoolUpdate) (p : Phase) → length vips ≡ k.layout.vips
    → UpdateHolds k update vips (job.Store (store.Vip u p))
    → UpdateHolds k update (slice_set vips u.vip (phase_word u p)) (job.Draw (vip_draw u p))
phase_stored k update vips u p l h =
    let e : update ≡ Some u = storing k update vips u p h.phase in
    let fits : UpdateFits k u = of_some (UpdateFits k) update u h.fits e in
    let here : vip_at (slice_set vips u.vip (phase_word u p)) u.vip ≡ phase_word u p =
    vip_here vips u.vip (phase_word u p) (omega (arith, fits.vip, l)) in
    record {
      fits = h.fits;
      word = subst (λ o. IfSome o (λ w. IsWordOf w (vip_at (slice_set vips u.vip (phase_word u p)) w.vip))) (sym e) (inr (p, here));
      others = λ vip a. ap (λ w. w.phase) (vip_else vips u.vip vip (phase_word u p) (aside_is update u vip e a)) ∙ h.others vip a;
      phase = stored_draw k update (slice_set vips u.vip (phase_word u p)) u p (e, here);
    }

-- ---- an update is over

pub update_over : (k : Config) (update : Option PoolUpdate) (vips : List VipWord) (u : PoolUpdate) (index : ℕ)
    → UpdateHolds k update vips (job.Store (store.Filter u index)) → UpdateHolds k None vips job.Free
update_over k update vips u index h = record {
  fits = tt;
  word = tt;
  others = λ vip a. at vip (vip == u.vip) refl;
  phase = tt;
}
  where
    at : (vip : ℕ) (b : Bool) → (vip == u.vip) ≡ b → (vip_at vips vip).phase ≡ Steady
    at vip true q =
        let same : vip ≡ u.vip = grind (arith, nat_tests) in
        ap (λ n. (vip_at vips n).phase) same ∙ ap (λ w. w.phase) h.phase.0.1
    at vip false q =
        let other : vip ≢ u.vip = grind (arith, nat_tests) in
        h.others vip (subst (λ o. IsAside o vip) (sym h.phase.0.0) other)
