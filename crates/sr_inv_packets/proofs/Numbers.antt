-- A free version number is named nowhere, and the words of every other one hold its pool.
use Rattle.std.proofs.Common.{◌≡◌, ℕ, ◌<◌, Bool, true, false, ◌≢◌, ◌⊎◌, ◌==◌, Some, None, Option, sym, refl, ap, ◌∙◌, subst, inl, inr, arith}
use Rattle.std.proofs.lemmas.Bool.Decides.{nat_tests}
use Rattle.sr_base.specs.Key.{KeyView}
use Rattle.sr_base.specs.VipWord.{NextFits}
use Rattle.sr_base.specs.declared.place.Place.{Place}
use Rattle.sr_base.specs.declared.vip_word.Phase.{Phase}
use Rattle.sr_base.specs.declared.vip_word.Phase.TheVariants.{Steady, Recording, Holding, Transit}
use Rattle.sr_base.specs.declared.vip_word.VipWord.{VipWord}
use Rattle.sr_inv_facts.proofs.CurrentVersions.{given_current, loaded_current, phase_given, present_current, replaced_current}
use Rattle.sr_inv_facts.proofs.FoundVersions.{FoundEntry, FoundOver, stands_vip, version_found}
use Rattle.sr_inv_facts.proofs.Lists.{all_then, of_some}
use Rattle.sr_inv_facts.proofs.Ranges.{word_fits}
use Rattle.sr_inv_facts.specs.Doing.{HasEarlier, IsEarlier, word_before}
use Rattle.sr_inv_facts.specs.InFilter.{IsOfWord, ReportMarked}
use Rattle.sr_inv_facts.specs.InFlight.{FlightHolds, LegHolds}
use Rattle.sr_inv_facts.specs.InUpdate.{AtPhase, IsAside, IsWordOf, JobAt, JobWaited, is_used, is_used_by}
use Rattle.sr_inv_facts.specs.InWords.{HoldsPool}
use Rattle.sr_inv_facts.specs.Invariant.{Invariant}
use Rattle.sr_inv_facts.specs.Readings.{bit_words}
use Rattle.sr_inv_packets.proofs.Parts.{learn_then, leg_both, number_then}
use Rattle.sr_inv_packets.specs.Numbers.{FreeStandNowhere, IsUnnamed, IsUnused, UsedHoldPools}
use Rattle.sr_machine.proofs.Written.{vip_read}
use Rattle.sr_machine.specs.Core.{Core, printed}
use Rattle.sr_machine.specs.Deciding.{vip_at}
use Rattle.sr_machine.specs.Reads.{read_vip, says}
use Rattle.sr_machine.specs.Stores.{phase_word}
use Rattle.sr_machine.specs.declared.flight.Flight.{Flight}
use Rattle.sr_machine.specs.declared.job.Job.{Job}
use Rattle.sr_machine.specs.declared.leg.Leg.{Leg}
use Rattle.sr_machine.specs.declared.pipe_view.PipeView.{PipeView}
use Rattle.sr_machine.specs.declared.pool_update.PoolUpdate.{PoolUpdate}
use Rattle.sr_shadow.specs.Entry.{holds}
use Rattle.sr_update.proofs.Dues.{all_find}
use Rattle.sr_update.specs.Numbers.{NumberRows, state_of}
use Rattle.sr_update.specs.declared.number_state.NumberState.{NumberState}
use Rattle.sr_update.specs.declared.number_state.NumberState.TheVariants.{Free, Current, Draining}
use Rattle.sr_machine.specs.declared.draw.Draw.TheVariants as draw
use Rattle.sr_machine.specs.declared.job.Job.TheVariants as job
use Rattle.sr_machine.specs.declared.name.Name.TheVariants as name
use Rattle.sr_machine.specs.declared.said.Said.TheVariants as said
use Rattle.sr_machine.specs.declared.store.Store.TheVariants as store
use Rattle.sr_machine.specs.declared.wait.Wait.TheVariants as wait
use Rattle.sr_machine.specs.declared.why.Why.TheVariants as why

steady_next : (w : VipWord) → NextFits w.phase w.cur w.next → w.phase ≡ Steady → w.next ≡ w.cur
steady_next w f e = subst (λ p. NextFits p w.cur w.next) e f

current_not_free : (o : Option NumberState) → o ≡ Some Current → o ≡ Some Free → ⊥
current_not_free o e f = at (sym e ∙ f)
  where
    at : Some Current ≡ Some Free → ⊥
    at h = cc

used_not_free : (o : Option NumberState) → is_used_by o ≡ true → o ≡ Some Free → ⊥
used_not_free None u f = cc
used_not_free (Some Free) u f = cc
used_not_free (Some Current) u f = cc
used_not_free (Some Draining) u f = cc

module _ (s : Core) (i : Invariant s) where
  abbrev numbers : NumberRows
  numbers = s.controller.numbers

  -- ---- the next versions of words

  -- the next version of the word of an update's virtual address
  next_of : (u : PoolUpdate) → s.controller.update ≡ Some u → IsWordOf u (vip_at s.controller.vips u.vip)
      → state_of u.vip (vip_at s.controller.vips u.vip).next numbers ≡ Some Current
  next_of u e (inl h) = subst (λ w. state_of u.vip w.next numbers ≡ Some Current) (sym h) (replaced_current s i u e)
  next_of u e (inr (p, h)) = subst (λ w. state_of u.vip w.next numbers ≡ Some Current) (sym h) (by p h)
    where
      by : (p : Phase) → vip_at s.controller.vips u.vip ≡ phase_word u p → state_of u.vip (phase_word u p).next numbers ≡ Some Current
      by Steady g = given_current s i u e (phase_given s i u Steady e g)
      by Recording g = given_current s i u e (phase_given s i u Recording e g)
      by Holding g = given_current s i u e (phase_given s i u Holding e g)
      by Transit g = given_current s i u e (phase_given s i u Transit e g)

  aside_next : (vip : ℕ) → vip < s.config.layout.vips → IsAside s.controller.update vip
      → state_of vip (vip_at s.controller.vips vip).next numbers ≡ Some Current
  aside_next vip b a =
      let f = word_fits s.config i.shape.config.layout s.controller i.shape.book i.shape.controller vip in
      subst (λ m. state_of vip m numbers ≡ Some Current)
      (sym (steady_next (vip_at s.controller.vips vip) f.fits (i.update.update.others vip a)))
      (present_current s i vip b).cur

  present_next : (vip : ℕ) → vip < s.config.layout.vips → state_of vip (vip_at s.controller.vips vip).next numbers ≡ Some Current
  present_next vip b = at s.controller.update refl
    where
      at : (o : Option PoolUpdate) → s.controller.update ≡ o → state_of vip (vip_at s.controller.vips vip).next numbers ≡ Some Current
      at None e = aside_next vip b (subst (λ o. IsAside o vip) (sym e) tt)
      at (Some u) e = by (vip == u.vip) refl
        where
          by : (t : Bool) → (vip == u.vip) ≡ t → state_of vip (vip_at s.controller.vips vip).next numbers ≡ Some Current
          by true t =
              let same : vip ≡ u.vip = grind (arith, nat_tests) in
              subst (λ n. state_of n (vip_at s.controller.vips n).next numbers ≡ Some Current) (sym same)
              (next_of u e (of_some (λ w. IsWordOf w (vip_at s.controller.vips w.vip)) s.controller.update u i.update.update.word e))
          by false t =
              let other : vip ≢ u.vip = grind (arith, nat_tests) in
              aside_next vip b (subst (λ o. IsAside o vip) (sym e) other)

  -- and of the word before a phase
  before_next : (u : PoolUpdate) (q : Phase) → AtPhase s.controller.update s.controller.vips u q
      → state_of u.vip (word_before u q).next numbers ≡ Some Current
  before_next u Steady a = given_current s i u a.0 (phase_given s i u Steady a.0 a.1)
  before_next u Recording a = replaced_current s i u a.0
  before_next u Holding a = given_current s i u a.0 (phase_given s i u Holding a.0 a.1)
  before_next u Transit a = given_current s i u a.0 (phase_given s i u Transit a.0 a.1)

  earlier_of : (u : PoolUpdate) (q : Phase) (vip : ℕ) (w : VipWord) → AtPhase s.controller.update s.controller.vips u q → IsEarlier u q vip w
      → state_of vip w.next numbers ≡ Some Current
  earlier_of u q vip w a h =
      subst (λ n. state_of n w.next numbers ≡ Some Current) (sym h.0)
      (subst (λ z. state_of u.vip z.next numbers ≡ Some Current) (sym h.1) (before_next u q a))

  earlier_next : (j : Job) → JobAt s.config s.controller.update s.controller.vips j → (p entered vip : ℕ) (w : VipWord)
      → HasEarlier j p entered vip w
      → state_of vip w.next numbers ≡ Some Current
  earlier_next (job.Draw (draw.Grace (wait.Comes u q))) a p entered vip w h = earlier_of u q vip w a h
  earlier_next (job.Draw (draw.Comes u Steady)) a p entered vip w h = earlier_of u Steady vip w a h
  earlier_next (job.Draw (draw.Comes u Transit)) a p entered vip w h = earlier_of u Transit vip w a h
  earlier_next (job.Pass grace pipe (wait.Comes u q)) a p entered vip w h = earlier_of u q vip w a h.0
  earlier_next j a p entered vip w h = absurd h

  loaded_next : (p entered vip : ℕ) (w : VipWord) → vip < s.config.layout.vips
      → (w ≡ vip_at s.controller.vips vip) ⊎ HasEarlier s.controller.job p entered vip w
      → state_of vip w.next numbers ≡ Some Current
  loaded_next p entered vip w b (inl e) = subst (λ z. state_of vip z.next numbers ≡ Some Current) (sym e) (present_next vip b)
  loaded_next p entered vip w b (inr h) = earlier_next s.controller.job i.update.update.phase p entered vip w h

  -- ---- the word in memory

  pub vip_loaded : (vip : ℕ) → read_vip s.config.layout (s.words (name.Vip vip)) ≡ vip_at s.controller.vips vip
  vip_loaded vip =
      let l = s.config.layout in
      let w = vip_at s.controller.vips vip in
      let y = i.shape.config.layout in
      let f = word_fits s.config y s.controller i.shape.book i.shape.controller vip in
      ap (read_vip l) (i.words.others.vip vip)
      ∙ vip_read l w (record { cur = omega (arith, f.cur, y.versions.1); next = omega (arith, f.next, y.versions.1); fits = f.fits }) f.cur f.next

  -- ---- a free number

  module _ (vip n : ℕ) (b : vip < s.config.layout.vips) (free : state_of vip n numbers ≡ Some Free) where
    not_current : (m : ℕ) → state_of vip m numbers ≡ Some Current → m ≢ n
    not_current m c e = current_not_free (state_of vip m numbers) c (subst (λ z. state_of vip z numbers ≡ Some Free) (sym e) free)

    not_used : (m : ℕ) → is_used numbers vip m ≡ true → m ≢ n
    not_used m u e = used_not_free (state_of vip m numbers) u (subst (λ z. state_of vip z numbers ≡ Some Free) (sym e) free)

    word : IsUnnamed (vip_at s.controller.vips vip) n
    word = record {
      cur = not_current (vip_at s.controller.vips vip).cur (present_current s i vip b).cur;
      next = not_current (vip_at s.controller.vips vip).next (present_next vip b);
    }

    entry_not : (own : KeyView) (m : ℕ) → own.vip ≡ vip → is_used numbers own.vip m ≡ true → m ≢ n
    entry_not own m same u = not_used m (subst (λ z. is_used numbers z m ≡ true) same u)

    over_not : (j : Job) (place : Place) (key : KeyView) (m : ℕ) → key.vip ≡ vip
        → JobWaited s.controller.book.entries numbers s.controller.mark j → FoundOver s.config.layout j place key m
        → m ≢ n
    over_not (job.Store (store.Empty own at (why.Retired version))) place key m same w f =
        subst (λ z. z ≢ n) (sym f.1) (entry_not own version (stands_vip s.config.layout place own key f.2 ∙ same) w)
    over_not j place key m same w f = absurd f

    place_not : (place : Place) (key : KeyView) → key.vip ≡ vip → says s.config.layout place key (s.words (name.Entry place)) ≢ said.Live n
    place_not place key same e = at (version_found s i place key n e)
      where
        at : FoundEntry s.config.layout s.controller.book.entries place key n ⊎ FoundOver s.config.layout s.controller.job place key n → ⊥
        at (inl f) =
            let u = all_find (λ e. is_used numbers e.key.vip e.version ≡ true) (holds place) s.controller.book.entries f.entry i.update.versions.used f.holder in
            entry_not f.entry.key f.entry.version (stands_vip s.config.layout place f.entry.key key f.stands ∙ same) u (sym f.version)
        at (inr f) = over_not s.controller.job place key n same i.update.versions.waited f refl

    learn_not : (key : KeyView) (m : ℕ) → key.vip ≡ vip → IsOfWord (vip_at s.controller.vips key.vip) m → m ≢ n
    learn_not key m same (inl e) =
        subst (λ z. z ≢ n) (sym (e ∙ ap (λ v. (vip_at s.controller.vips v).cur) same)) word.cur
    learn_not key m same (inr (t, e)) =
        subst (λ z. z ≢ n) (sym (e ∙ ap (λ v. (vip_at s.controller.vips v).next) same)) word.next

    flight_not : (p : ℕ) (v : PipeView) (f : Flight) (leg : Leg) → FlightHolds s.controller.vips s.controller.job (printed s) p f
        → LegHolds s.config (bit_words s.words) s.controller.named numbers s.controller.rings s.controller.job p v.pushed f leg
        → f.packet.key.vip ≡ vip → IsUnused f leg n
    flight_not p v f leg a h same =
        let fits : f.packet.key.vip < s.config.layout.vips = subst (λ z. z < s.config.layout.vips) (sym same) b in
        let c = (loaded_current s i p f.entered f.packet.key.vip f.vip fits a.word).cur in
        let x = loaded_next p f.entered f.packet.key.vip f.vip fits a.word in
        record {
          loaded = record {
            cur = not_current f.vip.cur (subst (λ z. state_of z f.vip.cur numbers ≡ Some Current) same c);
            next = not_current f.vip.next (subst (λ z. state_of z f.vip.next numbers ≡ Some Current) same x);
          };
          chosen = number_then leg (λ m. is_used numbers f.packet.key.vip m ≡ true) (λ m. m ≢ n) (λ m u. entry_not f.packet.key m same u) h.used;
        }

pub nowhere : FreeStandNowhere
nowhere s i vip n b free = record {
  word = subst (λ w. IsUnnamed w n) (sym (vip_loaded s i vip)) (word s i vip n b free);
  places = place_not s i vip n b free;
  entries =
      all_then (λ e. is_used s.controller.numbers e.key.vip e.version ≡ true) (λ e. e.key.vip ≡ vip → e.version ≢ n)
      (λ e u same. entry_not s i vip n b free e.key e.version same u) s.controller.book.entries i.update.versions.used;
  learns = λ pipe cell w read.
      learn_then w.kind
      (ReportMarked s.config.layout (bit_words s.words) s.controller.update s.controller.vips s.controller.job w.key w.version)
      (w.key.vip ≡ vip → w.version ≢ n) (λ h same. learn_not s i vip n b free w.key w.version same h.0)
      (i.filter.filter.reports pipe cell w read);
  flights = λ p v q.
      leg_both v.stage (FlightHolds s.controller.vips s.controller.job (printed s) p)
      (LegHolds s.config (bit_words s.words) s.controller.named s.controller.numbers s.controller.rings s.controller.job p v.pushed)
      (λ f leg. f.packet.key.vip ≡ vip → IsUnused f leg n) (λ f leg a h. flight_not s i vip n b free p v f leg a h) (i.flight.flights p v q)
      (i.flight.legs p v q);
}

pub pools : UsedHoldPools
pools s i vip n is e f =
    subst (λ z. HoldsPool s.config s.words vip n z) (i.update.versions.pool vip n) (i.words.others.version vip n is e f)
