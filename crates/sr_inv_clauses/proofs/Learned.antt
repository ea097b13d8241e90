-- What an opener that is sent, or answered, goes by is the version that openers learn now; its pool is from the last switch on, and given.
use Rattle.std.proofs.Common.{◌≡◌, ℕ, ◌<◌, ◌≤◌, ◌&&◌, ◌==◌, nat_lt, Bool, true, false, ◌≢◌, ◌⊎◌, List, [], ◌∷◌, slice_get, Some, None, Option, if◌then◌else◌, sym, refl, ap, ◌∙◌, subst, inl, inr, arith}
use Rattle.std.proofs.lemmas.Bool.Decides.{nat_tests}
use Rattle.std.proofs.lemmas.Option.{same_Some}
use Rattle.std.specs.List.{AllByRecursion}
use Rattle.std.specs.Option.{option_or}
use Rattle.sr_base.specs.Key.{KeyView}
use Rattle.sr_base.specs.declared.kind.Kind.TheVariants.{Opener}
use Rattle.sr_base.specs.declared.vip_word.Phase.{Phase}
use Rattle.sr_base.specs.declared.vip_word.Phase.TheVariants.{Steady, Recording, Holding, Transit}
use Rattle.sr_base.specs.declared.vip_word.VipWord.{VipWord}
use Rattle.sr_inv_clauses.proofs.Choices.{leg_at}
use Rattle.sr_inv_facts.proofs.Lists.{of_some}
use Rattle.sr_inv_facts.specs.Doing.{HasEarlier, word_before}
use Rattle.sr_inv_facts.specs.Flying.{IfOpener, IsLeaving, OnFlight, SomeLeaving}
use Rattle.sr_inv_facts.specs.InFlight.{ChoosesBy, FlightHolds, HasWord}
use Rattle.sr_inv_facts.specs.InUpdate.{AtFirst, IsAside, IsWordOf, JobAt, OnGiven, SwitchesUpTo, is_ungiven, newest}
use Rattle.sr_inv_facts.specs.Invariant.{Invariant}
use Rattle.sr_inv_order.proofs.Rising.{and_true}
use Rattle.sr_law.specs.Given.{last_given}
use Rattle.sr_law.specs.Newer.{is_from, is_up_to, last_switched, switched_by}
use Rattle.sr_law.specs.declared.line.Line.{Line}
use Rattle.sr_machine.specs.Config.{Config}
use Rattle.sr_machine.specs.Core.{Core, printed}
use Rattle.sr_machine.specs.Deciding.{learned, learned_in, named_at, vip_at}
use Rattle.sr_machine.specs.Reads.{steady}
use Rattle.sr_machine.specs.Stores.{phase_word}
use Rattle.sr_machine.specs.declared.flight.Flight.{Flight}
use Rattle.sr_machine.specs.declared.job.Job.{Job}
use Rattle.sr_machine.specs.declared.leg.Leg.{Leg}
use Rattle.sr_machine.specs.declared.leg.Leg.TheVariants.{Judged}
use Rattle.sr_machine.specs.declared.pipe_view.PipeView.{PipeView}
use Rattle.sr_machine.specs.declared.pool_update.PoolUpdate.{PoolUpdate}
use Rattle.sr_machine.specs.declared.stage.Stage.{Stage}
use Rattle.sr_machine.specs.declared.stage.Stage.TheVariants.{Fly}
use Rattle.sr_machine.specs.declared.draw.Draw.TheVariants as draw
use Rattle.sr_machine.specs.declared.store.Store.TheVariants as store
use Rattle.sr_machine.specs.declared.wait.Wait.TheVariants as wait
use Rattle.sr_machine.specs.declared.job.Job.TheVariants as job
use Rattle.sr_machine.specs.declared.leg.Last.TheVariants as last
use Rattle.sr_law.specs.declared.line.Line.TheVariants as line
use Rattle.sr_law.specs.declared.verdict.Verdict.TheVariants as verdict

-- ---- a word before a phase

abbrev word_learned : VipWord → ℕ
word_learned w = learned_in w.phase w.cur w.next

-- openers learn by the word before a phase what they learn in it, but for those that are held
before_learned : (u : PoolUpdate) (q : Phase) → (word_before u q).phase ≢ Holding
    → word_learned (word_before u q) ≡ word_learned (phase_word u q)
before_learned u Steady h = refl
before_learned u Recording h = refl
before_learned u Holding h = refl
before_learned u Transit h = absurd (h refl)

-- the phase that is waited with
pub record IsWaited (o : Option PoolUpdate) (vips : List VipWord) (vip : ℕ) (w : VipWord) : Type 0 where
  pub update : PoolUpdate
  pub phase : Phase
  pub under_way : o ≡ Some update
  pub of : vip ≡ update.vip
  pub was : w ≡ word_before update phase
  pub is : vip_at vips update.vip ≡ phase_word update phase

pub earlier_waited : (k : Config) (update : Option PoolUpdate) (vips : List VipWord) (j : Job) (p entered vip : ℕ) (w : VipWord) → JobAt k update vips j
    → HasEarlier j p entered vip w → IsWaited update vips vip w
earlier_waited k update vips (job.Draw (draw.Grace (wait.Comes u q))) p entered vip w a h =
    record { update = u; phase = q; under_way = a.0; of = h.0; was = h.1; is = a.1 }
earlier_waited k update vips (job.Draw (draw.Comes u Steady)) p entered vip w a h =
    record { update = u; phase = Steady; under_way = a.0; of = h.0; was = h.1; is = a.1 }
earlier_waited k update vips (job.Draw (draw.Comes u Transit)) p entered vip w a h =
    record { update = u; phase = Transit; under_way = a.0; of = h.0; was = h.1; is = a.1 }
earlier_waited k update vips (job.Pass grace pipe (wait.Comes u q)) p entered vip w a h =
    record { update = u; phase = q; under_way = a.0; of = h.0.0; was = h.0.1; is = a.1 }
earlier_waited k update vips j p entered vip w a h = absurd h

module _ (s : Core) (i : Invariant s) where
  -- by whatever word that it loaded an opener chose, it is the version that is learned now
  word_now : (p : ℕ) (f : Flight) (version : ℕ) → HasWord s.controller.vips s.controller.job p f → ChoosesBy f.vip version
      → version ≡ learned s.controller.vips f.packet.key.vip
  word_now p f version (inl e) c = c.0 ∙ ap word_learned e
  word_now p f version (inr h) c =
      let w = earlier_waited s.config s.controller.update s.controller.vips s.controller.job p f.entered f.packet.key.vip f.vip i.update.update.phase h in
      let other : (word_before w.update w.phase).phase ≢ Holding = λ e. c.1 (ap (λ z. z.phase) w.was ∙ e) in
      c.0 ∙ (ap word_learned w.was ∙ (before_learned w.update w.phase other ∙ (ap word_learned (sym w.is) ∙ ap (learned s.controller.vips) (sym w.of))))

  pub flight_at : (p : ℕ) (v : PipeView) → slice_get s.pipes p ≡ Some v → (f : Flight) (leg : Leg) → v.stage ≡ Fly f leg
      → FlightHolds s.controller.vips s.controller.job (printed s) p f
  flight_at p v q f leg e = subst (λ a. OnFlight a (FlightHolds s.controller.vips s.controller.job (printed s) p)) e (i.flight.flights p v q)

  -- an opener that was sent goes by it
  pub sent_learned : (p : ℕ) (v : PipeView) → slice_get s.pipes p ≡ Some v → (f : Flight) (server version number : ℕ)
      → v.stage ≡ Fly f (Judged (verdict.To server version number) last.Out)
      → f.packet.kind ≡ Opener
      → version ≡ learned s.controller.vips f.packet.key.vip
  sent_learned p v q f server version number e kind =
      let choice = (leg_at s i p v q f (verdict.To server version number) e).choice in
      let opener : ChoosesBy f.vip version =
      subst (λ n. IfOpener n (ChoosesBy f.vip version)) kind choice in
      word_now p f version (flight_at p v q f (Judged (verdict.To server version number) last.Out) e).word opener

  -- so does one that is about to leave
  pub leaving_learned : (key : KeyView) (version : ℕ) → SomeLeaving s.pipes key version → version ≡ learned s.controller.vips key.vip
  leaving_learned key version (p, v, q, h) = at v.stage refl h
    where
      at : (a : Stage) → v.stage ≡ a → IsLeaving key version a → version ≡ learned s.controller.vips key.vip
      at (Fly f (Judged (verdict.To server n pool) last.Out)) e h =
          sym h.2 ∙ (sent_learned p v q f server n pool e h.0 ∙ ap (λ c. learned s.controller.vips c.vip) h.1)
      at a e h = absurd h

-- ---- its pool

switched_low : (pool : ℕ → ℕ) (lines : List Line) → AllByRecursion (SwitchesUpTo pool) lines → (vip t : ℕ)
    → is_from (last_switched lines vip t) (pool vip) ≡ true
switched_low pool [] a vip t = refl
switched_low pool (l ∷ rest) a vip t = at l a.0 (switched_low pool rest a.1 vip t)
  where
    by : (out to p : ℕ) (a b : Bool) → (to == vip) ≡ a → p ≤ pool to → is_from (last_switched rest vip t) (pool vip) ≡ true
        → is_from (option_or (if a && b then Some p else None) (last_switched rest vip t)) (pool vip) ≡ true
    by out to p true true e low more =
        let is : to ≡ vip = grind (arith, nat_tests) in
        let below : p ≤ pool vip = subst (λ n. p ≤ pool n) is low in
        grind (arith, nat_tests)
    by out to p true false e low more = more
    by out to p false b e low more = more

    at : (m : Line) → SwitchesUpTo pool m → is_from (last_switched rest vip t) (pool vip) ≡ true
        → is_from (option_or (switched_by m vip t) (last_switched rest vip t)) (pool vip) ≡ true
    at (line.Switched out to p) low more = by out to p (to == vip) (nat_lt out t) refl low more
    at m low more = more

phase_learned : (u : PoolUpdate) (p : Phase) → (word_learned (phase_word u p) ≡ u.replaced) ⊎ (word_learned (phase_word u p) ≡ u.given)
phase_learned u Steady = inr refl
phase_learned u Recording = inl refl
phase_learned u Holding = inl refl
phase_learned u Transit = inr refl

first_at : (k : Config) (update : Option PoolUpdate) (vips : List VipWord) (j : Job) → is_ungiven j ≡ true → JobAt k update vips j
    → (u : PoolUpdate) × AtFirst update vips u
first_at k update vips (job.Store (store.Member u index)) g a = (u, a.0)
first_at k update vips (job.Store (store.Head u)) g a = (u, a)
first_at k update vips (job.Draw (draw.Given u)) g a = (u, a)
first_at k update vips j g a = cc

module _ (s : Core) (i : Invariant s) where
  abbrev pool_at : ℕ → ℕ → ℕ
  pool_at vip version = named_at s.controller.named vip version

  -- the pool of what is learned isn't above that of what was given last
  pub learned_given : (vip : ℕ)
      → pool_at vip (learned s.controller.vips vip) ≤ pool_at vip (newest s.controller.update s.controller.vips s.controller.job vip)
  learned_given vip = at s.controller.update refl
    where
      steady_learned : (vip_at s.controller.vips vip).phase ≡ Steady → learned s.controller.vips vip ≡ (vip_at s.controller.vips vip).cur
      steady_learned e = ap (λ p. learned_in p (vip_at s.controller.vips vip).cur (vip_at s.controller.vips vip).next) e

      others : (o : Option PoolUpdate) → s.controller.update ≡ o → IsAside o vip
          → (vip_at s.controller.vips vip).phase ≡ Steady
      others o e a = i.update.update.others vip (subst (λ z. IsAside z vip) (sym e) a)

      by : (u : PoolUpdate) → s.controller.update ≡ Some u → vip ≡ u.vip → (b : Bool) → is_ungiven s.controller.job ≡ b
          → pool_at vip (learned s.controller.vips vip) ≤ pool_at vip (if b then u.replaced else u.given)
      by u e of true g =
          let f = first_at s.config s.controller.update s.controller.vips s.controller.job g i.update.update.phase in
          let same : f.0 ≡ u = same_Some f.0 u (sym f.1.0 ∙ e) in
          let word : vip_at s.controller.vips u.vip ≡ steady u.replaced = subst (λ z. vip_at s.controller.vips z.vip ≡ steady z.replaced) same f.1.1 in
          let is : learned s.controller.vips vip ≡ u.replaced = ap (learned s.controller.vips) of ∙ ap word_learned word in
          subst (λ n. pool_at vip (learned s.controller.vips vip) ≤ pool_at vip n) is (omega arith)
      by u e of false g = two (of_some (λ u. IsWordOf u (vip_at s.controller.vips u.vip)) s.controller.update u i.update.update.word e)
        where
          given : pool_at u.vip u.given ≡ u.pool
          given =
              subst (λ o. OnGiven o s.controller.job (λ u. named_at s.controller.named u.vip u.given ≡ u.pool)) e i.update.versions.given g

          rises : pool_at u.vip u.replaced < u.pool
          rises = of_some (λ u. named_at s.controller.named u.vip u.replaced < u.pool) s.controller.update u i.update.versions.rises e

          old : learned s.controller.vips vip ≡ u.replaced → pool_at vip (learned s.controller.vips vip) ≤ pool_at vip u.given
          old is =
              let here : pool_at vip u.replaced ≡ pool_at u.vip u.replaced = ap (λ n. pool_at n u.replaced) of in
              let there : pool_at vip u.given ≡ pool_at u.vip u.given = ap (λ n. pool_at n u.given) of in
              subst (λ n. pool_at vip n ≤ pool_at vip u.given) (sym is) (omega (arith, here, there, given, rises))

          new : learned s.controller.vips vip ≡ u.given → pool_at vip (learned s.controller.vips vip) ≤ pool_at vip u.given
          new is = subst (λ n. pool_at vip n ≤ pool_at vip u.given) (sym is) (omega arith)

          pick : (word_learned (vip_at s.controller.vips u.vip) ≡ u.replaced) ⊎ (word_learned (vip_at s.controller.vips u.vip) ≡ u.given)
              → pool_at vip (learned s.controller.vips vip) ≤ pool_at vip u.given
          pick (inl r) = old (ap (learned s.controller.vips) of ∙ r)
          pick (inr r) = new (ap (learned s.controller.vips) of ∙ r)

          two : IsWordOf u (vip_at s.controller.vips u.vip) → pool_at vip (learned s.controller.vips vip) ≤ pool_at vip u.given
          two (inl r) = old (ap (learned s.controller.vips) of ∙ ap word_learned r)
          two (inr (p, r)) =
              pick (subst (λ w. (word_learned w ≡ u.replaced) ⊎ (word_learned w ≡ u.given)) (sym r) (phase_learned u p))

      cases : (u : PoolUpdate) → s.controller.update ≡ Some u → (b : Bool) → (vip == u.vip) ≡ b
          → pool_at vip (learned s.controller.vips vip) ≤ pool_at vip (if b then (if is_ungiven s.controller.job then u.replaced else u.given) else (vip_at s.controller.vips vip).cur)
      cases u e true t =
          let of : vip ≡ u.vip = grind (arith, nat_tests) in
          by u e of (is_ungiven s.controller.job) refl
      cases u e false t =
          let other : vip ≢ u.vip = grind (arith, nat_tests) in
          subst (λ n. pool_at vip (learned s.controller.vips vip) ≤ pool_at vip n) (steady_learned (others (Some u) e other)) (omega arith)

      at : (o : Option PoolUpdate) → s.controller.update ≡ o
          → pool_at vip (learned s.controller.vips vip) ≤ pool_at vip (newest o s.controller.vips s.controller.job vip)
      at None e = subst (λ n. pool_at vip (learned s.controller.vips vip) ≤ pool_at vip n) (steady_learned (others None e tt)) (omega arith)
      at (Some u) e = cases u e (vip == u.vip) refl

  -- it is the pool of the last switch or a later one, and was given
  pub learned_pool : (vip t number : ℕ) → vip < s.config.layout.vips → pool_at vip (learned s.controller.vips vip) ≡ number
      → (is_from (last_switched (printed s) vip t) number && is_up_to (last_given (printed s) vip) number) ≡ true
  learned_pool vip t number h e =
      let from : is_from (last_switched (printed s) vip t) number ≡ true =
      subst (λ n. is_from (last_switched (printed s) vip t) n ≡ true) e (switched_low (λ vip. pool_at vip (learned s.controller.vips vip)) (printed s) i.update.versions.newer vip t) in
      let given = learned_given vip in
      let last = i.update.versions.last vip h in
      and_true (is_from (last_switched (printed s) vip t) number) (is_up_to (last_given (printed s) vip) number) from
      (ap (λ o. is_up_to o number) last ∙ grind (arith, nat_tests))
