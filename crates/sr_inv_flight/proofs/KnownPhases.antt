-- A packet that loaded Holding or Transit entered before the line that ends it, if that line is out.
use Rattle.std.proofs.Common.{◌≡◌, ℕ, ◌-◌, ◌<◌, Bool, true, false, ◌≢◌, ◌⊎◌, List, ◌++◌, length, ◌==◌, slice_get, slice_set, Some, None, Option, option_to_list, sym, refl, ap, ◌∙◌, subst, inl, inr, arith}
use Rattle.std.proofs.lemmas.Bool.Decides.{nat_tests}
use Rattle.std.specs.List.{AllByRecursion}
use Rattle.sr_base.specs.declared.vip_word.Phase.{Phase}
use Rattle.sr_base.specs.declared.vip_word.Phase.TheVariants.{Steady, Recording, Holding, Transit}
use Rattle.sr_inv_facts.proofs.Lists.{all_then, ranged_at}
use Rattle.sr_inv_facts.proofs.Pipes.{each_then, each_turns}
use Rattle.sr_inv_facts.proofs.Printing.{job_tells, line_out, pipe_silent, prints, stage_prints, tells}
use Rattle.sr_inv_facts.specs.Fitted.{IsPacket}
use Rattle.sr_inv_facts.specs.Flying.{OnFlight}
use Rattle.sr_inv_facts.specs.InCauses.{endings_in, setup_of}
use Rattle.sr_inv_facts.specs.InFlight.{FlightHolds, PhasesKnown, WordKnown}
use Rattle.sr_inv_facts.specs.InUpdate.{IsAside, group_by, group_of_phase, group_transit}
use Rattle.sr_inv_facts.specs.Invariant.{Invariant}
use Rattle.sr_inv_facts.specs.Laws.{OpensWith}
use Rattle.sr_inv_facts.specs.Readings.{EachPipe}
use Rattle.sr_inv_flight.proofs.HoldLines.{finish_known, held_unfinished, held_unswitched, known_after, switch_known, switched_unfinished}
use Rattle.sr_inv_flight.proofs.LoadedWords.{entered_drawn, flight_then, leg_keeps, vip_loaded}
use Rattle.sr_inv_flight.proofs.Steps.{OnOp}
use Rattle.sr_law.specs.Groups.{after_gives, last_of_update, was_held, was_switched}
use Rattle.sr_law.specs.Ticks.{out_of}
use Rattle.sr_law.specs.declared.line.Line.{Line}
use Rattle.sr_machine.specs.Core.{Core, opening, printed}
use Rattle.sr_machine.specs.Deciding.{vip_at}
use Rattle.sr_machine.specs.Draws.{draw_line}
use Rattle.sr_machine.specs.Jobs.{job_op}
use Rattle.sr_machine.specs.Keeping.{AfterJob, AfterStage, Keeps, stage_core}
use Rattle.sr_machine.specs.Opening.{opening_pipes}
use Rattle.sr_machine.specs.Ops.{op_answer, op_name}
use Rattle.sr_machine.specs.Pipe.{fresh_pipe, pipe_after, pipe_op}
use Rattle.sr_machine.specs.Stages.{leg_op, stage_after}
use Rattle.sr_machine.specs.declared.flight.Flight.{Flight}
use Rattle.sr_machine.specs.declared.job.Job.{Job}
use Rattle.sr_machine.specs.declared.leg.Leg.{Leg}
use Rattle.sr_machine.specs.declared.leg.Leg.TheVariants.{Judged}
use Rattle.sr_machine.specs.declared.op.Op.{Op}
use Rattle.sr_machine.specs.declared.pipe_view.PipeView.{PipeView}
use Rattle.sr_machine.specs.declared.pool_update.PoolUpdate.{PoolUpdate}
use Rattle.sr_machine.specs.declared.stage.Stage.{Stage}
use Rattle.sr_machine.specs.declared.stage.Stage.TheVariants.{Idle, Enter, Note, Vip, Fly, Leave}
use Rattle.sr_machine.specs.declared.draw.Draw.TheVariants as draw
use Rattle.sr_machine.specs.declared.job.Job.TheVariants as job
use Rattle.sr_machine.specs.declared.leg.Last.TheVariants as last
use Rattle.sr_machine.specs.declared.name.Name.TheVariants as name
use Rattle.sr_machine.specs.declared.stage.Stage.TheVariants as stage

-- ---- the present words

steady_isnt : Steady ≡ Holding → ⊥
steady_isnt e = cc

steady_isnt_transit : Steady ≡ Transit → ⊥
steady_isnt_transit e = cc

transit_cases : (u : PoolUpdate) (j : Job) (o : Option Line) → group_transit u j o ≡ true
    → (was_held u.vip o ≡ true) ⊎ (was_switched u.vip o ≡ true)
transit_cases u (job.Draw (draw.Comes w Transit)) o h = inl h
transit_cases u j o h = inr h

module _ (s : Core) (i : Invariant s) where
  -- the last line of an update
  abbrev last_line : Option Line
  last_line = last_of_update (after_gives s.config.layout.vips (printed s))

  -- a virtual address that isn't Steady is the update's, whose open group is that of its phase
  abbrev Group : ℕ → Phase → Type 0
  Group vip p = (u : PoolUpdate) × (vip ≡ u.vip) × (group_of_phase u (vip_at s.controller.vips u.vip) s.controller.job p last_line ≡ true)

  grouped : (vip : ℕ) (p : Phase) → (vip_at s.controller.vips vip).phase ≡ p → (Steady ≡ p → ⊥) → Group vip p
  grouped vip p e n = at s.controller.update refl
    where
      at : (o : Option PoolUpdate) → s.controller.update ≡ o → Group vip p
      at None q = absurd (n (sym (i.update.update.others vip (subst (λ o. IsAside o vip) (sym q) tt)) ∙ e))
      at (Some u) q = by (vip == u.vip) refl
        where
          by : (b : Bool) → (vip == u.vip) ≡ b → Group vip p
          by true t =
              let same : vip ≡ u.vip = grind (arith, nat_tests) in
              let phase : (vip_at s.controller.vips u.vip).phase ≡ p = ap (λ v. (vip_at s.controller.vips v).phase) (sym same) ∙ e in (
                u,
                same,
                subst (λ z. group_of_phase u (vip_at s.controller.vips u.vip) s.controller.job z last_line ≡ true) phase
                    (subst (λ o. group_by o s.controller.vips s.controller.job last_line ≡ true) q i.update.changes.group),
              )
          by false t =
              let other : vip ≢ u.vip = grind (arith, nat_tests) in
              absurd (n (sym (i.update.update.others vip (subst (λ o. IsAside o vip) (sym q) other)) ∙ e))

  abbrev count : ℕ
  count = length (printed s) - s.config.layout.vips

  -- what the present word tells a packet, whenever it entered
  present_at : (vip start : ℕ) (p : Phase) → (vip_at s.controller.vips vip).phase ≡ p → WordKnown (printed s) vip start p
  present_at vip start Steady e = tt
  present_at vip start Recording e = tt
  present_at vip start Holding e =
      let g = grouped vip Holding e steady_isnt in
      switch_known (printed s) vip start
      (held_unswitched (setup_of s.config) (endings_in s.pipes (printed s)) vip (printed s) count i.causes.causes.clauses
      (ap (λ v. was_held v last_line) g.1 ∙ g.2))
  present_at vip start Transit e = by g.0 g.1 (transit_cases g.0 s.controller.job last_line g.2)
    where
      g : Group vip Transit
      g = grouped vip Transit e steady_isnt_transit

      by : (u : PoolUpdate) → vip ≡ u.vip → (was_held u.vip last_line ≡ true) ⊎ (was_switched u.vip last_line ≡ true)
          → WordKnown (printed s) vip start Transit
      by u same (inl h) =
          finish_known (printed s) vip start
          (held_unfinished (setup_of s.config) (endings_in s.pipes (printed s)) vip (printed s) count i.causes.causes.clauses
          (ap (λ v. was_held v last_line) same ∙ h))
      by u same (inr h) =
          finish_known (printed s) vip start
          (switched_unfinished (setup_of s.config) (endings_in s.pipes (printed s)) vip (printed s) count i.causes.causes.clauses
          (ap (λ v. was_switched v last_line) same ∙ h))

  pub present_known : (vip start : ℕ) → WordKnown (printed s) vip start (vip_at s.controller.vips vip).phase
  present_known vip start = present_at vip start (vip_at s.controller.vips vip).phase refl

-- ---- lines that are new

-- what a packet knows by these lines
abbrev Known : List Line → Flight → Type 0
Known lines f = WordKnown lines f.packet.key.vip f.entered f.vip.phase

-- lines that are out now are newer than every packet in flight
newer : (s : Core) (i : Invariant s) (new : List Line) → AllByRecursion (λ l. out_of l ≡ s.words name.Tick) new → (p : ℕ) (v : PipeView) (f : Flight) (leg : Leg)
    → slice_get s.pipes p ≡ Some v → v.stage ≡ Fly f leg
    → Known (printed s) f
    → Known (new ++ printed s) f
newer s i new a p v f leg r e h =
    let b = (entered_drawn s i.ticks p v f leg r e).1 in
    known_after new (printed s) f.packet.key.vip f.entered f.vip.phase
    (all_then (λ l. out_of l ≡ s.words name.Tick) (λ l. f.entered < out_of l) (λ l o. omega (arith, o, b)) new a) h

prints_now : (number : ℕ) (at : Stage) (x : ℕ) → AllByRecursion (λ l. out_of l ≡ x) (prints number at x)
prints_now number (Fly f (Judged v last.Out)) x = (refl, tt)
prints_now number at x = tt

tells_now : (s : Core) (j : Job) (x : ℕ) → AllByRecursion (λ l. out_of l ≡ x) (tells s.config s.controller j x)
tells_now s (job.Draw d) x = at (draw_line s.config s.controller d x) refl
  where
    at : (o : Option Line) → draw_line s.config s.controller d x ≡ o → AllByRecursion (λ l. out_of l ≡ x) (option_to_list o)
    at None e = tt
    at (Some l) e = (line_out s.config s.controller d x l e, tt)
tells_now s j x = tt

-- ---- a pipe's step

own_known : (s : Core) (i : Invariant s) (p : ℕ) (v : PipeView) (q : slice_get s.pipes p ≡ Some v) (at : Stage) → v.stage ≡ at → OnFlight at (Known (printed s))
    → OnOp (pipe_op s.config.layout v at)
    (λ o. OnFlight (stage_after s.config.layout at (op_answer o (s.words (op_name o)))) (Known (prints v.number at (s.words name.Tick) ++ printed s)))
own_known s i p v q Idle e h = tt
own_known s i p v q (Enter packet) e h = tt
own_known s i p v q (Note packet t) e h = tt
own_known s i p v q (Vip packet t) e h =
    subst (λ w. WordKnown (printed s) packet.key.vip t w.phase) (sym (vip_loaded s i packet.key.vip)) (present_known s i packet.key.vip t)
own_known s i p v q (Fly f leg) e h =
    leg_keeps s.config.layout f leg (op_answer (leg_op s.config.layout v.number v.pushed f leg) (s.words (op_name (leg_op s.config.layout v.number v.pushed f leg))))
    (Known (prints v.number (Fly f leg) (s.words name.Tick) ++ printed s))
    (newer s i (prints v.number (Fly f leg) (s.words name.Tick)) (prints_now v.number (Fly f leg) (s.words name.Tick)) p v f leg q e h)
own_known s i p v q (Leave f) e h = tt

stage_kept : (s : Core) (i : Invariant s) (p : ℕ) (v : PipeView) (q : slice_get s.pipes p ≡ Some v) (at : Stage) (o : Option Op) → PhasesKnown s
    → AfterStage (λ t. printed t ≡ prints v.number at (s.words name.Tick) ++ printed s) s p v at o
    → OnOp o (λ o. OnFlight (stage_after s.config.layout at (op_answer o (s.words (op_name o)))) (Known (prints v.number at (s.words name.Tick) ++ printed s)))
    → AfterStage PhasesKnown s p v at o
stage_kept s i p v q at None h t g = tt
stage_kept s i p v q at (Some o) h t g =
    let new = prints v.number at (s.words name.Tick) in
    let after = stage_core s p v at o in
    subst (λ lines. EachPipe (λ n u. OnFlight u.stage (Known lines)) after.pipes) (sym t)
    (each_turns s.pipes p v (pipe_after s.config.layout v at (op_answer o (s.words (op_name o)))) q (λ n u. OnFlight u.stage (Known (printed s)))
    (λ n u. OnFlight u.stage (Known (new ++ printed s))) h g
    (λ n u other r k.
    flight_then u.stage (Known (printed s)) (Known (new ++ printed s))
    (λ f leg e m. newer s i new (prints_now v.number at (s.words name.Tick)) n u f leg r e m) k))

-- ---- the controller's step

job_kept : (s : Core) (i : Invariant s) (j : Job) (o : Option Op) → PhasesKnown s
    → AfterJob (λ t. printed t ≡ tells s.config s.controller j (s.words name.Tick) ++ printed s) s j o
    → AfterJob PhasesKnown s j o
job_kept s i j None h t = tt
job_kept s i j (Some o) h t =
    let new = tells s.config s.controller j (s.words name.Tick) in
    subst (λ lines. EachPipe (λ n u. OnFlight u.stage (Known lines)) s.pipes) (sym t)
    (each_then (λ n u. OnFlight u.stage (Known (printed s))) (λ n u. OnFlight u.stage (Known (new ++ printed s))) s.pipes
    (λ n u r k.
    flight_then u.stage (Known (printed s)) (Known (new ++ printed s))
    (λ f leg e m. newer s i new (tells_now s j (s.words name.Tick)) n u f leg r e m) k) h)

-- ---- every event

enters_kept : (s : Core) (p : ℕ) (v w : PipeView) → slice_get s.pipes p ≡ Some v → w.lines ≡ v.lines → OnFlight w.stage (Known (printed s)) → PhasesKnown s
    → PhasesKnown (record s { pipes = slice_set s.pipes p w })
enters_kept s p v w q e g h =
    subst (λ lines. EachPipe (λ n u. OnFlight u.stage (Known lines)) (slice_set s.pipes p w)) (sym (pipe_silent s p v w q e s.words))
    (each_turns s.pipes p v w q (λ n u. OnFlight u.stage (Known (printed s))) (λ n u. OnFlight u.stage (Known (printed s))) h g (λ n u other r k. k))

pub known_keep : Keeps IsPacket Invariant PhasesKnown
known_keep = record {
  stages = λ s p v at q e i h.
      stage_kept s i p v q at (pipe_op s.config.layout v at) h (stage_prints s p v at i.ticks q)
      (own_known s i p v q at e (subst (λ z. OnFlight z (Known (printed s))) e (h p v q)));
  begins = λ s i h. h;
  jobs = λ s j q b i h. job_kept s i j (job_op s.config s.controller j) h (job_tells s j i.ticks);
  enters = λ s p v packet q r u n a i h. enters_kept s p v (record v { stage = stage.Enter packet }) q refl tt h;
  clocks = λ s ms q i h. h;
  refusals = λ s q i h. h;
}

pub known_part : (s : Core) → Invariant s → PhasesKnown s
known_part s i p v q =
    flight_then v.stage (FlightHolds s.controller.vips s.controller.job (printed s) p) (Known (printed s)) (λ f leg e h. h.known) (i.flight.flights p v q)

pub known_open : OpensWith PhasesKnown
unfolding opening_pipes
known_open k f p v e =
    subst (λ u. OnFlight u.stage (Known (printed (opening k)))) (sym (ranged_at fresh_pipe 0 k.layout.shape.pipes p v e)) tt
