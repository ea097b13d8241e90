-- Each event keeps held openers.
use Rattle.std.proofs.Common.{◌≡◌, ℕ, zero, suc, ◌+◌, ◌-◌, ◌<◌, ◌≤◌, Bool, true, false, List, [], ◌∷◌, ◌++◌, map, drop, replicate, if◌then◌else◌, ◌==◌, slice_get, Some, None, Option, sym, refl, ap, ◌∙◌, subst, append_assoc, append-nil, arith}
use Rattle.std.proofs.lemmas.Bool.Decides.{nat_tests}
use Rattle.std.proofs.lemmas.List.Sums.{sum_by-cons}
use Rattle.std.proofs.lemmas.Option.{same_Some}
use Rattle.std.specs.List.{AllByRecursion, range_with_len}
use Rattle.sr_base.specs.Key.{KeyView}
use Rattle.sr_base.specs.declared.kind.Kind.{Kind}
use Rattle.sr_base.specs.declared.vip_word.Phase.{Phase}
use Rattle.sr_base.specs.declared.vip_word.Phase.TheVariants.{Steady, Recording, Holding, Transit}
use Rattle.sr_inv_facts.proofs.Lists.{all_got, all_more, all_same, all_then, dropped, got_or, ranged_at}
use Rattle.sr_inv_facts.proofs.OpeningLines.{given_all}
use Rattle.sr_inv_facts.proofs.Pipes.{idle}
use Rattle.sr_inv_facts.proofs.Printing.{below_next}
use Rattle.sr_inv_facts.proofs.Sums.{sum_least}
use Rattle.sr_inv_facts.specs.Fitted.{IsPacket}
use Rattle.sr_inv_facts.specs.InHeld.{AnswersHeld, InHeld, IsHeld, PipeHeld, Waiting, answered_by, answered_in, held_as, held_at, held_in_line, held_in_lines, held_of, waiting_by, waiting_in}
use Rattle.sr_inv_facts.specs.InJobs.{IsFirst, JobHolds, seen}
use Rattle.sr_inv_facts.specs.InShape.{JobFits}
use Rattle.sr_inv_facts.specs.InTicks.{same, line_times, lines_times, pipe_times, stage_times}
use Rattle.sr_inv_facts.specs.Invariant.{Invariant}
use Rattle.sr_inv_facts.specs.Laws.{OpensWith}
use Rattle.sr_inv_facts.specs.Readings.{ring_words}
use Rattle.sr_inv_held.proofs.JobsHeld.{answered_more, held_taken}
use Rattle.sr_inv_held.proofs.PipesKept.{enter_kept, stage_kept}
use Rattle.sr_law.specs.declared.line.Line.{Line}
use Rattle.sr_law.specs.declared.verdict.Verdict.{Verdict}
use Rattle.sr_machine.specs.Config.{Config}
use Rattle.sr_machine.specs.Core.{Core, printed}
use Rattle.sr_machine.specs.Deciding.{ring_count}
use Rattle.sr_machine.specs.Draws.{answer_line, draw_line, phase_line, with_line}
use Rattle.sr_machine.specs.Jobs.{held_next, job_op}
use Rattle.sr_machine.specs.Keeping.{AfterJob, Keeps, job_core}
use Rattle.sr_machine.specs.Opening.{opening_line, opening_controller, opening_lines, opening_pipes, opening_words}
use Rattle.sr_machine.specs.Pipe.{fresh_pipe}
use Rattle.sr_machine.specs.Taking.{ended_by}
use Rattle.sr_machine.specs.declared.draw.Draw.{Draw}
use Rattle.sr_machine.specs.declared.job.Job.{Job}
use Rattle.sr_machine.specs.declared.op.Op.TheVariants.{Adds}
use Rattle.sr_machine.specs.declared.pipe_view.PipeView.{PipeView}
use Rattle.sr_machine.specs.declared.pool_update.PoolUpdate.{PoolUpdate}
use Rattle.sr_machine.specs.declared.reply.Reply.{Reply}
use Rattle.sr_machine.specs.declared.stage.Stage.{Stage}
use Rattle.sr_machine.specs.declared.draw.Draw.TheVariants as draw
use Rattle.sr_machine.specs.declared.store.Store.TheVariants as store
use Rattle.sr_machine.specs.declared.job.Job.TheVariants as job
use Rattle.sr_machine.specs.declared.stage.Stage.TheVariants as stage
use Rattle.sr_machine.specs.declared.leg.Leg.TheVariants as leg
use Rattle.sr_machine.specs.declared.leg.Last.TheVariants as last
use Rattle.sr_law.specs.declared.verdict.Verdict.TheVariants as verdict
use Rattle.sr_law.specs.declared.line.Line.TheVariants as line
use Rattle.sr_machine.specs.declared.name.Name.TheVariants as name

-- ---- when a held opener entered

held_as_times : (v : Verdict) (number entered out pipe : ℕ) (key : KeyView) (kind : Kind)
    → AllByRecursion (λ w. 1 ≤ line_times w.entered (line.Packet number entered out pipe key kind v)) (held_as v (record { key = key; entered = entered }))
held_as_times (verdict.Held why) number entered out pipe key kind = (one, tt)
  where
    one : 1 ≤ same entered out + same entered entered
    one = at (entered == entered) (grind (arith, nat_tests))
      where
        at : (t : Bool) → t ≡ true → 1 ≤ same entered out + (if t then 1 else 0)
        at true e = omega arith
        at false e = cc
held_as_times v number entered out pipe key kind = tt

held_line_times : (l : Line) → AllByRecursion (λ w. 1 ≤ line_times w.entered l) (held_in_line l)
held_line_times (line.Packet number entered out pipe key kind v) = held_as_times v number entered out pipe key kind
held_line_times l = tt

held_lines_times : (lines : List Line) → AllByRecursion (λ w. 1 ≤ lines_times w.entered lines) (held_in_lines lines)
held_lines_times [] = tt
held_lines_times (l ∷ rest) =
    all_more (λ w. 1 ≤ lines_times w.entered (l ∷ rest)) (held_in_line l) (held_in_lines rest)
    (all_then (λ w. 1 ≤ line_times w.entered l) (λ w. 1 ≤ lines_times w.entered (l ∷ rest)) (λ w h. omega (arith, h, sum_by-cons (line_times w.entered) l rest)) (held_in_line l) (held_line_times l))
    (all_then (λ w. 1 ≤ lines_times w.entered rest) (λ w. 1 ≤ lines_times w.entered (l ∷ rest)) (λ w h. omega (arith, h, sum_by-cons (line_times w.entered) l rest)) (held_in_lines rest) (held_lines_times rest))

held_stage_times : (a : Stage) → AllByRecursion (λ w. 1 ≤ stage_times w.entered a) (held_at a)
held_stage_times (stage.Fly f (leg.Judged (verdict.Held why) last.Out)) = (at (f.entered == f.entered) (grind (arith, nat_tests)), tt)
  where
    at : (t : Bool) → t ≡ true → 1 ≤ (if t then 1 else 0)
    at true e = omega arith
    at false e = cc
held_stage_times (stage.Fly f (leg.Judged v last.Out)) = tt
held_stage_times a = tt

module _ (s : Core) (i : Invariant s) where
  held_before : (p : ℕ) (v : PipeView) → slice_get s.pipes p ≡ Some v → AllByRecursion (λ w. w.entered < s.words name.Tick) (held_of v)
  held_before p v q =
      all_more (λ w. w.entered < s.words name.Tick) (held_in_lines v.lines) (held_at v.stage)
      (all_then (λ w. 1 ≤ lines_times w.entered v.lines) (λ w. w.entered < s.words name.Tick) (λ w h. in_time w (omega (arith, h))) (held_in_lines v.lines) (held_lines_times v.lines))
      (all_then (λ w. 1 ≤ stage_times w.entered v.stage) (λ w. w.entered < s.words name.Tick) (λ w h. in_time w (omega (arith, h))) (held_at v.stage) (held_stage_times v.stage))
    where
      in_time : (w : Waiting) → 1 ≤ pipe_times w.entered v → w.entered < s.words name.Tick
      in_time w h =
          below_next w.entered (s.words name.Tick) (omega (arith, h, sum_least (pipe_times w.entered) s.pipes p v q, i.ticks.once w.entered))

  -- ---- an answer

  answered : (r : Reply) → s.controller.job ≡ job.Draw (draw.Answer r)
      → AfterJob InHeld s (job.Draw (draw.Answer r)) (job_op s.config s.controller (job.Draw (draw.Answer r)))
  answered r e = record {
    held = record {
      pipe = i.held.held.pipe;
      opener = dropped (λ h. IsHeld s.pipes h.pipe h.nth h.key (λ w. Unit {0})) s.controller.held i.held.held.opener;
      once = λ p b.
          ap (λ xs. xs ++ waiting_in p (drop 1 s.controller.held)) (answered_more p s.controller.lines a)
          ∙ (append_assoc (answered_in p s.controller.lines) (answered_by p a) (waiting_in p (drop 1 s.controller.held))
          ∙ (ap (λ xs. answered_in p s.controller.lines ++ xs) (sym (taken_first p))
          ∙ i.held.held.once p b));
      answer = all_more (AnswersHeld s.pipes) s.controller.lines (a ∷ []) i.held.held.answer (is, tt);
    };
  }
    where
      a : Line
      a = answer_line s.config s.controller r (s.words name.Tick)

      first : IsFirst r.held s.controller.held
      first = (subst (JobHolds s.config (seen s.controller) (printed s)) e i.jobs.holds.stands).first

      taken_first : (p : ℕ) → waiting_in p s.controller.held ≡ answered_by p a ++ waiting_in p (drop 1 s.controller.held)
      taken_first p = ap (waiting_in p) first.1 ∙ ap (λ xs. waiting_by p r.held ++ waiting_in p (drop 1 xs)) (sym first.1)

      is : IsHeld s.pipes r.held.pipe r.held.nth r.held.key (λ w. w.entered < s.words name.Tick)
      is v q =
          let was = (subst (AllByRecursion (λ h. IsHeld s.pipes h.pipe h.nth h.key (λ w. Unit {0}))) first.1 i.held.held.opener).0 v q in
          (was.0, was.1, was.2, all_got (λ w. w.entered < s.words name.Tick) (held_of v) (r.held.nth - 1) was.0 (held_before r.held.pipe v q) was.1)

  -- ---- other lines

  abbrev OffAnswer : Draw → Type 0
  OffAnswer (draw.Answer r) = ⊥
  OffAnswer d = Unit {0}

  abbrev IsUnanswering : Line → Type 0
  IsUnanswering l = ((p : ℕ) → answered_by p l ≡ []) × AnswersHeld s.pipes l

  phase_silent : (u : PoolUpdate) (p : Phase) (x : ℕ) → IsUnanswering (phase_line u x p)
  phase_silent u Steady x = (λ p. refl, tt)
  phase_silent u Recording x = (λ p. refl, tt)
  phase_silent u Holding x = (λ p. refl, tt)
  phase_silent u Transit x = (λ p. refl, tt)

  draw_silent : (d : Draw) (x : ℕ) (l : Line) → OffAnswer d → draw_line s.config s.controller d x ≡ Some l → IsUnanswering l
  draw_silent (draw.Grace w) x l off e = cc
  draw_silent (draw.From ms) x l off e = cc
  draw_silent (draw.Answer r) x l off e = absurd off
  draw_silent (draw.Comes u p) x l off e = subst IsUnanswering (same_Some (phase_line u x p) l e) (phase_silent u p x)
  draw_silent (draw.Refused n) x l off e = subst IsUnanswering (same_Some (line.Refused x n) l e) ((λ p. refl), tt)
  draw_silent (draw.TakenDown n) x l off e = subst IsUnanswering (same_Some (line.TakenDown x n) l e) ((λ p. refl), tt)
  draw_silent (draw.Given u) x l off e = subst IsUnanswering (same_Some (line.Given x u.vip u.given u.pool) l e) ((λ p. refl), tt)
  draw_silent (draw.Reserved p) x l off e = subst IsUnanswering (same_Some (line.Reserved x p.key p.place) l e) ((λ p. refl), tt)
  draw_silent (draw.Placed p) x l off e = subst IsUnanswering (same_Some (line.Placed x p.key p.place) l e) ((λ p. refl), tt)
  draw_silent (draw.Cleared key place w) x l off e = subst IsUnanswering (same_Some (line.Cleared x key place) l e) ((λ p. refl), tt)
  draw_silent (draw.Retired key place n) x l off e = subst IsUnanswering (same_Some (line.Retired x key) l e) ((λ p. refl), tt)
  draw_silent (draw.Swept from ms) x l off e = subst IsUnanswering (same_Some (line.Swept (s.controller.sweeps + 1) from x ms) l e) ((λ p. refl), tt)

  other_drawn : (d : Draw) → OffAnswer d → held_next s.config s.controller (job.Draw d) (s.words name.Tick) ≡ s.controller.held
      → InHeld (job_core s (job.Draw d) (Adds name.Tick 1))
  other_drawn d off kept = record {
    held = record {
      pipe = i.held.held.pipe;
      opener = subst (AllByRecursion (λ h. IsHeld s.pipes h.pipe h.nth h.key (λ w. Unit {0}))) (sym kept) i.held.held.opener;
      once = λ p b.
          ap (λ xs. xs ++ waiting_in p (held_next s.config s.controller (job.Draw d) (s.words name.Tick))) (lines_silent (draw_line s.config s.controller d (s.words name.Tick)) refl p)
          ∙ (ap (λ h. answered_in p s.controller.lines ++ waiting_in p h) kept ∙ i.held.held.once p b);
      answer = answers (draw_line s.config s.controller d (s.words name.Tick)) refl;
    };
  }
    where
      lines_silent : (o : Option Line) → draw_line s.config s.controller d (s.words name.Tick) ≡ o → (p : ℕ)
          → answered_in p (with_line s.controller.lines o) ≡ answered_in p s.controller.lines
      lines_silent None e p = refl
      lines_silent (Some l) e p =
          answered_more p s.controller.lines l
          ∙ (ap (λ xs. answered_in p s.controller.lines ++ xs) ((draw_silent d (s.words name.Tick) l off e).0 p) ∙ append-nil (answered_in p s.controller.lines))

      answers : (o : Option Line) → draw_line s.config s.controller d (s.words name.Tick) ≡ o
          → AllByRecursion (AnswersHeld s.pipes) (with_line s.controller.lines o)
      answers None e = i.held.held.answer
      answers (Some l) e =
          all_more (AnswersHeld s.pipes) s.controller.lines (l ∷ []) i.held.held.answer ((draw_silent d (s.words name.Tick) l off e).1, tt)

  job_kept : (j : Job) → s.controller.job ≡ j → AfterJob InHeld s j (job_op s.config s.controller j)
  job_kept job.Free e = tt
  job_kept (job.Draw (draw.Answer r)) e = answered r e
  job_kept (job.Draw d) e = other_drawn d tt refl
  job_kept (job.Drain pipe count w) e = record {
    held = held_taken s i pipe (subst (JobFits s.config.layout) e i.shape.controller.job).0 (ended_by (job.Drain pipe count w));
  }
  job_kept (job.Look pipe) e = record { held = held_taken s i pipe (subst (JobFits s.config.layout) e i.shape.controller.job) None }
  job_kept (job.Store (store.Down server)) e = record { held = i.held.held }
  job_kept j e = record { held = i.held.held }

pub helds_keep : Keeps IsPacket Invariant InHeld
helds_keep = record {
  stages = λ s p v a q e i f. stage_kept s i p v q a e;
  begins = λ s i f. record { held = f.held };
  jobs = λ s j q b i f. job_kept s i j q;
  enters = λ s p v packet q r u n a i f. enter_kept s i p v q packet (idle v.stage r);
  clocks = λ s ms q i f. record { held = f.held };
  refusals = λ s q i f. record { held = f.held };
}

-- ---- the opening

fresh_held : (k : Config) (p : ℕ) (v : PipeView) → slice_get (opening_pipes k) p ≡ Some v → v ≡ fresh_pipe p
unfolding opening_pipes
fresh_held k p v e = ranged_at fresh_pipe 0 k.layout.shape.pipes p v e ∙ ap fresh_pipe (omega arith)

none_taken_yet : (k : Config) (p : ℕ) → ring_count (opening_controller k).rings p ≡ record { words = 0; punts = 0 }
unfolding opening_controller
none_taken_yet k p =
    got_or (λ r. r ≡ record { words = 0; punts = 0 }) (replicate k.layout.shape.pipes (record { words = 0; punts = 0 })) p (record { words = 0; punts = 0 })
    (all_same (λ r. r ≡ record { words = 0; punts = 0 }) k.layout.shape.pipes (record { words = 0; punts = 0 }) refl) refl

none_answered : (p a n : ℕ) → answered_in p (map opening_line (range_with_len a n)) ≡ []
none_answered p a zero = refl
none_answered p a (suc n) = none_answered p (a + 1) n

pub helds_open : OpensWith InHeld
unfolding opening_controller opening_pipes opening_words
helds_open k f = record {
  held = record {
    pipe = λ p v e.
        subst (λ r. PipeHeld k.layout (ring_words (opening_words k) p) r v) (sym (none_taken_yet k p))
        (subst (PipeHeld k.layout (ring_words (opening_words k) p) (record { words = 0; punts = 0 })) (sym (fresh_held k p v e)) (record {
          count = omega arith;
          told = refl;
          reports = λ j b. omega arith;
        }));
    opener = tt;
    once = λ p b. append-nil (answered_in p (opening_lines k)) ∙ (none_answered p 0 k.layout.vips ∙ ap (λ r. range_with_len 1 r.punts) (sym (none_taken_yet k p)));
    answer = given_all (AnswersHeld (opening_pipes k)) (λ vip. tt) 0 k.layout.vips;
  };
}
