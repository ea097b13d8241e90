-- A pipe's steps keep which connections are closed.
use Rattle.std.proofs.Common.{◌≡◌, ℕ, ◌+◌, ◌%◌, ◌<◌, Bool, true, false, ◌&&◌, ◌⊎◌, List, ◌++◌, if◌then◌else◌, ◌==◌, slice_get, slice_set, Some, None, Option, sym, refl, ap, ◌∙◌, subst, inl, inr, arith}
use Rattle.std.proofs.lemmas.Option.{same_Some}
use Rattle.sr_base.specs.Key.{KeyView}
use Rattle.sr_base.specs.RingWord.{packed_ring}
use Rattle.sr_base.specs.declared.kind.Kind.{Kind}
use Rattle.sr_base.specs.declared.kind.Kind.TheVariants.{Opener, Carry, Ending}
use Rattle.sr_base.specs.declared.ring_word.RingKind.{RingKind}
use Rattle.sr_base.specs.declared.ring_word.RingKind.TheVariants.{Learn, Punt, Close}
use Rattle.sr_base.specs.declared.ring_word.RingWord.{RingWord}
use Rattle.sr_inv_facts.proofs.Lists.{all_then}
use Rattle.sr_inv_facts.proofs.Pipes.{some_here}
use Rattle.sr_inv_facts.proofs.Printing.{prints, stage_prints}
use Rattle.sr_inv_facts.specs.InShape.{FlightFits, MayReport, StageFits, VerdictFits}
use Rattle.sr_inv_facts.specs.InSweeps.{ClosedAre, ClosedHold, HasEnded, IsEnding, IsRetiring}
use Rattle.sr_inv_facts.specs.InTicks.{same}
use Rattle.sr_inv_facts.specs.Invariant.{Invariant}
use Rattle.sr_inv_facts.specs.Readings.{IfClose, from_place, ring_words}
use Rattle.sr_inv_sweeps.proofs.Ending.{ended_after}
use Rattle.sr_law.specs.declared.line.Line.{Line}
use Rattle.sr_law.specs.declared.verdict.Verdict.{Verdict}
use Rattle.sr_machine.proofs.Written.{report_read}
use Rattle.sr_machine.specs.Core.{Core, printed}
use Rattle.sr_machine.specs.Deciding.{ring_count}
use Rattle.sr_machine.specs.Keeping.{AfterStage}
use Rattle.sr_machine.specs.Ops.{op_answer, op_name, op_words}
use Rattle.sr_machine.specs.Pipe.{pipe_after, pipe_op}
use Rattle.sr_machine.specs.Reads.{read_report}
use Rattle.sr_machine.specs.Stages.{report_by, report_of, stage_after}
use Rattle.sr_machine.specs.declared.flight.Flight.{Flight}
use Rattle.sr_machine.specs.declared.leg.Leg.TheVariants.{Chosen, Judged}
use Rattle.sr_machine.specs.declared.op.Op.{Op}
use Rattle.sr_machine.specs.declared.pipe_view.PipeView.{PipeView}
use Rattle.sr_machine.specs.declared.stage.Stage.{Stage}
use Rattle.sr_machine.specs.declared.stage.Stage.TheVariants.{Idle, Fly}
use Rattle.sr_machine.specs.declared.leg.Last.TheVariants as last
use Rattle.sr_machine.specs.declared.leg.Load.TheVariants as load
use Rattle.sr_law.specs.declared.verdict.Verdict.TheVariants as verdict
use Rattle.sr_machine.specs.declared.name.Name.TheVariants as name

pub if_close : (kind : RingKind) (P Q : Type 0) → (P → Q) → IfClose kind P → IfClose kind Q
if_close Learn P Q f h = tt
if_close Punt P Q f h = tt
if_close Close P Q f h = f h

module _ (s : Core) (i : Invariant s) (p : ℕ) (v : PipeView) (q : slice_get s.pipes p ≡ Some v) where
  -- a word of a ring is the one that was, or the report that the pipe stores
  abbrev RingsAre : Core → Type 0
  RingsAre t =
      (n c : ℕ) → (t.words (name.Ring n c) ≡ s.words (name.Ring n c))
      ⊎ ((f : Flight) × (u : Verdict) × (v.stage ≡ Fly f (Judged u last.Push)) × (t.words (name.Ring n c) ≡ report_of f u))

  rings_stage : (a : Stage) → v.stage ≡ a → AfterStage RingsAre s p v a (pipe_op s.config.layout v a)
  rings_stage Idle e = tt
  rings_stage (Fly f (Judged u last.Push)) e = λ n c. at n c ((v.number == n) && ((v.pushed % s.config.layout.shape.ring) == c))
    where
      at : (n c : ℕ) (b : Bool)
          → ((if b then report_of f u else s.words (name.Ring n c)) ≡ s.words (name.Ring n c))
          ⊎ ((g : Flight) × (z : Verdict) × (v.stage ≡ Fly g (Judged z last.Push)) × ((if b then report_of f u else s.words (name.Ring n c)) ≡ report_of g z))
      at n c true = inr (f, u, e, refl)
      at n c false = inl refl
  rings_stage (Fly f (Chosen n load.Head)) e = λ n c. inl refl
  rings_stage a e = λ n c. inl refl

  -- what an Ending packet stores is a report of its own connection
  own_report : (f : Flight) (u : Verdict) (x : ℕ) (r : RingWord) → v.stage ≡ Fly f (Judged u last.Push) → x ≡ report_of f u
      → read_report s.config.layout x ≡ Some r → (P : KeyView → Type 0) → (f.packet.kind ≡ Ending → P f.packet.key) → IfClose r.kind (P r.key)
  own_report f u x r e is read P h =
      let fits = subst (StageFits s.config.layout) e (i.shape.pipes.stage p v q) in
      at f.packet.kind refl u fits.1.1 fits.1.0 (ap (read_report s.config.layout) (sym is) ∙ read) fits.0
    where
      at : (kind : Kind) → f.packet.kind ≡ kind → (u : Verdict) → MayReport kind u → VerdictFits s.config.layout u
          → read_report s.config.layout (packed_ring (report_by f.packet.key kind u)) ≡ Some r → FlightFits s.config.layout f
          → IfClose r.kind (P r.key)
      at Opener k (verdict.To server version pool) m z g fits =
          let w : RingWord = record { kind = Learn; version = version; key = f.packet.key } in
          subst (λ y. IfClose y.kind (P y.key)) (same_Some w r (sym (report_read s.config.layout w (record { key = fits.packet.key; version = omega (arith, z.1, i.shape.config.layout.versions.1); tells = tt }) fits.packet.vip) ∙ g)) tt
      at Opener k u m z g fits =
          let w : RingWord = record { kind = Punt; version = 0; key = f.packet.key } in
          subst (λ y. IfClose y.kind (P y.key)) (same_Some w r (sym (report_read s.config.layout w (record { key = fits.packet.key; version = omega arith; tells = refl }) fits.packet.vip) ∙ g)) tt
      at Ending k u m z g fits =
          let w : RingWord = record { kind = Close; version = 0; key = f.packet.key } in
          subst (λ y. IfClose y.kind (P y.key)) (same_Some w r (sym (report_read s.config.layout w (record { key = fits.packet.key; version = omega arith; tells = refl }) fits.packet.vip) ∙ g)) (h k)
      at Carry k u m z g fits = absurd m

  closed_all : (a : Stage) (o : Option Op) → v.stage ≡ a
      → AfterStage (λ t. printed t ≡ prints v.number a (s.words name.Tick) ++ printed s) s p v a o → AfterStage RingsAre s p v a o
      → AfterStage ClosedAre s p v a o
  closed_all a None e lines rings = tt
  closed_all a (Some o) e lines rings =
      subst (ClosedHold s.config.layout (ring_words (op_words s.words o)) s.controller.rings (slice_set s.pipes p w) s.controller.book.entries s.controller.job)
      (sym lines) (record {
        closed = all_then (λ n. n.closed ≡ true → HasEnded s.pipes (printed s) n.key) (λ n. n.closed ≡ true → HasEnded (slice_set s.pipes p w) now n.key)
            (λ n h c. ended_after s i p v q a e w n.key (h c)) s.controller.book.entries i.sweeps.sweeps.ended.closed;
        closes = λ n m b c r read. at n m r b c read (rings n (((ring_count s.controller.rings n).words + m) % s.config.layout.shape.ring));
      })
    where
      x : ℕ
      x = op_answer o (s.words (op_name o))

      w : PipeView
      w = pipe_after s.config.layout v a (op_answer o (s.words (op_name o)))

      now : List Line
      now = prints v.number a (s.words name.Tick) ++ printed s

      at : (n m : ℕ) (r : RingWord) → n < s.config.layout.shape.pipes → m < s.config.layout.shape.ring
          → read_report s.config.layout (from_place s.config.layout s.controller.rings (ring_words (op_words s.words o)) n m) ≡ Some r
          → (op_words s.words o (name.Ring n (((ring_count s.controller.rings n).words + m) % s.config.layout.shape.ring))
          ≡ s.words (name.Ring n (((ring_count s.controller.rings n).words + m) % s.config.layout.shape.ring)))
          ⊎ ((f : Flight) × (u : Verdict) × (v.stage ≡ Fly f (Judged u last.Push)) × (op_words s.words o (name.Ring n (((ring_count s.controller.rings n).words + m) % s.config.layout.shape.ring)) ≡ report_of f u))
          → IfClose r.kind (HasEnded (slice_set s.pipes p w) now r.key ⊎ IsRetiring s.config.layout s.controller.job r.key n m)
      at n m r b c read (inl same) =
          if_close r.kind (HasEnded s.pipes (printed s) r.key ⊎ IsRetiring s.config.layout s.controller.job r.key n m) _
          (λ h. turn h) (i.sweeps.sweeps.ended.closes n m b c r (ap (read_report s.config.layout) (sym same) ∙ read))
        where
          turn : HasEnded s.pipes (printed s) r.key ⊎ IsRetiring s.config.layout s.controller.job r.key n m
              → HasEnded (slice_set s.pipes p w) now r.key ⊎ IsRetiring s.config.layout s.controller.job r.key n m
          turn (inl h) = inl (ended_after s i p v q a e w r.key h)
          turn (inr h) = inr h
      at n m r b c read (inr g) =
          own_report g.0 g.1 _ r g.2 g.3 read (λ key. HasEnded (slice_set s.pipes p w) now key ⊎ IsRetiring s.config.layout s.controller.job key n m)
          (λ kind. inl (inr (some_here s.pipes p v w q (λ n z. IsEnding g.0.packet.key z.stage)
          (subst (λ z. IsEnding g.0.packet.key (stage_after s.config.layout z x)) (sym g.2 ∙ e) (kind, refl)))))

  pub closed_stage : (a : Stage) → v.stage ≡ a → AfterStage ClosedAre s p v a (pipe_op s.config.layout v a)
  closed_stage a e = closed_all a (pipe_op s.config.layout v a) e (stage_prints s p v a i.ticks q) (rings_stage a e)
