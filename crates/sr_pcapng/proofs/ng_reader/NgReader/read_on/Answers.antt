use Rattle.std.proofs.Common.{Ok, refl, ap, sym, subst, ◌∙◌}
use Rattle.sr_pcapng.specs.Reader.{ReaderView, Steps, Keeps}
use Rattle.sr_pcapng.proofs.Nexts.{arrives_after, passes_after, answers_said, ends_said}
use Rattle.sr_pcapng.proofs.ng_reader.NgReader.read_on.Goals as goal

pub returns-in-Ok-Some-clause-packet : goal.returns-in-Ok-Some-clause-packet
returns-in-Ok-Some-clause-packet g c = λ xs h.
    let p = c.loop-head.invariant.passed xs h in
    let left = (g.S.Source.known c.step.new.source).left in
    let step = subst (λ o. Steps (Ok o) c.loop-head.self p.rest c.step.new.self left) c.in-Ok-Some.field-0-is (c.in-Ok-Some.ensures.steps p.rest p.told) in
    arrives_after _ _ _ _ _ _ _ _ (ap (λ (r : ReaderView). r.place.offset) (sym c.self.view_is)) p.same step

pub loop-head-preserved : goal.loop-head-preserved
loop-head-preserved g c =
    let keeps = subst (λ o. Keeps (Ok o) c.loop-head.self c.step.new.self) c.in-Ok-None.field-0-is c.in-Ok-None.ensures.bytes in
    record {
      going = keeps.0 ∙ c.loop-head.invariant.going;
      passed = λ xs h.
          let p = c.loop-head.invariant.passed xs h in
          let left = (g.S.Source.known c.step.new.source).left in
          let step = subst (λ o. Steps (Ok o) c.loop-head.self p.rest c.step.new.self left) c.in-Ok-None.field-0-is (c.in-Ok-None.ensures.steps p.rest p.told) in
          passes_after c.args.self.now c.loop-head.self c.step.new.self xs _ _ p step;
      still = c.in-Ok-None.ensures.faults.still (λ e. absurd (cc e)) ∙ c.loop-head.invariant.still;
    }

pub returns-in-Err-clause-packet : goal.returns-in-Err-clause-packet
returns-in-Err-clause-packet g c = λ xs h.
    let p = c.loop-head.invariant.passed xs h in
    answers_said c.said-why.result c.in-Err.stop _ _ _ _ c.said-why.ensures p.same (c.in-Err.ensures.steps p.rest p.told)

pub returns-in-Err-clause-ends : goal.returns-in-Err-clause-ends
returns-in-Err-clause-ends g c =
    ends_said c.said-why.result c.in-Err.stop _ c.said-why.ensures refl (ap (λ (r : ReaderView). r.bytes) c.self-in-loop-head.view_is ∙ c.in-Err.ensures.bytes.1)
