use Rattle.std.proofs.Common.{ℕ, None, Ok, Err, take, drop, inl, inr, ap, sym, subst, ◌∙◌, arith}
use Rattle.std.proofs.lemmas.Result.{err_from_is_err_and}
use Rattle.sr_io.specs.Window.{Pending}
use Rattle.sr_pcapng.specs.Options.{option_of, walk}
use Rattle.sr_pcapng.specs.Reading.{Steps, Walks}
use Rattle.sr_pcapng.proofs.Walking.{walks_nothing, walks_value, walks_last, walks_error}
use Rattle.sr_pcapng.proofs.options.walk.Goals as goal

pub returns-in_err-size-clause-walks : goal.returns-in_err-size-clause-walks
returns-in_err-size-clause-walks g c = λ xs h.
    let r = err_from_is_err_and c.from_residual.result c.from_residual.ensures.1 in
    let why = c.in_err-size.field-0.0 in
    let w = c.loop-room.invariant.walked xs h in
    let step = c.in_err-size.ensures.steps w.rest w.told in
    let all = walk c.args.size c.args.endian c.args.offset c.args.size None xs in
    subst (λ z. Walks z all (Pending c.step.new.ahead (g.S.Source.known c.step.new.source).left)) (sym (r.1 ∙ ap (λ y. Err y) r.2))
    (elim step [
      | inl fault ↦ inl fault
      | inr e ↦ inr (walks_error c.args.endian c.args.offset c.loop-room.room c.loop-room.resolution _ all why w (omega arith) e)
    ])

pub loop-room-preserved : goal.loop-room-preserved
loop-room-preserved g c = record {
  within = let i = c.loop-room.invariant.within in omega arith;
  walked = λ xs h.
      let w = c.loop-room.invariant.walked xs h in
      let head = option_of c.args.endian c.args.offset c.loop-room.room (take 4 w.rest) in
      let step = subst (λ o. Steps (Ok o) head c.loop-room.resolution (drop 4 w.rest) (Pending c.step.new.ahead (g.S.Source.known c.step.new.source).left)) c.in-Some.is (c.in_ok-size.ensures.steps w.rest w.told) in
      walks_value c.args.endian c.args.offset c.loop-room.room c.loop-room.resolution c.in-Some.now c.in-Some.size _ _ _ w (omega arith) step;
  still = c.in_ok-size.ensures.faults.still (λ e. absurd (cc e)) ∙ c.loop-room.invariant.still;
}

pub returns-in-None-clause-walks : goal.returns-in-None-clause-walks
returns-in-None-clause-walks g c = λ xs h.
    let w = c.loop-room.invariant.walked xs h in
    let head = option_of c.args.endian c.args.offset c.loop-room.room (take 4 w.rest) in
    let step = subst (λ o. Steps (Ok o) head c.loop-room.resolution (drop 4 w.rest) (Pending c.step.new.ahead (g.S.Source.known c.step.new.source).left)) c.in-None.is (c.in_ok-size.ensures.steps w.rest w.told) in
    record {
      rest = drop 4 w.rest;
      told = step.1;
      same =
          walks_last c.args.endian c.args.offset c.loop-room.room c.loop-room.resolution _ _ w (omega arith) step.0
          ∙ ap (λ (n : ℕ). Ok (record { resolution = c.loop-room.resolution; more = n; rest = drop 4 w.rest })) (sym c.saturating_sub.ensures);
    }

pub returns-clause-walks : goal.returns-clause-walks
returns-clause-walks g c = λ xs h.
    let w = c.loop-room.invariant.walked xs h in
    record {
      rest = w.rest;
      told = w.told;
      same = walks_nothing c.args.endian c.args.offset c.loop-room.room c.loop-room.resolution _ _ w (omega arith);
    }
