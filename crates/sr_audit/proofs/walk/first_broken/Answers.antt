use Rattle.std.proofs.Common.{◌≡◌, ◌+◌, ◌<◌, ◌∷◌, reverse, take, sym, ap, subst, ◌∙◌, arith}
use Rattle.std.proofs.lemmas.List.Elements.{All-weaker}
use Rattle.sr_law.specs.Retire.{endings_of}
use Rattle.sr_law.specs.Ticks.{out_of}
use Rattle.sr_law.proofs.Breaches.{first_zero}
use Rattle.sr_law.proofs.Newest.{newest_more}
use Rattle.sr_audit.specs.Audit.{IsLawfulSoFar, Tells}
use Rattle.sr_audit.specs.Endings.{AreEntered, TellsEndings}
use Rattle.sr_audit.specs.Lately.{AreOut, Falls}
use Rattle.sr_audit.proofs.Falling.{falls, places_kept, sweeps_rise}
use Rattle.sr_audit.proofs.Walked.{breach_found, none_more}
use Rattle.sr_audit.proofs.walk.first_broken.Goals as goal

pub loop-i-init : goal.loop-i-init
loop-i-init c = record {
  so_far = first_zero c.args.setup.now (endings_of (reverse c.args.lines.now));
  tells = c.in_ok-audit.ensures;
  lists = c.in_ok-endings.ensures.lists;
  entered = λ tick _. c.in_ok-endings.ensures.entered tick;
}

pub broken-requires-clause-falls : goal.broken-requires-clause-falls
broken-requires-clause-falls c =
    let lines = c.args.lines.now in
    falls c.args.setup.now (endings_of (reverse lines)) (reverse (take c.loop-i.i lines)) c.loop-i.invariant.so_far

pub broken-requires-clause-kept : goal.broken-requires-clause-kept
broken-requires-clause-kept c =
    let lines = c.args.lines.now in
    places_kept c.args.setup.now (endings_of (reverse lines)) (reverse (take c.loop-i.i lines)) c.loop-i.invariant.so_far

pub broken-requires-clause-rise : goal.broken-requires-clause-rise
broken-requires-clause-rise c =
    let lines = c.args.lines.now in
    sweeps_rise c.args.setup.now (endings_of (reverse lines)) (reverse (take c.loop-i.i lines)) c.loop-i.invariant.so_far

pub returns-in-Some : goal.returns-in-Some
returns-in-Some c =
    let lines = c.args.lines.now in
    let line = c.index-lines-i.result in
    let before = reverse (take c.loop-i.i lines) in
    let ended : AreOut (out_of line) before → TellsEndings c.advance.new.self (reverse lines) (out_of line) = λ out. record {
      lists = c.in_ok-advance.ensures.lists (reverse lines) c.loop-i.invariant.lists;
      entered = subst (AreEntered c.advance.new.self) c.out.ensures (c.in_ok-advance.ensures.entered (subst (AreEntered c.loop-i.endings) (sym c.out.ensures) (c.loop-i.invariant.entered (out_of line) out)));
      stops = λ d inside. let late = c.in_ok-advance.ensures.stops d inside in omega (arith, late, c.out.ensures);
    } in
    sym (breach_found c.args.setup.now (endings_of (reverse lines)) lines c.loop-i.i line c.in-Some.clause c.loop-i-test.true
    c.loop-i.invariant.so_far (sym c.index-lines-i.is) (sym (c.in-Some.ensures (reverse lines) ended)))

pub loop-i-preserved : goal.loop-i-preserved
loop-i-preserved c =
    let lines = c.args.lines.now in
    let i = c.loop-i.i in
    let line = c.index-lines-i.result in
    let setup = c.args.setup.now in
    let endings = endings_of (reverse lines) in
    let before = reverse (take i lines) in
    let list : reverse (take (i + 1) lines) ≡ line ∷ before =
    newest_more lines i line c.loop-i-test.true ∙ ap (λ x. x ∷ before) (sym c.index-lines-i.is) in
    let now : AreOut (out_of line) before → AreEntered c.advance.new.self (out_of line) = λ out.
    subst (AreEntered c.advance.new.self) c.out.ensures (c.in_ok-advance.ensures.entered (subst (AreEntered c.loop-i.endings) (sym c.out.ensures) (c.loop-i.invariant.entered (out_of line) out))) in
    let ended : AreOut (out_of line) before → TellsEndings c.advance.new.self (reverse lines) (out_of line) = λ out. record {
      lists = c.in_ok-advance.ensures.lists (reverse lines) c.loop-i.invariant.lists;
      entered = now out;
      stops = λ d inside. let late = c.in_ok-advance.ensures.stops d inside in omega (arith, late, c.out.ensures);
    } in
    let so_far = none_more setup endings lines i line c.loop-i-test.true c.loop-i.invariant.so_far (sym c.index-lines-i.is)
    (sym (c.broken.ensures (reverse lines) ended) ∙ c.in_default.is) in
    let fall : Falls (line ∷ before) = falls setup endings (line ∷ before) (subst (IsLawfulSoFar setup endings) list so_far) in
    record {
      so_far = so_far;
      tells = subst (λ l. Tells setup c.absorb.new.self l) (sym list) (c.in_ok-absorb.ensures c.loop-i.invariant.tells);
      lists = c.in_ok-advance.ensures.lists (reverse lines) c.loop-i.invariant.lists;
      entered = λ tick out.
          let later = subst (AreOut tick) list out in
          All-weaker (λ e. e.entered < out_of line) (λ e. e.entered < tick) (λ e sooner. omega (arith, sooner, later.0)) _ (now fall.1);
    }
