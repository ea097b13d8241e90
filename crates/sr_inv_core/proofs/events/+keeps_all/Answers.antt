use Rattle.std.proofs.Common.{drop, refl, sym, subst}
use Rattle.sr_core.specs.HeldCore.{Shows, state_of}
use Rattle.sr_inv_core.specs.Keeps.{led}
use Rattle.sr_inv_core.proofs.Leading.{all_but_first, led_first, led_none, led_then, stands_then}
use Rattle.sr_inv_core.proofs.events.+keeps_all.Goals as goal

pub returns-in-None-clause-led : goal.returns-in-None-clause-led
returns-in-None-clause-led t c = λ words shown found.
    subst (λ z. Shows c.args.core.now z) (sym (led_none c.args.events.now (state_of c.args.core.now words) (sym c.in-None.ensures.value))) (words, shown, refl)

pub returns-in_default : goal.returns-in_default
returns-in_default t c = record {
  led = λ words shown found.
      subst (λ z. Shows c.keeps_all.new.core z) (sym (led_first c.args.events.now c.in-Some.first.now (state_of c.args.core.now words) (sym c.in-Some.ensures.value)))
      (led_then c.args.core.now c.keeps.new.core c.keeps_all.new.core (drop 1 c.args.events.now) words shown (λ w s. subst (λ z. Shows c.keeps_all.new.core (led z (state_of c.keeps.new.core w))) (all_but_first c.args.events.now) (c.keeps_all.ensures.led w s found))
      c.in-Some.first.now c.keeps.result (c.keeps.ensures.step words shown) c.in_default.not-Memory);
  kept = stands_then c.args.core.now c.keeps.new.core c.keeps_all.new.core c.keeps.ensures.kept c.keeps_all.ensures.kept;
}
