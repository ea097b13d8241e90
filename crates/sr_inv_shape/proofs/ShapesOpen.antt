-- Everything is in its range at the opening.
use Rattle.std.proofs.Common.{◌≡◌, ℕ, ◌-◌, [], ◌∷◌, length, replicate, sym, refl, ap, ◌∙◌, subst, arith}
use Rattle.std.proofs.lemmas.List.{length-replicate}
use Rattle.std.proofs.lemmas.List.FromFn.{length-map-range_with_len}
use Rattle.sr_inv_facts.proofs.Lists.{end_whole, all_same, ranged_at}
use Rattle.sr_inv_facts.specs.InShape.{InShape, StageFits, WordFits}
use Rattle.sr_inv_facts.specs.Laws.{OpensWith}
use Rattle.sr_machine.specs.Opening.{opening_controller, opening_pipes}
use Rattle.sr_machine.specs.Pipe.{fresh_pipe}
use Rattle.sr_machine.specs.Reads.{steady}
use Rattle.sr_update.specs.Numbers.{opening_row}
use Rattle.sr_update.specs.Updates.{gives_after}
use Rattle.sr_update.specs.declared.number_state.NumberState.TheVariants as state

pub shapes_open : OpensWith InShape
unfolding opening_controller opening_pipes
shapes_open k f = record {
  config = f;
  pipes = record {
    count = length-map-range_with_len fresh_pipe 0 k.layout.shape.pipes;
    number = λ p v e. ap (λ u. u.number) (ranged_at fresh_pipe 0 k.layout.shape.pipes p v e) ∙ omega arith;
    stage = λ p v e. subst (λ u. StageFits k.layout u.stage) (sym (ranged_at fresh_pipe 0 k.layout.shape.pipes p v e)) tt;
  };
  book = record { entries = tt; distinct = tt; rising = omega arith };
  controller = record {
    vips = length-replicate k.layout.vips (steady 0);
    words = all_same (WordFits k.layout) k.layout.vips (steady 0) (record {
      cur = omega (arith, f.layout.versions.0);
      next = omega (arith, f.layout.versions.0);
      fits = refl;
    });
    numbers = record {
      count = length-replicate k.layout.vips (opening_row k.layout.shape.versions);
      each = all_same (λ row. length row ≡ k.layout.shape.versions) k.layout.vips (opening_row k.layout.shape.versions) (omega (arith, f.layout.versions.0, length-replicate (k.layout.shape.versions - 1) state.Free));
    };
    named = record {
      count = length-replicate k.layout.vips (1 ∷ replicate (k.layout.shape.versions - 1) 0);
      each = all_same (λ row. length row ≡ k.layout.shape.versions) k.layout.vips (1 ∷ replicate (k.layout.shape.versions - 1) 0) (let zeros : ℕ = 0 in omega (arith, f.layout.versions.0, length-replicate (k.layout.shape.versions - 1) zeros));
    };
    rings = length-replicate k.layout.shape.pipes (record { words = 0; punts = 0 });
    held = tt;
    mark = omega arith;
    gives = end_whole (gives_after [] k.changes);
    outages = refl;
    job = tt;
  };
}
