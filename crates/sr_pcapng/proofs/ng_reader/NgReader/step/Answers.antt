use Rattle.std.proofs.Common.{◌≡◌, suc, ◌-◌, Err, length, inr, ap, sym, ◌∙◌, arith}
use Rattle.std.proofs.lemmas.Result.{err_from_is_err_and}
use Rattle.std.proofs.lemmas.List.{length-drop, with_items_is}
use Rattle.sr_pcapng.specs.declared.stop.Stop.{Stop}
use Rattle.sr_pcapng.proofs.Blocks.{err_then}
use Rattle.sr_pcapng.proofs.Filling.{none_left}
use Rattle.sr_pcapng.proofs.Judged.{no_end}
use Rattle.sr_pcapng.proofs.Nexts.{sound_end, next_none, next_full, next_err, next_packet, next_pass, steps_err}
use Rattle.sr_pcapng.proofs.ng_reader.NgReader.step.Goals as goal

pub returns-then-n-eq0-clause-steps : goal.returns-then-n-eq0-clause-steps
returns-then-n-eq0-clause-steps g c = rw (← c.self.view_is) (λ xs h.
    let read = c.in_ok-n.ensures.bytes xs h in
    let none : length xs ≡ 0 = let n = read.0 in omega arith in
    let ended = next_none c.self.inside.room c.self.inside.offset c.self.inside.section xs none ∙ ap (λ (y : Stop). Err y) (sym c.at_end.ensures) in
    (inr ended, λ e. none_left _ _ _ read.2 (omega (arith, length-drop 8 xs))))

pub returns-then-self-eq0-clause-steps : goal.returns-then-self-eq0-clause-steps
returns-then-self-eq0-clause-steps g c = rw (← c.self.view_is) (λ xs h.
    let read = c.in_ok-n.ensures.bytes xs h in
    (inr (next_full c.self.inside.room c.self.inside.offset c.self.inside.section xs (omega arith) (λ none. let n = read.0 in omega arith)), λ e. absurd (cc e)))

pub returns-in_err-head-clause-steps : goal.returns-in_err-head-clause-steps
returns-in_err-head-clause-steps g c = rw (← c.self.view_is) (λ xs h.
    let r = err_from_is_err_and c.from_residual-in_err-head.result c.from_residual-in_err-head.ensures.1 in
    let why = c.in_err-head.field-0.0 in
    let read = c.in_ok-n.ensures.bytes xs h in
    let more : c.self.inside.room ≡ suc (c.self.inside.room - 1) = omega arith in
    let block = c.in_err-head.ensures.reads xs read.2 read.1 in
    steps_err why _ _ xs _ _ (r.1 ∙ ap (λ y. Err y) r.2)
    (err_then why _ _ block
    (next_err c.self.inside.room (c.self.inside.room - 1) c.self.inside.offset c.self.inside.section xs why more (λ none. let n = read.0 in omega arith)))
    (sound_end why _ block (no_end c.self.inside.section c.self.inside.offset xs why)))

pub returns-in-Some-clause-steps : goal.returns-in-Some-clause-steps
returns-in-Some-clause-steps g c = rw (← c.self.view_is) (λ xs h.
    let read = c.in_ok-n.ensures.bytes xs h in
    let f = c.in_ok-head.ensures.reads xs read.2 read.1 in
    let more : c.self.inside.room ≡ suc (c.self.inside.room - 1) = omega arith in
    let same : length c.read_block.new.packet ≡ c.self.inside.packet.len = omega (arith, c.deref_mut.ensures.len, ap length c.deref_mut.ensures.value) in
    record {
      captured = c.in-Some.head.captured;
      rest = f.rest;
      told = f.told;
      same =
          next_packet c.self.inside.room (c.self.inside.room - 1) c.self.inside.offset c.in_ok-head.size c.self.inside.section c.read_block.new.section xs f.rest _ c.read_block.new.packet c.in-Some.head _ more
          (λ none. let n = read.0 in omega arith) c.in-Some.is (with_items_is c.self.inside.packet c.read_block.new.packet same) f.same;
    })

pub returns-in-None-clause-steps : goal.returns-in-None-clause-steps
returns-in-None-clause-steps g c = rw (← c.self.view_is) (λ xs h.
    let read = c.in_ok-n.ensures.bytes xs h in
    let f = c.in_ok-head.ensures.reads xs read.2 read.1 in
    let more : c.self.inside.room ≡ suc (c.self.inside.room - 1) = omega arith in
    record {
      rest = f.rest;
      told = f.told;
      same =
          next_pass c.self.inside.room (c.self.inside.room - 1) c.self.inside.offset c.in_ok-head.size c.self.inside.section c.read_block.new.section xs f.rest c.read_block.new.packet _ more
          (λ none. let n = read.0 in omega arith) c.in-None.is f.same;
    })
