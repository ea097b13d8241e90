use Rattle.std.proofs.Common.{◌≡◌, ◌+◌, ◌-◌, ap, subst, ◌∙◌, arith}
use Rattle.sr_io.specs.Sink.{Writes}
use Rattle.sr_io.specs.declared.sink.Put.TheVariants.{All, Failed}
use Rattle.sr_io.proofs.Writing.{Wrote, wrote_more, wrote_failed, wrote_all}
use Rattle.sr_gen.specs.Capture.{records_from}
use Rattle.sr_gen.specs.Record.{record_of, record_with}
use Rattle.sr_gen.proofs.Listing.{records_step, records_none}
use Rattle.sr_gen.proofs.capture.write_records.Goals as goal

pub returns-in-Failed : goal.returns-in-Failed
returns-in-Failed g c =
    let known = g.K.Sink.known in
    let number = c.args.number in
    let packets = c.args.packets in
    let t = c.loop-t.t in
    let so_far = subst (λ rest. Wrote (known c.args.sink.now) (known c.loop-t.sink) rest (records_from number 0 packets)) (records_step number t packets c.loop-t-test.true) c.loop-t.invariant.wrote in
    let bytes : c.record.result ≡ record_of number t = c.record.ensures ∙ ap (λ a. record_with t a) (c.take.ensures.connection number c.loop-t.invariant.turn) in
    let front = subst (λ b. Writes Failed (known c.loop-t.sink) (known c.write.new.self) b) bytes c.in-Failed.ensures in
    wrote_failed _ (records_from number (t + 1) (packets - (t + 1))) so_far front

pub loop-t-preserved : goal.loop-t-preserved
loop-t-preserved g c =
    let known = g.K.Sink.known in
    let number = c.args.number in
    let packets = c.args.packets in
    let t = c.loop-t.t in
    let so_far = subst (λ rest. Wrote (known c.args.sink.now) (known c.loop-t.sink) rest (records_from number 0 packets)) (records_step number t packets c.loop-t-test.true) c.loop-t.invariant.wrote in
    let bytes : c.record.result ≡ record_of number t = c.record.ensures ∙ ap (λ a. record_with t a) (c.take.ensures.connection number c.loop-t.invariant.turn) in
    let whole = subst (λ b. Writes All (known c.loop-t.sink) (known c.write.new.self) b) bytes c.in-All.ensures in
    record {
      wrote = wrote_more _ (records_from number (t + 1) (packets - (t + 1))) so_far whole;
      turn = c.take.ensures.after number c.loop-t.invariant.turn;
    }

pub returns : goal.returns
returns g c =
    let known = g.K.Sink.known in
    let number = c.args.number in
    let packets = c.args.packets in
    let none = records_none number c.loop-t.t packets (omega (arith, c.loop-t-test.false)) in
    wrote_all (subst (λ rest. Wrote (known c.args.sink.now) (known c.loop-t.sink) rest (records_from number 0 packets)) none c.loop-t.invariant.wrote)
