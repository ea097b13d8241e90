use Rattle.std.proofs.Common.{◌≡◌, List, Option, Err, ap, sym, subst, ◌∙◌}
use Rattle.std.proofs.lemmas.Result.{err_from_is_err_and}
use Rattle.sr_io.specs.Window.{WindowView, Pending}
use Rattle.sr_io.proofs.Reading.{pending_new}
use Rattle.sr_capture.specs.Capture.{is_pcapng}
use Rattle.sr_capture.specs.Reader.{Begins}
use Rattle.sr_capture.proofs.Beginnings.{begins_not, pcapng_filled, stands_classic, stands_ng}
use Rattle.sr_capture.proofs.capture_reader.CaptureReader.begin.Goals as goal

pub returns-in_err-begin_through-clause-begins : goal.returns-in_err-begin_through-clause-begins
returns-in_err-begin_through-clause-begins g c = λ xs e.
    let r = err_from_is_err_and c.from_residual-in_err-begin_through.result c.from_residual-in_err-begin_through.ensures.1 in
    let why = c.in_err-begin_through.field-0.0 in
    let before = (g.S.Source.known c.args.source.now).left in
    let left = (g.S.Source.known c.begin_through.new.source).left in
    let start = subst (λ (v : WindowView). Pending v before xs) (sym c.in_ok-window.ensures) (pending_new _ before xs e) in
    let p = c.fill.ensures.reads.pending xs start in
    let form = sym (pcapng_filled c.fill.new.self _ xs c.in_ok-fill.ensures.filled p) ∙ ap is_pcapng (sym c.unread.ensures) ∙ sym c.is_pcapng.ensures ∙ c.if-is_pcapng.false in
    subst (λ z. Begins z xs left) (sym (r.1 ∙ ap (λ y. Err y) r.2)) (begins_not why xs left form (c.in_err-begin_through.ensures.header xs p))

pub returns-in_ok-begin-clause-begins : goal.returns-in_ok-begin-clause-begins
returns-in_ok-begin-clause-begins g c = λ xs e.
    let before = (g.S.Source.known c.args.source.now).left in
    let start = subst (λ (v : WindowView). Pending v before xs) (sym c.in_ok-window.ensures) (pending_new _ before xs e) in
    let p = c.fill.ensures.reads.pending xs start in
    let form = sym (pcapng_filled c.fill.new.self _ xs c.in_ok-fill.ensures.filled p) ∙ ap is_pcapng (sym c.unread.ensures) ∙ sym c.is_pcapng.ensures ∙ c.if-is_pcapng.true in
    stands_ng c.in_ok-begin.field-0 c.fill.new.self xs _ form c.in_ok-begin.ensures p

pub returns-in_ok-begin_through-clause-begins : goal.returns-in_ok-begin_through-clause-begins
returns-in_ok-begin_through-clause-begins g c = λ xs e.
    let before = (g.S.Source.known c.args.source.now).left in
    let start = subst (λ (v : WindowView). Pending v before xs) (sym c.in_ok-window.ensures) (pending_new _ before xs e) in
    let p = c.fill.ensures.reads.pending xs start in
    let form = sym (pcapng_filled c.fill.new.self _ xs c.in_ok-fill.ensures.filled p) ∙ ap is_pcapng (sym c.unread.ensures) ∙ sym c.is_pcapng.ensures ∙ c.if-is_pcapng.false in
    stands_classic c.in_ok-begin_through.field-0 xs _ form c.in_ok-begin_through.ensures.fresh.0 (c.in_ok-begin_through.ensures.header xs p)
