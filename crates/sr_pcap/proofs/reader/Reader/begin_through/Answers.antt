use Rattle.std.proofs.Common.{◌≡◌, ℕ, ◌≤◌, List, Option, Err, length, take, drop, ap, sym, subst, ◌∙◌, arith}
use Rattle.std.proofs.lemmas.List.{length-take-le}
use Rattle.std.proofs.lemmas.Result.{err_from_is_err_and}
use Rattle.sr_io.specs.Window.{WindowView, Pending, passed}
use Rattle.sr_io.proofs.Counting.{counts_as}
use Rattle.sr_io.proofs.Reading.{pending_pass}
use Rattle.sr_pcap.specs.declared.begin_refusal.BeginRefusal.TheVariants as begin
use Rattle.sr_pcap.specs.Format.{IsJudgedIn, header_of}
use Rattle.sr_pcap.specs.Reader.{Begins}
use Rattle.sr_pcap.proofs.Reading.{begins_not, header_pending}
use Rattle.sr_pcap.proofs.reader.Reader.begin_through.Goals as goal

pub returns-in_err-format-clause-header : goal.returns-in_err-format-clause-header
returns-in_err-format-clause-header g c = λ xs start.
    let r = err_from_is_err_and c.from_residual-in_err-format.result c.from_residual-in_err-format.ensures.1 in
    let why = c.in_err-format.field-0.0 in
    let w = c.fill.new.self in
    let left = (g.S.Source.known c.fill.new.source).left in
    let p = c.fill.ensures.reads.pending xs start in
    let header = ap header_of (sym c.unread.ensures) ∙ sym c.in_err-format.ensures.format in
    let judged = subst (λ (ys : List ℕ). IsJudgedIn (Err why) (length ys)) c.unread.ensures c.in_err-format.ensures.judged in
    subst (λ z. Begins z xs left) (sym (r.1 ∙ ap (λ y. Err y) r.2)) (begins_not why w xs left header judged c.in_ok-fill.ensures.filled p)

pub returns-in_err-format-clause-faults : goal.returns-in_err-format-clause-faults
returns-in_err-format-clause-faults g c =
    let r = err_from_is_err_and c.from_residual-in_err-format.result c.from_residual-in_err-format.ensures.1 in
    counts_as (λ f. let e : c.in_err-format.field-0.0 ≡ begin.ReadFault = cc (r.1, r.2) in absurd (subst (λ y. IsJudgedIn (Err y) (length c.unread.result.now)) e c.in_err-format.ensures.judged)) (λ s. cc)
    c.in_ok-fill.ensures.faults

pub returns-in_err-format-clause-memory : goal.returns-in_err-format-clause-memory
returns-in_err-format-clause-memory g c = λ f.
    let r = err_from_is_err_and c.from_residual-in_err-format.result c.from_residual-in_err-format.ensures.1 in
    let e : c.in_err-format.field-0.0 ≡ begin.Memory = cc (r.1, r.2) in
    absurd (subst (λ y. IsJudgedIn (Err y) (length c.unread.result.now)) e c.in_err-format.ensures.judged)

pub pass-requires : goal.pass-requires
pass-requires g c = let judged = c.in_ok-format.ensures.judged.0 in omega (arith, ap length c.unread.ensures)

pub invariant_of-result : goal.invariant_of-result
invariant_of-result g c =
    let judged = c.in_ok-format.ensures.judged.0 in
    let long : 24 ≤ length c.fill.new.self.unread = omega (arith, ap length c.unread.ensures) in
    let used : length c.pass.new.self.used ≡ 24 = ap (λ (w : WindowView). length w.used) c.pass.ensures ∙ length-take-le 24 c.fill.new.self.unread long in
    (omega arith, omega arith, ap (λ (w : WindowView). w.room) c.pass.ensures ∙ c.fill.ensures.reads.room ∙ c.requires.room)

pub returns-clause-header : goal.returns-clause-header
returns-clause-header g c = λ xs start.
    let w = c.fill.new.self in
    let judged = c.in_ok-format.ensures.judged.0 in
    let long : 24 ≤ length w.unread = omega (arith, ap length c.unread.ensures) in
    let left = (g.S.Source.known c.fill.new.source).left in
    let p = c.fill.ensures.reads.pending xs start in (
      sym (header_pending w left xs c.in_ok-fill.ensures.filled p) ∙ ap header_of (sym c.unread.ensures) ∙ sym c.in_ok-format.ensures.format,
      subst (λ (v : WindowView). Pending v left (drop 24 xs)) (sym c.pass.ensures) (pending_pass w left xs 24 long p),
    )

pub returns-clause-link : goal.returns-clause-link
returns-clause-link g c = c.in_ok-format.ensures.judged.1
