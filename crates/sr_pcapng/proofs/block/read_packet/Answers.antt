use Rattle.std.proofs.Common.{◌≡◌, ◌≤◌, ℕ, Err, take, drop, length, inr, ap, sym, subst, ◌∙◌, arith}
use Rattle.std.proofs.lemmas.Result.{err_from_is_err_and}
use Rattle.sr_io.proofs.Counting.{counts_then, counts_as}
use Rattle.sr_io.specs.Window.{WindowView, Pending}
use Rattle.sr_pcapng.specs.Front.{packet_of}
use Rattle.sr_pcapng.proofs.Filling.{looked}
use Rattle.sr_pcapng.proofs.Blocks.{gives_err, err_then, packet_err, packet_cut, packet_not_closed, packet_whole}
use Rattle.sr_pcapng.proofs.block.read_packet.Goals as goal

pub returns-in_err-head-clause-reads : goal.returns-in_err-head-clause-reads
returns-in_err-head-clause-reads g c = λ xs h.
    let r = err_from_is_err_and c.from_residual-in_err-head.result c.from_residual-in_err-head.ensures.1 in
    let why = c.in_err-head.field-0.0 in
    let left = (g.S.Source.known c.ready.new.source).left in
    let read = looked c.ready.new.self left xs 20 c.in_ok-ready.ensures.filled (c.ready.ensures.pending xs h) in
    let head = ap (packet_of c.endian-endian.result c.args.section.now.interfaces c.args.offset c.args.size) (sym (c.front.ensures ∙ read.0)) ∙ sym c.in_err-head.ensures.exact in
    gives_err _ why _ _ _ (r.1 ∙ ap (λ y. Err y) r.2) (inr (packet_err c.args.section.now c.endian-endian.result c.args.offset c.args.size xs why c.endian-endian.ensures head))

pub returns-then-branch-captured-clause-reads : goal.returns-then-branch-captured-clause-reads
returns-then-branch-captured-clause-reads g c = λ xs h.
    let left = (g.S.Source.known c.ready.new.source).left in
    let read = looked c.ready.new.self left xs 20 c.in_ok-ready.ensures.filled (c.ready.ensures.pending xs h) in
    let head = ap (packet_of c.endian-endian.result c.args.section.now.interfaces c.args.offset c.args.size) (sym (c.front.ensures ∙ read.0)) ∙ sym c.in_ok-head.ensures.exact in
    let taken = c.in_ok-fill.ensures.bytes (drop 20 xs) (subst (λ (v : WindowView). Pending v left (drop 20 xs)) (sym c.pass.ensures) read.1) in
    inr (packet_cut c.args.section.now c.endian-endian.result c.args.offset c.args.size xs c.in_ok-head.head c.endian-endian.ensures head (let n = taken.0 in omega arith))

pub returns-in_err-close-clause-reads : goal.returns-in_err-close-clause-reads
returns-in_err-close-clause-reads g c = λ xs h.
    let r = err_from_is_err_and c.from_residual-in_err-close.result c.from_residual-in_err-close.ensures.1 in
    let why = c.in_err-close.field-0.0 in
    let left = (g.S.Source.known c.ready.new.source).left in
    let read = looked c.ready.new.self left xs 20 c.in_ok-ready.ensures.filled (c.ready.ensures.pending xs h) in
    let head = ap (packet_of c.endian-endian.result c.args.section.now.interfaces c.args.offset c.args.size) (sym (c.front.ensures ∙ read.0)) ∙ sym c.in_ok-head.ensures.exact in
    let taken = c.in_ok-fill.ensures.bytes (drop 20 xs) (subst (λ (v : WindowView). Pending v left (drop 20 xs)) (sym c.pass.ensures) read.1) in
    let enough : c.in_ok-head.head.captured ≤ length (drop 20 xs) = let n = taken.0 in omega arith in
    gives_err _ why _ _ _ (r.1 ∙ ap (λ y. Err y) r.2)
    (err_then why _ _ (c.in_err-close.ensures.closes (drop c.in_ok-head.head.captured (drop 20 xs)) taken.2)
    (packet_not_closed c.args.section.now c.endian-endian.result c.args.offset c.args.size xs c.in_ok-head.head why c.endian-endian.ensures head enough))

pub returns-clause-reads : goal.returns-clause-reads
returns-clause-reads g c = λ xs h.
    let left = (g.S.Source.known c.ready.new.source).left in
    let read = looked c.ready.new.self left xs 20 c.in_ok-ready.ensures.filled (c.ready.ensures.pending xs h) in
    let head = ap (packet_of c.endian-endian.result c.args.section.now.interfaces c.args.offset c.args.size) (sym (c.front.ensures ∙ read.0)) ∙ sym c.in_ok-head.ensures.exact in
    let taken = c.in_ok-fill.ensures.bytes (drop 20 xs) (subst (λ (v : WindowView). Pending v left (drop 20 xs)) (sym c.pass.ensures) read.1) in
    let enough : c.in_ok-head.head.captured ≤ length (drop 20 xs) = let n = taken.0 in omega arith in
    let f = c.in_ok-close.ensures.closes (drop c.in_ok-head.head.captured (drop 20 xs)) taken.2 in
    let count : c.in_ok-fill.field-0 ≡ c.in_ok-head.head.captured = let n = taken.0 in omega arith in
    record {
      rest = f.rest;
      told = f.told;
      same =
          packet_whole c.args.section.now c.endian-endian.result c.args.offset c.args.size xs _ f.rest c.in_ok-head.head c.endian-endian.ensures head enough
          (ap (λ (n : ℕ). take n c.fill.new.into) (sym count) ∙ taken.1) f.same;
    }

pub returns-then-branch-captured-clause-faults : goal.returns-then-branch-captured-clause-faults
returns-then-branch-captured-clause-faults g c =
    counts_then (c.in_ok-ready.ensures.faults.still (λ e. absurd (cc e))) (counts_as (λ f. absurd (cc f)) (λ s. absurd (cc s)) c.in_ok-fill.ensures.faults)

pub returns-in_err-close-clause-faults : goal.returns-in_err-close-clause-faults
returns-in_err-close-clause-faults g c =
    let r = err_from_is_err_and c.from_residual-in_err-close.result c.from_residual-in_err-close.ensures.1 in
    counts_then (c.in_ok-fill.ensures.faults.still (λ e. absurd (cc e)) ∙ c.in_ok-ready.ensures.faults.still (λ e. absurd (cc e)))
    (counts_as (λ f. cc (r.1, r.2)) (λ s. cc (r.1, r.2)) c.in_err-close.ensures.faults)

pub returns-clause-faults : goal.returns-clause-faults
returns-clause-faults g c =
    counts_then (c.in_ok-fill.ensures.faults.still (λ e. absurd (cc e)) ∙ c.in_ok-ready.ensures.faults.still (λ e. absurd (cc e)))
    (counts_as (λ f. absurd (cc f)) (λ s. absurd (cc s)) c.in_ok-close.ensures.faults)
