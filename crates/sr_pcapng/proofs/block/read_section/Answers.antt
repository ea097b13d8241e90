use Rattle.std.proofs.Common.{Err, drop, inr, ap, sym, ◌∙◌}
use Rattle.std.proofs.lemmas.Result.{err_from_is_err_and}
use Rattle.sr_io.proofs.Counting.{counts_then, counts_as}
use Rattle.sr_pcapng.specs.Front.{header_of}
use Rattle.sr_pcapng.proofs.Blocks.{gives_err, err_then, section_err, section_not_closed, section_whole}
use Rattle.sr_pcapng.proofs.block.read_section.Goals as goal

pub returns-in_err-endian-clause-reads : goal.returns-in_err-endian-clause-reads
returns-in_err-endian-clause-reads g c = λ xs h.
    let r = err_from_is_err_and c.from_residual-in_err-endian.result c.from_residual-in_err-endian.ensures.1 in
    let why = c.in_err-endian.field-0.0 in
    let read = c.in_ok-n.ensures.bytes xs h in
    let head = ap (header_of c.args.offset c.args.size.now) (sym read.1) ∙ sym c.in_err-endian.ensures.exact in
    gives_err _ why _ _ _ (r.1 ∙ ap (λ y. Err y) r.2) (inr (section_err c.args.offset c.args.size.now xs why head))

pub returns-in_err-close-clause-reads : goal.returns-in_err-close-clause-reads
returns-in_err-close-clause-reads g c = λ xs h.
    let r = err_from_is_err_and c.from_residual-in_err-close.result c.from_residual-in_err-close.ensures.1 in
    let why = c.in_err-close.field-0.0 in
    let read = c.in_ok-n.ensures.bytes xs h in
    let head = ap (header_of c.args.offset c.args.size.now) (sym read.1) ∙ sym c.in_ok-endian.ensures.exact in
    gives_err _ why _ _ _ (r.1 ∙ ap (λ y. Err y) r.2)
    (err_then why _ _ (c.in_err-close.ensures.closes (drop 16 xs) read.2) (section_not_closed c.args.offset c.args.size.now xs (c.in_ok-endian.endian, c.in_ok-endian.size) why head))

pub returns-clause-reads : goal.returns-clause-reads
returns-clause-reads g c = λ xs h.
    let read = c.in_ok-n.ensures.bytes xs h in
    let head = ap (header_of c.args.offset c.args.size.now) (sym read.1) ∙ sym c.in_ok-endian.ensures.exact in
    let f = c.in_ok-close.ensures.closes (drop 16 xs) read.2 in
    record {
      rest = f.rest;
      told = f.told;
      same = section_whole c.args.offset c.args.size.now xs (c.in_ok-endian.endian, c.in_ok-endian.size) _ f.rest head c.begin.ensures f.same;
    }

pub returns-in_err-close-clause-faults : goal.returns-in_err-close-clause-faults
returns-in_err-close-clause-faults g c =
    let r = err_from_is_err_and c.from_residual-in_err-close.result c.from_residual-in_err-close.ensures.1 in
    counts_then (c.in_ok-n.ensures.faults.still (λ e. absurd (cc e))) (counts_as (λ f. cc (r.1, r.2)) (λ s. cc (r.1, r.2)) c.in_err-close.ensures.faults)
