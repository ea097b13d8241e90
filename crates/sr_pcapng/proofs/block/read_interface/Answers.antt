use Rattle.std.proofs.Common.{◌≤◌, Err, drop, length, inr, ap, ◌∙◌, arith}
use Rattle.std.proofs.lemmas.Result.{err_from_is_err_and}
use Rattle.sr_pcapng.proofs.Blocks.{gives_err, err_then, front_whole, interface_cut, interface_err, interface_not_closed, interface_whole}
use Rattle.sr_pcapng.proofs.block.read_interface.Goals as goal

pub returns-then-branch-lt8-clause-reads : goal.returns-then-branch-lt8-clause-reads
returns-then-branch-lt8-clause-reads g c = λ xs h.
    let read = c.in_ok-fill.ensures.bytes xs h in
    inr (interface_cut c.args.section.now c.args.offset c.args.size xs (let n = read.0 in omega arith))

pub returns-in_err-resolution-clause-reads : goal.returns-in_err-resolution-clause-reads
returns-in_err-resolution-clause-reads g c = λ xs h.
    let r = err_from_is_err_and c.from_residual-in_err-resolution.result c.from_residual-in_err-resolution.ensures.1 in
    let why = c.in_err-resolution.field-0.0 in
    let read = c.in_ok-fill.ensures.bytes xs h in
    let enough : 8 ≤ length xs = let n = read.0 in omega arith in
    gives_err _ why _ _ _ (r.1 ∙ ap (λ y. Err y) r.2)
    (err_then why _ _ (c.in_err-resolution.ensures.walks (drop 8 xs) read.2)
    (interface_err c.args.section.now c.endian-endian.result c.args.offset c.args.size xs why c.endian-endian.ensures enough))

pub returns-in_err-close-clause-reads : goal.returns-in_err-close-clause-reads
returns-in_err-close-clause-reads g c = λ xs h.
    let r = err_from_is_err_and c.from_residual-in_err-close.result c.from_residual-in_err-close.ensures.1 in
    let why = c.in_err-close.field-0.0 in
    let read = c.in_ok-fill.ensures.bytes xs h in
    let enough : 8 ≤ length xs = let n = read.0 in omega arith in
    let w = c.in_ok-resolution.ensures.walks (drop 8 xs) read.2 in
    gives_err _ why _ _ _ (r.1 ∙ ap (λ y. Err y) r.2)
    (err_then why _ _ (c.in_err-close.ensures.closes w.rest w.told)
    (interface_not_closed c.args.section.now c.endian-endian.result c.args.offset c.args.size xs _ why c.endian-endian.ensures enough w.same))

pub returns-clause-reads : goal.returns-clause-reads
returns-clause-reads g c = λ xs h.
    let read = c.in_ok-fill.ensures.bytes xs h in
    let enough : 8 ≤ length xs = let n = read.0 in omega arith in
    let w = c.in_ok-resolution.ensures.walks (drop 8 xs) read.2 in
    let f = c.in_ok-close.ensures.closes w.rest w.told in
    let long : length c.fill.new.into ≤ 8 = let same = c.fill.auto.into in omega arith in
    let front = front_whole c.in_ok-fill.field-0 8 xs c.fill.new.into long (omega arith) c.in_ok-fill.ensures.within read.1 in
    record {
      rest = f.rest;
      told = f.told;
      same =
          interface_whole c.args.section.now c.endian-endian.result c.args.offset c.args.size c.read_u16-link.result c.unwrap_or-resolution.result xs c.fill.new.into f.rest _ _ c.endian-endian.ensures enough
          w.same f.same front c.read_u16-link.ensures c.unwrap_or-resolution.ensures c.add.ensures;
    }
