use Rattle.std.proofs.Common.{ℕ, List, Ok, Err, drop, inr, ap, sym, ◌∙◌}
use Rattle.std.proofs.lemmas.Result.{err_from_is_err_and}
use Rattle.sr_pcapng.specs.declared.front.Front.{Front}
use Rattle.sr_pcapng.specs.Block.{section_block}
use Rattle.sr_pcapng.proofs.Blocks.{gives_err, err_then, block_is, tail_whole}
use Rattle.sr_pcapng.proofs.block.read_block.Goals as goal

pub returns-in_err-front-clause-reads : goal.returns-in_err-front-clause-reads
returns-in_err-front-clause-reads g c = λ xs h same.
    let r = err_from_is_err_and c.from_residual.result c.from_residual.ensures.1 in
    let why = c.in_err-front.field-0.0 in
    gives_err _ why _ _ _ (r.1 ∙ ap (λ y. Err y) r.2)
    (inr (block_is c.args.section.now c.args.offset xs c.args.first.now (Err why) same c.in_err-front.ensures.exact))

pub returns-in_err-size-in-Section-clause-reads : goal.returns-in_err-size-in-Section-clause-reads
returns-in_err-size-in-Section-clause-reads g c = λ xs h same.
    let r = err_from_is_err_and c.from_residual-in_err-size-in-Section.result c.from_residual-in_err-size-in-Section.ensures.1 in
    let why = c.in_err-size-in-Section.field-0.0 in
    let front = ap (λ (f : Front). Ok f) (sym c.in-Section.is) ∙ c.in_ok-front.ensures.exact in
    let block = block_is c.args.section.now c.args.offset xs c.args.first.now _ same front ∙ ap (λ (ys : List ℕ). section_block c.args.offset ys (drop 8 xs)) (sym (tail_whole c.args.first.now)) in
    gives_err _ why _ _ _ (r.1 ∙ ap (λ y. Err y) r.2) (err_then why _ _ (c.in_err-size-in-Section.ensures.reads (drop 8 xs) h) (λ e. block ∙ e))

pub returns-in_ok-size-in-Section-clause-reads : goal.returns-in_ok-size-in-Section-clause-reads
returns-in_ok-size-in-Section-clause-reads g c = λ xs h same.
    let front = ap (λ (f : Front). Ok f) (sym c.in-Section.is) ∙ c.in_ok-front.ensures.exact in
    let block = block_is c.args.section.now c.args.offset xs c.args.first.now _ same front ∙ ap (λ (ys : List ℕ). section_block c.args.offset ys (drop 8 xs)) (sym (tail_whole c.args.first.now)) in
    let f = c.in_ok-size-in-Section.ensures.reads (drop 8 xs) h in
    record { rest = f.rest; told = f.told; same = block ∙ f.same }

pub returns-in_err-read_interface-in-Interface-clause-reads : goal.returns-in_err-read_interface-in-Interface-clause-reads
returns-in_err-read_interface-in-Interface-clause-reads g c = λ xs h same.
    let r = err_from_is_err_and c.from_residual-in_err-read_interface-in-Interface.result c.from_residual-in_err-read_interface-in-Interface.ensures.1 in
    let why = c.in_err-read_interface-in-Interface.field-0.0 in
    let front = ap (λ (f : Front). Ok f) (sym c.in-Interface.is) ∙ c.in_ok-front.ensures.exact in
    let block = block_is c.args.section.now c.args.offset xs c.args.first.now _ same front in
    gives_err _ why _ _ _ (r.1 ∙ ap (λ y. Err y) r.2) (err_then why _ _ (c.in_err-read_interface-in-Interface.ensures.reads (drop 8 xs) h) (λ e. block ∙ e))

pub returns-in_ok-read_interface-in-Interface-clause-reads : goal.returns-in_ok-read_interface-in-Interface-clause-reads
returns-in_ok-read_interface-in-Interface-clause-reads g c = λ xs h same.
    let front = ap (λ (f : Front). Ok f) (sym c.in-Interface.is) ∙ c.in_ok-front.ensures.exact in
    let block = block_is c.args.section.now c.args.offset xs c.args.first.now _ same front in
    let f = c.in_ok-read_interface-in-Interface.ensures.reads (drop 8 xs) h in
    record { rest = f.rest; told = f.told; same = block ∙ f.same }

pub returns-in_err-head-in-Packet-clause-reads : goal.returns-in_err-head-in-Packet-clause-reads
returns-in_err-head-in-Packet-clause-reads g c = λ xs h same.
    let r = err_from_is_err_and c.from_residual-in_err-head-in-Packet.result c.from_residual-in_err-head-in-Packet.ensures.1 in
    let why = c.in_err-head-in-Packet.field-0.0 in
    let front = ap (λ (f : Front). Ok f) (sym c.in-Packet.is) ∙ c.in_ok-front.ensures.exact in
    let block = block_is c.args.section.now c.args.offset xs c.args.first.now _ same front in
    gives_err _ why _ _ _ (r.1 ∙ ap (λ y. Err y) r.2) (err_then why _ _ (c.in_err-head-in-Packet.ensures.reads (drop 8 xs) h) (λ e. block ∙ e))

pub returns-in_ok-head-in-Packet-clause-reads : goal.returns-in_ok-head-in-Packet-clause-reads
returns-in_ok-head-in-Packet-clause-reads g c = λ xs h same.
    let front = ap (λ (f : Front). Ok f) (sym c.in-Packet.is) ∙ c.in_ok-front.ensures.exact in
    let block = block_is c.args.section.now c.args.offset xs c.args.first.now _ same front in
    let f = c.in_ok-head-in-Packet.ensures.reads (drop 8 xs) h in
    record { rest = f.rest; told = f.told; same = block ∙ f.same }

pub returns-in_err-read_other-in-Other-clause-reads : goal.returns-in_err-read_other-in-Other-clause-reads
returns-in_err-read_other-in-Other-clause-reads g c = λ xs h same.
    let r = err_from_is_err_and c.from_residual-in_err-read_other-in-Other.result c.from_residual-in_err-read_other-in-Other.ensures.1 in
    let why = c.in_err-read_other-in-Other.field-0.0 in
    let front = ap (λ (f : Front). Ok f) (sym c.in-Other.is) ∙ c.in_ok-front.ensures.exact in
    let block = block_is c.args.section.now c.args.offset xs c.args.first.now _ same front in
    gives_err _ why _ _ _ (r.1 ∙ ap (λ y. Err y) r.2) (err_then why _ _ (c.in_err-read_other-in-Other.ensures.reads (drop 8 xs) h) (λ e. block ∙ e))

pub returns-in_ok-read_other-in-Other-clause-reads : goal.returns-in_ok-read_other-in-Other-clause-reads
returns-in_ok-read_other-in-Other-clause-reads g c = λ xs h same.
    let front = ap (λ (f : Front). Ok f) (sym c.in-Other.is) ∙ c.in_ok-front.ensures.exact in
    let block = block_is c.args.section.now c.args.offset xs c.args.first.now _ same front in
    let f = c.in_ok-read_other-in-Other.ensures.reads (drop 8 xs) h in
    record { rest = f.rest; told = f.told; same = block ∙ f.same }
