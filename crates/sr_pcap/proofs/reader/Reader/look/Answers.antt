use Rattle.std.proofs.Common.{◌≡◌, ℕ, ◌+◌, ◌<◌, ◌≤◌, List, Err, length, ap, sym, subst, ◌∙◌, arith}
use Rattle.std.proofs.lemmas.Result.{err_from_is_err_and}
use Rattle.sr_pcap.specs.Reader.{Looks}
use Rattle.sr_pcap.specs.RecordHeader.{HeaderOf, Spells}
use Rattle.sr_pcap.proofs.Reading.{stops_header, stops_short, looks_whole}
use Rattle.sr_pcap.proofs.reader.Reader.look.Goals as goal

pub returns-in_err-header-clause-looks : goal.returns-in_err-header-clause-looks
returns-in_err-header-clause-looks g c = rw (← c.self.view_is) (λ xs p.
    let r = err_from_is_err_and c.from_residual-in_err-header.result c.from_residual-in_err-header.ensures.1 in
    let why = c.in_err-header.field-0.0 in
    let format = c.self.inside.format in
    let offset = c.self.inside.offset in
    let w = c.fill.new.self in
    let left = (g.S.Source.known c.fill.new.source).left in
    let q = c.fill.ensures.reads.pending xs p in
    let h = subst (λ (ys : List ℕ). HeaderOf (Err why) format offset ys) c.unread.ensures c.in_err-header.ensures in
    (subst (λ z. Looks z format offset xs left) (sym (r.1 ∙ ap (λ y. Err y) r.2)) (stops_header why format offset w xs left h c.in_ok-fill.ensures.filled q), q))

pub returns-then-unread-whole-clause-looks : goal.returns-then-unread-whole-clause-looks
returns-then-unread-whole-clause-looks g c = rw (← c.self.view_is) (λ xs p.
    let header = c.in_ok-header.header in
    let format = c.self.inside.format in
    let first = c.fill.new.self in
    let second = c.fill-2.new.self in
    let q = c.fill.ensures.reads.pending xs p in
    let q2 = c.fill-2.ensures.reads.pending xs q in
    let spells = subst (λ (ys : List ℕ). Spells header format ys) c.unread.ensures c.in_ok-header.ensures in
    let few : length second.unread < 16 + header.size = omega (arith, ap length c.unread-2.ensures) in
    (stops_short header format c.self.inside.offset first second xs _ _ spells q c.in_ok-fill-2.ensures.filled few q2, q2))

pub returns-clause-looks : goal.returns-clause-looks
returns-clause-looks g c = rw (← c.self.view_is) (λ xs p.
    let header = c.in_ok-header.header in
    let format = c.self.inside.format in
    let first = c.fill.new.self in
    let second = c.fill-2.new.self in
    let q = c.fill.ensures.reads.pending xs p in
    let q2 = c.fill-2.ensures.reads.pending xs q in
    let spells = subst (λ (ys : List ℕ). Spells header format ys) c.unread.ensures c.in_ok-header.ensures in
    let whole : 16 + header.size ≤ length second.unread = omega (arith, ap length c.unread-2.ensures) in
    (looks_whole header format c.self.inside.offset first second xs _ _ spells q whole q2, q2))
