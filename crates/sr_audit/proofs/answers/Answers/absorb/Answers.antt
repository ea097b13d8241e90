use Rattle.std.proofs.Common.{◌≡◌, Bool, true, false, not, sym, ap, ◌∙◌}
use Rattle.std.specs.BTreeMap.{get}
use Rattle.std.specs.Prelude.{is_some}
use Rattle.sr_audit.specs.Answers.{nth_cmp}
use Rattle.sr_audit.proofs.Answering.{answered_more}
use Rattle.sr_audit.proofs.answers.Answers.absorb.Goals as goal

turned : (some none : Bool) → some ≡ not none → none ≡ not some
turned some true e = sym (ap not e)
turned some false e = sym (ap not e)

pub returns-in_ok-insert : goal.returns-in_ok-insert
returns-in_ok-insert c before h pipe nth =
    let old = get nth_cmp c.args.self.now.map (c.in-Answer.pipe, c.in-Answer.nth) in
    let first = turned (is_some old) c.is_none-once.result (sym (ap is_some c.answered.ensures) ∙ c.is_none-once.ensures) in
    rw c.in-Answer.is
    (answered_more (λ q. get nth_cmp c.args.self.now.map q) (λ q. get nth_cmp c.insert.new.self q) before c.in-Answer.out c.in-Answer.pipe
    c.in-Answer.nth c.in-Answer.key c.in-Answer.verdict c.is_none-once.result first (λ q. c.in_ok-insert.ensures.updates.0 q) h pipe nth)
