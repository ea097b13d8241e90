use Rattle.std.proofs.Common.{◌≡◌, ℕ, ◌+◌, ◌≤◌, true, false, cond, List, ◌∷◌, reverse, take, sym, ap, subst, ◌∙◌, arith}
use Rattle.sr_audit.specs.Connections.{TellsConnections}
use Rattle.sr_audit.specs.Counts.{openings_in, opens}
use Rattle.sr_law.proofs.Newest.{newest_more}
use Rattle.sr_law.specs.declared.line.Line.{Line}
use Rattle.sr_audit.proofs.counts.count_openings.Goals as goal
use Rattle.sr_audit.proofs.counts.count_openings.Goals.{then-opens, else-opens}

one_more : (before : List Line) (line : Line) (n m : ℕ) → opens before line ≡ true → n ≡ openings_in before → m ≡ n + 1 → m ≡ openings_in (line ∷ before)
one_more before line n m o e more =
    let one = ap (λ b. cond {A = ℕ} b 1 0 + openings_in before) o in omega (arith, one, e, more)

no_more : (before : List Line) (line : Line) (n m : ℕ) → opens before line ≡ false → n ≡ openings_in before → m ≡ n → m ≡ openings_in (line ∷ before)
no_more before line n m o e more =
    let none = ap (λ b. cond {A = ℕ} b 1 0 + openings_in before) o in omega (arith, none, e, more)

pub loop-line-preserved : goal.loop-line-preserved
loop-line-preserved c =
    let lines = c.args.lines.now in
    let i = c.loop-line.line-index in
    let line = c.line-item.result in
    let before = reverse (take i lines) in
    let list : reverse (take (i + 1) lines) ≡ line ∷ before =
    newest_more lines i line c.loop-line-test.true ∙ ap (λ x. x ∷ before) (sym c.line-item.is) in
    let is = c.opens.ensures before c.loop-line.invariant.tells in
    let counted : c.if-opens.count ≡ openings_in (line ∷ before) =
    elim c.if-opens.branch [
      | then-opens w ↦ one_more before line c.loop-line.count c.if-opens.count (sym is ∙ w.if-opens.true) c.loop-line.invariant.counted w.count-is
      | else-opens w ↦ no_more before line c.loop-line.count c.if-opens.count (sym is ∙ w.if-opens.false) c.loop-line.invariant.counted w.count-is
    ] in
    let few : c.if-opens.count ≤ i + 1 =
    elim c.if-opens.branch [
      | then-opens w ↦ omega arith
      | else-opens w ↦ omega arith
    ] in
    record {
      tells = subst (TellsConnections c.absorb.new.self) (sym list) (c.in_ok-absorb.ensures before c.loop-line.invariant.tells);
      counted = counted ∙ ap openings_in (sym list);
      few = few;
    }
