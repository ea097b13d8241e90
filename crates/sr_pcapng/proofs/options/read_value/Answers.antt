use Rattle.std.proofs.Common.{◌≡◌, ℕ, ◌+◌, ◌-◌, ◌≤◌, List, drop, slice_get, ap, sym, subst, ◌∙◌, arith}
use Rattle.sr_io.specs.Window.{Pending}
use Rattle.std.proofs.lemmas.List.{drop-drop}
use Rattle.sr_pcapng.proofs.Walking.{kept_first}
use Rattle.sr_pcapng.proofs.options.read_value.Goals as goal

pub returns-clause-keeps : goal.returns-clause-keeps
returns-clause-keeps g c = λ xs h.
    let read = c.in_ok-n.ensures.bytes xs h in
    let rest = c.in_ok-skip-2.ensures.bytes (drop 4 xs) read.2 in
    let four : 4 + (c.args.size - 4) ≡ c.args.size = (let fits : 4 ≤ c.args.size = c.requires c.if-not-tells.false in omega arith) in
    (c.copied.ensures ∙ c.first.ensures.value ∙ ap (λ (ys : List ℕ). slice_get ys 0) read.1 ∙ sym (kept_first c.args.resolution c.args.tells xs (sym c.is_some.ensures ∙ c.if-is_some.false) c.if-not-tells.false), subst (Pending c.skip-2.new.self (g.S.Source.known c.skip-2.new.source).left) (drop-drop (c.args.size - 4) 4 xs ∙ ap (λ (n : ℕ). drop n xs) four) rest)
