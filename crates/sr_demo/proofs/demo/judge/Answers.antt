use Rattle.std.proofs.Common.{inl, inr}
use Rattle.sr_demo.proofs.Judged.{no_breach}
use Rattle.sr_demo.proofs.demo.judge.Goals as goal

pub unreachable-requires : goal.unreachable-requires
unreachable-requires c =
    elim c.in-Err.ensures [
      | inl none ↦ absurd cc
      | inr named ↦ no_breach c.args.setup.now c.args.lines.now c.in-Err.refusal c.requires.lawful named
    ]
