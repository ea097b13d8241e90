use Rattle.std.proofs.Common.{◌≡◌, length, subst, sym}
use Rattle.std.specs.Prelude.{IsTrue}
use Rattle.std.specs.List.{range_with_len}
use Rattle.sr_run.specs.Numbering.{IsNumbering}
use Rattle.sr_run.proofs.Sorting.{numbering_from, numbering_to}
use Rattle.sr_run.proofs.numbering.is_numbering.Goals as goal

pub returns : goal.returns
returns c =
    let numbers = c.in_ok-numbers.numbers.items in
    let sorted = c.sort_unstable.new.self.items in
    let value = c.as_slice.ensures.value in
    let up = subst (λ xs. (IsTrue c.counts_up.result → xs ≡ range_with_len 1 (length xs)) × (xs ≡ range_with_len 1 (length xs) → IsTrue c.counts_up.result)) value c.counts_up.ensures in (
      λ t. subst IsNumbering c.in_ok-numbers.ensures (numbering_from numbers sorted c.sort_unstable.ensures.permutation (up.0 t)),
      λ n. up.1 (numbering_to numbers sorted c.sort_unstable.ensures.permutation c.sort_unstable.ensures.sorted (subst IsNumbering (sym c.in_ok-numbers.ensures) n)),
    )
