-- A fact of each line by the lines before it, of the lines of the opening state.
use Rattle.std.proofs.Common.{◌≡◌, ℕ, zero, suc, ◌<◌, ◌≤◌, true, List, sym, refl, subst, arith}
use Rattle.sr_inv_clauses.specs.Clauses.{ServersRight}
use Rattle.sr_inv_facts.proofs.OpeningLines.{opened_lines, opening_printed}
use Rattle.sr_inv_facts.specs.Fitted.{IsFitted}
use Rattle.sr_inv_facts.specs.Laws.{OpensWith}
use Rattle.sr_inv_order.specs.Meeting.{EachLine}
use Rattle.sr_law.specs.Server.{meets_server}
use Rattle.sr_law.specs.declared.line.Line.{Line}
use Rattle.sr_machine.specs.Config.{Config}
use Rattle.sr_machine.specs.Core.{opening, printed}
use Rattle.sr_machine.specs.Opening.{opening_line}

-- where it holds of each opening line by those before it
opened_each : (P : List Line → Line → Type 0) (vips : ℕ) → ((n : ℕ) → n < vips → P (opened_lines n) (opening_line n)) → (n : ℕ) → n ≤ vips
    → EachLine P (opened_lines n)
opened_each P vips h zero le = tt
opened_each P vips h (suc n) le = (h n (omega arith), opened_each P vips h n (omega arith))

pub opens_each : (P : Config → List Line → Line → Type 0)
    → ((k : Config) → IsFitted k → (n : ℕ) → n < k.layout.vips → P k (opened_lines n) (opening_line n)) → (k : Config) → IsFitted k
    → EachLine (P k) (printed (opening k))
opens_each P h k f =
    subst (EachLine (P k)) (sym (opening_printed k)) (opened_each (P k) k.layout.vips (h k f) k.layout.vips (omega arith))

pub servers_open : OpensWith ServersRight
servers_open k f = opens_each (λ k before l. meets_server k.pools before l ≡ true) (λ k f n h. refl) k f
