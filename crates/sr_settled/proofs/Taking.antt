-- The servers that changes and lines take down, as one list and one at a time.
use Rattle.std.proofs.Common.{◌≡◌, ℕ, ◌+◌, Bool, true, false, ◌&&◌, cond, List, [], ◌∷◌, ◌++◌, Option, Some, None, refl, sym, ap, ◌∙◌, arith}
use Rattle.std.specs.Prelude.{nat_eq, count_by}
use Rattle.std.specs.List.{list_all}
use Rattle.std.proofs.lemmas.List.Sums.{sum_by-cons}
use Rattle.sr_base.specs.declared.change.Change.{Change}
use Rattle.sr_base.specs.declared.change.What.{What}
use Rattle.sr_base.specs.declared.change.What.TheVariants.{Give, TakeDown}
use Rattle.sr_law.specs.declared.line.Line.{Line}
use Rattle.sr_law.specs.declared.line.Line.TheVariants.{TakenDown}
use Rattle.sr_law.specs.Server.{is_number}
use Rattle.sr_law.specs.Settled.{is_due, due_downs, downs_of}
use Rattle.sr_settled.specs.Downs.{holds_of, taken_by, taken_down}

none_more : (count : ℕ) → 0 + count ≡ count
none_more count = omega arith

taken_times : (b : Bool) (server n : ℕ) (rest : List ℕ) (count : ℕ) → count ≡ count_by (λ x. nat_eq x n) rest
    → cond (is_number (cond b (Some server) None) n) 1 0 + count ≡ count_by (λ x. nat_eq x n) (cond b (server ∷ []) [] ++ rest)
taken_times true server n rest count e =
    ap (λ k. cond (nat_eq server n) 1 0 + k) e ∙ sym (sum_by-cons (λ x. cond (nat_eq x n) 1 0) server rest)
taken_times false server n rest count e = none_more count ∙ e

-- how often a server is taken down, by the list and by each
pub due_times : (clock : Option ℕ) (changes : List Change) (server : ℕ)
    → count_by (λ change. is_number (taken_by clock change) server) changes ≡ count_by (λ x. nat_eq x server) (due_downs clock changes)
due_times clock [] server = refl
due_times clock (change ∷ rest) server =
    sum_by-cons (λ c. cond (is_number (taken_by clock c) server) 1 0) change rest ∙ by change.at_ms change.what (due_times clock rest server)
  where
    by : (at_ms : ℕ) (what : What) → count_by (λ c. is_number (taken_by clock c) server) rest ≡ count_by (λ x. nat_eq x server) (due_downs clock rest)
        → cond (is_number (taken_by clock (record { at_ms = at_ms; what = what })) server) 1 0 + count_by (λ c. is_number (taken_by clock c) server) rest
        ≡ count_by (λ x. nat_eq x server) (due_downs clock (record { at_ms = at_ms; what = what } ∷ rest))
    by at_ms (Give vip pool) e = none_more (count_by (λ c. is_number (taken_by clock c) server) rest) ∙ e
    by at_ms (TakeDown down) e = taken_times (is_due clock at_ms) down server (due_downs clock rest) (count_by (λ c. is_number (taken_by clock c) server) rest) e

pub made_times : (lines : List Line) (server : ℕ)
    → count_by (λ line. is_number (taken_down line) server) lines ≡ count_by (λ x. nat_eq x server) (downs_of lines)
made_times [] server = refl
made_times (TakenDown out down ∷ rest) server =
    sum_by-cons (λ l. cond (is_number (taken_down l) server) 1 0) (TakenDown out down) rest
    ∙ taken_times true down server (downs_of rest) (count_by (λ l. is_number (taken_down l) server) rest) (made_times rest server)
made_times (line ∷ rest) server =
    sum_by-cons (λ l. cond (is_number (taken_down l) server) 1 0) line rest
    ∙ none_more (count_by (λ l. is_number (taken_down l) server) rest) ∙ made_times rest server

taken_each : (b : Bool) (server : ℕ) (rest : List ℕ) (holds : ℕ → Bool) (all : Bool) → all ≡ list_all holds rest
    → (holds_of holds (cond b (Some server) None) && all) ≡ list_all holds (cond b (server ∷ []) [] ++ rest)
taken_each true server rest holds all e = ap (λ a. holds server && a) e
taken_each false server rest holds all e = e

pub each_due : (clock : Option ℕ) (changes : List Change) (holds : ℕ → Bool)
    → list_all (λ change. holds_of holds (taken_by clock change)) changes ≡ list_all holds (due_downs clock changes)
each_due clock [] holds = refl
each_due clock (change ∷ rest) holds = by change.at_ms change.what (each_due clock rest holds)
  where
    by : (at_ms : ℕ) (what : What) → list_all (λ c. holds_of holds (taken_by clock c)) rest ≡ list_all holds (due_downs clock rest)
        → (holds_of holds (taken_by clock (record { at_ms = at_ms; what = what })) && list_all (λ c. holds_of holds (taken_by clock c)) rest)
        ≡ list_all holds (due_downs clock (record { at_ms = at_ms; what = what } ∷ rest))
    by at_ms (Give vip pool) e = e
    by at_ms (TakeDown down) e = taken_each (is_due clock at_ms) down (due_downs clock rest) holds (list_all (λ c. holds_of holds (taken_by clock c)) rest) e

pub each_made : (lines : List Line) (holds : ℕ → Bool)
    → list_all (λ line. holds_of holds (taken_down line)) lines ≡ list_all holds (downs_of lines)
each_made [] holds = refl
each_made (TakenDown out down ∷ rest) holds = ap (λ a. holds down && a) (each_made rest holds)
each_made (line ∷ rest) holds = each_made rest holds
