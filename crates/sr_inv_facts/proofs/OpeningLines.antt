-- The lines of the opening state: a Given line for each virtual address, and no others.
use Rattle.std.proofs.Common.{◌≡◌, ℕ, zero, suc, ◌+◌, List, [], ◌∷◌, ◌++◌, map, sym, refl, ap, ◌∙◌, subst, append-nil, arith}
use Rattle.std.specs.List.{AllByRecursion, range_with_len}
use Rattle.sr_inv_facts.proofs.Printing.{newest_all, newest_more}
use Rattle.sr_inv_facts.specs.InTicks.{AllOutBefore}
use Rattle.sr_law.specs.declared.line.Line.{Line}
use Rattle.sr_machine.specs.Config.{Config}
use Rattle.sr_machine.specs.Core.{opening, pipe_lines, printed, newest_first}
use Rattle.sr_machine.specs.Opening.{opening_controller, opening_line, opening_lines, opening_pipes}
use Rattle.sr_machine.specs.Pipe.{fresh_pipe}

fresh_lines : (a n : ℕ) → pipe_lines (map fresh_pipe (range_with_len a n)) ≡ []
fresh_lines a zero = refl
fresh_lines a (suc n) = fresh_lines (a + 1) n

pub given_all : (P : Line → Type 0) → ((vip : ℕ) → P (opening_line vip)) → (a n : ℕ)
    → AllByRecursion P (map opening_line (range_with_len a n))
given_all P h a zero = tt
given_all P h a (suc n) = (h a, given_all P h (a + 1) n)

-- what holds of each opening line holds of each line of the opening state
pub opening_all : (P : Line → Type 0) → ((vip : ℕ) → P (opening_line vip)) → (k : Config) → AllByRecursion P (printed (opening k))
unfolding opening_controller opening_pipes
opening_all P h k =
    newest_all P (pipe_lines (map fresh_pipe (range_with_len 0 k.layout.shape.pipes)) ++ opening_lines k)
    (subst (λ xs. AllByRecursion P (xs ++ opening_lines k)) (sym (fresh_lines 0 k.layout.shape.pipes)) (given_all P h 0 k.layout.vips))

-- and their pipes have none
pub opening_silent : (k : Config) → pipe_lines (opening k).pipes ≡ []
unfolding opening_pipes
opening_silent k = fresh_lines 0 k.layout.shape.pipes

-- ---- in their order

-- the lines of the opening state, the newest first
abbrev pub opened_lines : ℕ → List Line
opened_lines zero = []
opened_lines (suc n) = opening_line n ∷ opened_lines n

range_end : (a n : ℕ) → range_with_len a (suc n) ≡ range_with_len a n ++ (a + n) ∷ []
range_end a zero = ap (λ z. z ∷ []) (omega arith)
range_end a (suc n) = ap (λ xs. a ∷ xs) (range_end (a + 1) n ∙ ap (λ z. range_with_len (a + 1) n ++ z ∷ []) (omega arith))

mapped_end : (xs : List ℕ) (n : ℕ) → map opening_line (xs ++ n ∷ []) ≡ map opening_line xs ++ opening_line n ∷ []
mapped_end [] n = refl
mapped_end (x ∷ xs) n = ap (λ ls. opening_line x ∷ ls) (mapped_end xs n)

out_low : (a n : ℕ) → AllOutBefore (a + n + 1) (map opening_line (range_with_len a n))
out_low a zero = tt
out_low a (suc n) =
    (omega arith, subst (λ t. AllOutBefore t (map opening_line (range_with_len (a + 1) n))) (omega arith) (out_low (a + 1) n))

in_order : (n : ℕ) → newest_first (map opening_line (range_with_len 0 n)) ≡ opened_lines n
in_order zero = refl
in_order (suc n) =
    let xs = map opening_line (range_with_len 0 n) in
    let zero_is : 0 + n ≡ n = omega arith in
    let outs : AllOutBefore (n + 1) (xs ++ []) =
    subst (AllOutBefore (n + 1)) (sym (append-nil xs)) (subst (λ t. AllOutBefore t xs) (omega arith) (out_low 0 n)) in
    ap (λ ls. newest_first (map opening_line ls)) (range_end 0 n)
    ∙ (ap (λ z. newest_first (map opening_line (range_with_len 0 n ++ z ∷ []))) zero_is
    ∙ (ap newest_first (mapped_end (range_with_len 0 n) n)
    ∙ (newest_more (opening_line n) xs [] outs ∙ (ap (λ ls. opening_line n ∷ newest_first ls) (append-nil xs) ∙ ap (λ ls. opening_line n ∷ ls) (in_order n)))))

pub opening_printed : (k : Config) → printed (opening k) ≡ opened_lines k.layout.vips
unfolding opening_controller opening_pipes
opening_printed k =
    ap (λ xs. newest_first (xs ++ opening_lines k)) (fresh_lines 0 k.layout.shape.pipes) ∙ in_order k.layout.vips
