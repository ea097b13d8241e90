-- One line more among those that tell of packets, and one packet more among the first of a list.
use Rattle.std.proofs.Common.{◌≡◌, ℕ, ◌+◌, ◌<◌, Bool, true, false, cond, ◌&&◌, List, [], ◌∷◌, length, get_or, take, refl, ap, ◌∙◌}
use Rattle.std.specs.List.{list_all, count_by}
use Rattle.std.specs.Prelude.{option_to_list}
use Rattle.std.proofs.lemmas.List.{take_more}
use Rattle.std.proofs.lemmas.List.Folds.{list_all-append}
use Rattle.std.proofs.lemmas.List.Sums.{sum_by-append}
use Rattle.sr_base.specs.declared.packet.Packet.{Packet}
use Rattle.sr_law.specs.declared.line.Line.{Line}
use Rattle.sr_law.specs.Final.{packet_by, packets_of}

-- its own packet counts, and the others
pub count_more : (test : Packet → Bool) (line : Line) (before : List Line) → count_by test (packets_of (line ∷ before)) ≡ count_by test (option_to_list (packet_by line)) + count_by test (packets_of before)
count_more test line before = sum_by-append (λ p. cond (test p) 1 0) (option_to_list (packet_by line)) (packets_of before)

-- its own packet passes the test, and all others do
pub all_more : (test : Packet → Bool) (line : Line) (before : List Line) → list_all test (packets_of (line ∷ before)) ≡ (list_all test (option_to_list (packet_by line)) && list_all test (packets_of before))
all_more test line before = list_all-append test (option_to_list (packet_by line)) (packets_of before)

last_first : (a b : Bool) → (a && (b && true)) ≡ (b && a)
last_first true true = refl
last_first true false = refl
last_first false true = refl
last_first false false = refl

-- the next packet passes the test, and those before it do
pub all_take_more : (test : Packet → Bool) (xs : List Packet) (i : ℕ) (d : Packet) → i < length xs → list_all test (take (i + 1) xs) ≡ (test (get_or xs i d) && list_all test (take i xs))
all_take_more test xs i d h =
    ap (list_all test) (take_more xs i d h) ∙ list_all-append test (take i xs) (get_or xs i d ∷ []) ∙ last_first (list_all test (take i xs)) (test (get_or xs i d))
