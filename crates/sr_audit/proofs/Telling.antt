-- Lines that tell of packets in their order.
use Rattle.std.proofs.Common.{◌≡◌, ℕ, ◌+◌, ◌<◌, Bool, true, ◌&&◌, cond, List, [], ◌∷◌, ◌++◌, length, get_or, take, reverse, None, Some, refl, sym, ap, ◌∙◌, true≢false, arith}
use Rattle.std.specs.List.{list_all, count_by}
use Rattle.std.specs.Prelude.{nat_eq, option_to_list}
use Rattle.std.proofs.lemmas.Bool.{and_parts, and_from, eqb-true, eq-eqb}
use Rattle.std.proofs.lemmas.List.{reverse-append}
use Rattle.std.proofs.lemmas.List.Sums.{sum_by-append, sum_by-cons}
use Rattle.sr_base.specs.Key.{KeyView, same_key}
use Rattle.sr_base.specs.declared.kind.Kind.{Kind}
use Rattle.sr_base.specs.declared.kind.Kind.TheVariants.{Opener, Carry, Ending}
use Rattle.sr_base.specs.declared.packet.Packet.{Packet}
use Rattle.sr_base.proofs.Sameness.{same_key-true}
use Rattle.sr_law.specs.declared.line.Line.{Line}
use Rattle.sr_law.specs.Final.{packet_by, packets_of, same_kind, same_packet, is_as_often, same_packets}
use Rattle.sr_law.proofs.Newest.{newest_more}

same_kind_true : (a b : Kind) → same_kind a b ≡ true → a ≡ b
same_kind_true Opener Opener e = refl
same_kind_true Carry Carry e = refl
same_kind_true Ending Ending e = refl
same_kind_true a b e = absurd (true≢false (sym e))

-- two packets that are one are equal
pub same_packet_true : (a b : Packet) → same_packet a b ≡ true → a ≡ b
same_packet_true a b e =
    let numbers = nat_eq a.number b.number in
    let keys = same_key a.key b.key in
    let parts = and_parts (numbers && keys) (same_kind a.kind b.kind) e in
    let both = and_parts numbers keys parts.0 in
    let one : ℕ → Packet = λ n. record { number = n; key = a.key; kind = a.kind } in
    let two : KeyView → Packet = λ k. record { number = b.number; key = k; kind = a.kind } in
    let three : Kind → Packet = λ k. record { number = b.number; key = b.key; kind = k } in
    ap one (eqb-true a.number b.number both.0) ∙ ap two (same_key-true a.key b.key both.1) ∙ ap three (same_kind_true a.kind b.kind parts.1)

-- a line that tells of the next packet
pub told_more : (packets : List Packet) (before : List Line) (line : Line) (packet : Packet) (n : ℕ) → n < length packets → packet_by line ≡ Some packet → get_or packets n packet ≡ packet
    → packets_of before ≡ reverse (take n packets) → packets_of (line ∷ before) ≡ reverse (take (n + 1) packets)
told_more packets before line packet n below is at h =
    ap (λ o. option_to_list o ++ packets_of before) is ∙ ap (λ x. packet ∷ x) h
    ∙ ap (λ x. x ∷ reverse (take n packets)) (sym at) ∙ sym (newest_more packets n packet below)

-- a line that tells of none
pub told_none : (before : List Line) (line : Line) → packet_by line ≡ None → packets_of (line ∷ before) ≡ packets_of before
told_none before line is = ap (λ o. option_to_list o ++ packets_of before) is

count_reverse : (test : Packet → Bool) (xs : List Packet) → count_by test (reverse xs) ≡ count_by test xs
count_reverse test [] = refl
count_reverse test (x ∷ xs) =
    let f : Packet → ℕ = λ y. cond (test y) 1 0 in
    let a : count_by test (reverse (x ∷ xs)) ≡ count_by test (reverse xs ++ x ∷ []) = ap (count_by test) (reverse-append (x ∷ []) xs) in
    let b : count_by test (reverse xs ++ x ∷ []) ≡ count_by test (reverse xs) + count_by test (x ∷ []) = sum_by-append f (reverse xs) (x ∷ []) in
    let c : count_by test (x ∷ []) ≡ f x + 0 = sum_by-cons f x [] in
    let d : count_by test (x ∷ xs) ≡ f x + count_by test xs = sum_by-cons f x xs in
    let e : count_by test (reverse xs) ≡ count_by test xs = count_reverse test xs in
    a ∙ omega arith

as_often : (xs ys : List Packet) (p : Packet) → xs ≡ reverse ys → is_as_often xs ys p ≡ true
unfolding is_as_often
as_often xs ys p e = eq-eqb (count_by (same_packet p) xs) (count_by (same_packet p) ys) (ap (count_by (same_packet p)) e ∙ count_reverse (same_packet p) ys)

all_as_often : (xs ys zs : List Packet) → xs ≡ reverse ys → list_all (is_as_often xs ys) zs ≡ true
all_as_often xs ys [] e = refl
all_as_often xs ys (z ∷ zs) e = rw (as_often xs ys z e) (all_as_often xs ys zs e)

-- packets in their order, or turned round, are the same
pub in_order_same : (xs ys : List Packet) → xs ≡ reverse ys → same_packets xs ys ≡ true
in_order_same xs ys e = and_from (list_all (is_as_often xs ys) xs) (list_all (is_as_often xs ys) ys) (all_as_often xs ys xs e) (all_as_often xs ys ys e)
