-- The ranges of a layout's numbers, out of its limits.
use Rattle.std.proofs.Common.{◌≡◌, ℕ, ◌+◌, ◌*◌, ◌/◌, ◌%◌, ◌^◌, ◌<◌, ◌≤◌, mul_comm, Bool, true, false, ◌&&◌, sym, subst, ◌∙◌, ap, Option, Some, None, refl, zero, suc, max, lit<, arith}
use Rattle.std.proofs.lemmas.Bool.{eqb-true}
use Rattle.std.proofs.lemmas.Bool.Decides.{nat_tests}
use Rattle.std.proofs.lemmas.Nat.{mul-add-lt, mul-le, ones-le, ones_cat, ones_le_self, pow-add, zero_from_ones, row_fits}
use Rattle.std.proofs.Math.Nat.{pow-suc}
use Rattle.std.specs.Prelude.{count_ones, ◌==◌}
use lib.Count.{ones-ones}
use Rattle.std.specs.Int.{is_power_of_two, IsPowerOfTwo}
use Rattle.sr_base.specs.Layout.{LayoutView, IsLayout}
use Rattle.sr_base.specs.Limit.{between, power_up_to, where_in_range, table_limit_of, other_limit_of, or_limit, limit_of}
use Rattle.sr_base.specs.WordName.{FilterBitsHaveWords}
use Rattle.sr_base.specs.declared.shape.Shape.{Shape}
use Rattle.sr_base.specs.declared.layout.ShapeLimit.{ShapeLimit}
use Rattle.sr_base.specs.declared.layout.ShapeLimit.TheVariants.{FullRows, FilterBits, Ring, Window, Idle, Lives, Vips, Servers}

-- no limit: this number is in range, and the next ones have none
no_limit : (test : Bool) (limit : ShapeLimit) (next : Option ShapeLimit) → where_in_range test limit next ≡ None → (test ≡ true) × (next ≡ None)
no_limit true limit next e = (refl, e)
no_limit false limit next e = cc

neither : (first next : Option ShapeLimit) → or_limit first next ≡ None → (first ≡ None) × (next ≡ None)
neither (Some limit) next e = cc
neither None next e = (refl, e)

both : (a b : Bool) → (a && b) ≡ true → (a ≡ true) × (b ≡ true)
both true b e = (refl, e)
both false b e = cc

in_range : (low high n : ℕ) → between low high n ≡ true → (low ≤ n) × (n ≤ high)
in_range low high n e = grind (arith, nat_tests)

power_in_range : (most n : ℕ) → power_up_to most n ≡ true → (1 ≤ n) × (n ≤ most)
power_in_range most zero e =
    let one = (both (is_power_of_two zero) _ e).0 in
    let none = ones-le 0 0 (lit< tt) in
    absurd (grind (arith, nat_tests))
power_in_range most (suc n) e = let h = both (is_power_of_two (suc n)) _ e in grind (arith, nat_tests)

-- a digit more in front of which a number is one power of two, and the whole number is one
digit_more : (q r : ℕ) → r < 2 ^ 1 → count_ones (q * 2 ^ 1 + r) ≡ 1 → (count_ones q ≡ 1 → IsPowerOfTwo q) → IsPowerOfTwo (q * 2 ^ 1 + r)
digit_more q zero below e others =
    let none : count_ones 0 ≤ 0 = ones_le_self 0 in
    let parts : count_ones (q * 2 ^ 1 + 0) ≡ count_ones q + count_ones 0 = ones_cat 1 q 0 below in
    let p : IsPowerOfTwo q = others (omega (arith, none, parts, e)) in
    (suc p.0, omega (arith, p.1, pow-suc 2 p.0))
digit_more q (suc zero) below e others =
    let one : count_ones 1 ≡ 1 = ones-ones 1 in
    let parts : count_ones (q * 2 ^ 1 + 1) ≡ count_ones q + count_ones 1 = ones_cat 1 q 1 below in
    let no_other : q ≡ 0 = zero_from_ones q (omega (arith, one, parts, e)) in
    (zero, omega (arith, no_other))
digit_more q (suc (suc r)) below e others = absurd (omega arith)

-- a number of which one digit is set is a power of two
power_of_two : (k n : ℕ) → n < 2 ^ k → count_ones n ≡ 1 → IsPowerOfTwo n
power_of_two zero n h e =
    let none = ones-le 0 n h in
    absurd (omega (arith, none))
power_of_two (suc k) n h e =
    let parts : n ≡ (n / 2) * 2 ^ 1 + n % 2 = omega arith in
    let half : n / 2 < 2 ^ k = omega (arith, h, pow-suc 2 k) in
    let One : ℕ → Type 0 = λ m. count_ones m ≡ 1 in
    subst IsPowerOfTwo (sym parts) (digit_more (n / 2) (n % 2) (omega arith) (subst One parts e) (λ one. power_of_two k (n / 2) half one))

is_power : (most n : ℕ) → most < 2 ^ 21 → power_up_to most n ≡ true → IsPowerOfTwo n
is_power most n small e =
    let h = both (is_power_of_two n) _ e in
    let most_of = power_in_range most n e in
    let below : n < 2 ^ 21 = omega arith in
    let one : count_ones n ≡ 1 = eqb-true _ 1 h.0 in
    power_of_two 21 n below one

-- the rows are whole groups
in_groups : (n : ℕ) → (n % 4 == 0) ≡ true → n % 4 ≡ 0
in_groups n e = eqb-true (n % 4) 0 e

pub layout_ranges : (s : Shape) (vips servers : ℕ) → limit_of s vips servers ≡ None → IsLayout (record { shape = s; vips = vips; servers = servers })
layout_ranges s vips servers e =
    let t = neither (table_limit_of s) (other_limit_of s vips servers) e in
    let pipes = no_limit _ _ _ t.0 in
    let buckets = no_limit _ _ _ pipes.1 in
    let digest_bits = no_limit _ _ _ buckets.1 in
    let versions = no_limit _ _ _ digest_bits.1 in
    let pool_max = no_limit _ _ _ versions.1 in
    let full_rows = no_limit _ FullRows _ t.1 in
    let filter_bits = no_limit _ FilterBits _ full_rows.1 in
    let ring = no_limit _ Ring _ filter_bits.1 in
    let window = no_limit (between 1 60000 s.window_ms) Window _ ring.1 in
    let idle = no_limit (between 1 86400000 s.idle_ms) Idle _ window.1 in
    let lives = no_limit (between 1 255 s.lives) Lives _ idle.1 in
    let all_vips = no_limit _ Vips _ lives.1 in
    let all_servers = no_limit _ Servers None all_vips.1 in
    record {
      pipes = in_range _ _ _ pipes.0;
      buckets = power_in_range _ _ buckets.0;
      buckets_power = is_power 65536 _ (lit< tt) buckets.0;
      digest_bits = (in_range _ _ _ digest_bits.0).1;
      versions = in_range _ _ _ versions.0;
      pool_max = in_range _ _ _ pool_max.0;
      full_rows = in_range _ _ _ (both _ _ full_rows.0).0;
      full_groups = in_groups _ (both _ _ full_rows.0).1;
      filter_bits = power_in_range _ _ filter_bits.0;
      filter_power = is_power 1048576 _ (lit< tt) filter_bits.0;
      ring = in_range _ _ _ ring.0;
      window_ms = in_range _ _ _ window.0;
      idle_ms = in_range _ _ _ idle.0;
      lives = in_range _ _ _ lives.0;
      vips = in_range _ _ _ all_vips.0;
      servers = in_range _ _ _ all_servers.0;
    }

-- the pipes' words are no more than these
pub pipes_most : (s : Shape) (vips servers : ℕ) → limit_of s vips servers ≡ None → (s.pipes * (1 + s.ring) ≤ 1048592) × (s.ring ≤ 65536)
pipes_most s vips servers e =
    let h = layout_ranges s vips servers e in
    (mul-le s.pipes (1 + s.ring) 16 65537 h.pipes.1 (omega arith), h.ring.1)

-- the pools' words are no more than these
pub pools_most : (s : Shape) (vips servers : ℕ) → limit_of s vips servers ≡ None
    → (vips * s.versions * (1 + s.pool_max) ≤ 262144) × (vips * s.versions ≤ 1024) × (s.pool_max ≤ 255)
pools_most s vips servers e =
    let h = layout_ranges s vips servers e in
    let rows = mul-le vips s.versions 16 64 h.vips.1 h.versions.1 in
    (mul-le (vips * s.versions) (1 + s.pool_max) 1024 256 rows (omega arith), rows, h.pool_max.1)

-- a version's words end where those of all the pools do, or before
pub pool_fits : (vip version vips versions w : ℕ) → vip < vips → version < versions → (vip * versions + version) * w + w ≤ vips * versions * w
pool_fits vip version vips versions w p q =
    row_fits (vip * versions + version) w (vips * versions) w (rw (mul_comm vips versions) (mul-add-lt vip versions version vips p q)) (omega arith)

-- a bit's word is one of the filter's: the first where there are fewer than 64 bits, and else the bits are whole words
first_word : (bit bits : ℕ) → bits ≤ 32 → bit < bits → bit / 64 < max 1 (bits / 64)
first_word bit bits few below = omega arith

whole_words : (m bit bits : ℕ) → bits ≡ m * 64 → bit < bits → bit / 64 < max 1 (bits / 64)
whole_words m bit bits e below =
    let here : bit / 64 < m = omega arith in
    let words : bits / 64 ≡ m = omega arith in
    omega arith

bit_has_word : (k bit bits : ℕ) → bits ≡ 2 ^ k → bit < bits → bit / 64 < max 1 (bits / 64)
bit_has_word zero bit bits e below = first_word bit bits (omega arith) below
bit_has_word (suc zero) bit bits e below = first_word bit bits (omega arith) below
bit_has_word (suc (suc zero)) bit bits e below = first_word bit bits (omega arith) below
bit_has_word (suc (suc (suc zero))) bit bits e below = first_word bit bits (omega arith) below
bit_has_word (suc (suc (suc (suc zero)))) bit bits e below = first_word bit bits (omega arith) below
bit_has_word (suc (suc (suc (suc (suc zero))))) bit bits e below = first_word bit bits (omega arith) below
bit_has_word (suc (suc (suc (suc (suc (suc j)))))) bit bits e below =
    let six : suc (suc (suc (suc (suc (suc j))))) ≡ j + 6 = omega arith in
    let power : bits ≡ 2 ^ j * 64 = e ∙ ap (λ n. 2 ^ n) six ∙ pow-add 2 j 6 in
    whole_words (2 ^ j) bit bits power below

pub filter_bits_have_words : (l : LayoutView) → IsLayout l → FilterBitsHaveWords l
filter_bits_have_words l h bit below = bit_has_word h.filter_power.0 bit l.shape.filter_bits h.filter_power.1 below
