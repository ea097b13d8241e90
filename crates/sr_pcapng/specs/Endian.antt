-- Numbers in either byte order.
use Rattle.std.specs.Prelude.{ℕ, List}
use Rattle.byteorder.specs.Endian.{big_number, little_number}
use Rattle.sr_pcapng.specs.declared.endian.Endian.{Endian}
use Rattle.sr_pcapng.specs.declared.endian.Endian.TheVariants.{Big, Little}

-- the number in the first n bytes
abbrev pub number : Endian → ℕ → List ℕ → ℕ
number Big n bytes = big_number n bytes
number Little n bytes = little_number n bytes
