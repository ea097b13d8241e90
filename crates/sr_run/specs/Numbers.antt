-- Numbers on the command line: 1 to 20 decimal digits, below 2^64. Leading zeros are digits.
use Rattle.std.specs.Prelude.{ℕ, ◌^◌, ◌&&◌, nat_le, nat_lt, if◌then◌else◌, List, length, Option, Some, None, option_and_then}
use Rattle.std.specs.List.{list_all}
use Rattle.sr_gen.specs.Capture.{most_packets}
use Rattle.sr_decimal.specs.Front.{is_digit, value_from}

-- the number, if it is below 2^64
abbrev pub fitting : ℕ → Option ℕ
fitting n = if nat_lt n (2 ^ 64) then Some n else None

-- the number that a word spells
unfoldable pub number_of : List ℕ → Option ℕ
number_of word =
    if nat_le 1 (length word) && nat_le (length word) 20 && list_all is_digit word then fitting (value_from 0 word) else None

-- a number of packets: 1 to 4,194,304
abbrev pub packets_in : ℕ → Option ℕ
packets_in n = if nat_le 1 n && nat_le n most_packets then Some n else None

unfoldable pub count_of_packets : List ℕ → Option ℕ
count_of_packets word = option_and_then packets_in (number_of word)
