-- What a single value of a script spells, and why it is at fault.
use Rattle.std.specs.Prelude.{ℕ, Bool, ◌==◌, ◌&&◌, ◌%◌, nat_le, nat_lt, ℤ, pos, negsuc, List, [], ◌∷◌, length, if◌then◌else◌, is_some, ok_or, option_map, Ok, Err}
use Rattle.std.specs.List.{list_any}
use Rattle.toml.specs.Data.{Data, Items, no_items, item, Members, no_members, member, as_str, as_integer, as_array, as_table, get_member}
use Rattle.sr_base.specs.Limit.{between, power_up_to}
use Rattle.sr_script.specs.declared.why.Why.{Why}
use Rattle.sr_script.specs.declared.why.Why.TheVariants.{Missing, WrongType, Repeated}
use Rattle.sr_script.specs.declared.rule.Rule.{Rule}
use Rattle.sr_script.specs.declared.rule.Rule.TheVariants.{Between, PowerUpTo, FoursUpTo, Below}
use Rattle.sr_script.specs.Fault.{Judgement, ◌>>=◌}

-- the elements of an array, and the keys of a table in their order
abbrev pub list_of : Items → List Data
list_of no_items = []
list_of (item d ds) = d ∷ list_of ds

-- the keys of a table, in their order
abbrev pub keys_of : Members → List (List ℕ)
keys_of no_members = []
keys_of (member key d ms) = key ∷ keys_of ms

-- whether the table has a key
abbrev pub has : List ℕ → Members → Bool
has key t = is_some (get_member key t)

-- the value at a key that has to be there
abbrev pub wanted : List ℕ → Members → Judgement Data
wanted key t = ok_or (get_member key t) Missing

-- values of one type
abbrev pub text : Data → Judgement (List ℕ)
text d = ok_or (as_str d) WrongType

-- the whole number that a value is
abbrev pub whole : Data → Judgement ℤ
whole d = ok_or (as_integer d) WrongType

-- the elements of the array that a value is
abbrev pub elements : Data → Judgement (List Data)
elements d = ok_or (option_map list_of (as_array d)) WrongType

-- the table that a value is
abbrev pub table : Data → Judgement Members
table d = ok_or (as_table d) WrongType

-- the numbers of a rule
abbrev pub fits : Rule → ℕ → Bool
fits (Between low high) n = between low high n
fits (PowerUpTo most) n = power_up_to most n
fits (FoursUpTo most) n = between 4 most n && (n % 4 == 0)
fits (Below count) n = nat_lt n count

-- no number of the rule is greater
abbrev pub most_of : Rule → ℕ
most_of (Between low high) = high
most_of (PowerUpTo most) = most
most_of (FoursUpTo most) = most
most_of (Below count) = count

-- a whole number by a rule
abbrev pub by_rule : Rule → Why → ℤ → Judgement ℕ
by_rule rule why (pos n) = if fits rule n then Ok n else Err why
by_rule rule why (negsuc n) = Err why

-- a number of the rule; this reason where it is none
abbrev pub number : Rule → Why → Data → Judgement ℕ
number rule why d = whole d >>= by_rule rule why

-- an array of one element at least, and of so many at most
abbrev pub some : {A : Type 0} → Why → List A → Judgement (List A)
some why [] = Err why
some why (x ∷ xs) = Ok (x ∷ xs)

-- an array of so many elements at most
abbrev pub at_most : {A : Type 0} → ℕ → Why → List A → Judgement (List A)
at_most most why xs = if nat_le (length xs) most then Ok xs else Err why

-- a value that is none of those before it
abbrev pub fresh : {A : Type 0} → (A → A → Bool) → List A → A → Judgement A
fresh same before x = if list_any (λ y. same y x) before then Err Repeated else Ok x
