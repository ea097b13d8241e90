-- What an atomic step does to the words, and what its actor learns.
use Rattle.std.specs.Prelude.{ℕ, ◌+◌, ◌%◌, ◌^◌, bit_or}
use Rattle.sr_machine.specs.declared.name.Name.{Name}
use Rattle.sr_machine.specs.declared.op.Op.{Op}
use Rattle.sr_machine.specs.declared.op.Op.TheVariants.{Loads, Stores, Swaps, Adds, Ors}
use Rattle.sr_machine.specs.Names.{rewritten}

-- the word that it is made on
abbrev pub op_name : Op → Name
op_name (Loads name) = name
op_name (Stores name x) = name
op_name (Swaps name x) = name
op_name (Adds name n) = name
op_name (Ors name b) = name

-- what becomes of this word
abbrev pub op_change : Op → ℕ → ℕ
op_change (Loads name) found = found
op_change (Stores name x) found = x
op_change (Swaps name x) found = x
op_change (Adds name n) found = (found + n) % 2 ^ 64
op_change (Ors name b) found = bit_or found b

-- the words after it; a load leaves them as they are
abbrev pub op_words : (Name → ℕ) → Op → Name → ℕ
op_words words (Loads name) = words
op_words words (Stores name x) = rewritten words name x
op_words words (Swaps name x) = rewritten words name x
op_words words (Adds name n) = rewritten words name ((words name + n) % 2 ^ 64)
op_words words (Ors name b) = rewritten words name (bit_or (words name) b)

-- what the actor learns where the word was this: the word; at a store the number that it stored
abbrev pub op_answer : Op → ℕ → ℕ
op_answer (Stores name x) found = x
op_answer op found = found
