-- Where in a script something stands: keys joined by dots, positions in brackets, from 0.
use Rattle.std.specs.Prelude.{ℕ, List, [], ◌++◌, codes, decimal}
use Rattle.sr_script.specs.declared.section.Section.{Section}
use Rattle.sr_script.specs.declared.section.Section.TheVariants.{Top, Shape, Vip, Change}

-- what stands before a key of the table
abbrev pub prefix : Section → List ℕ
prefix Top = []
prefix Shape = codes "shape."
prefix (Vip i) = codes "vip[" ++ decimal i ++ codes "]."
prefix (Change i) = codes "change[" ++ decimal i ++ codes "]."

-- the path of a key of the table
abbrev pub key_path : Section → List ℕ → List ℕ
key_path section key = prefix section ++ key

-- the path of an element of the array at a key of the table
abbrev pub item_path : Section → List ℕ → ℕ → List ℕ
item_path section key i = key_path section key ++ codes "[" ++ decimal i ++ codes "]"
