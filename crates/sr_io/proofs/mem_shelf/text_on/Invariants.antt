use Rattle.std.proofs.Common.{◌≡◌, map, drop, string_bytes}
use Rattle.sr_io.specs.MemShelf.{text_of}
use Rattle.sr_io.proofs.mem_shelf.text_on.Given as goal

-- the name isn't among the files that were passed
abbrev pub invariant-loop-file : goal.invariant-loop-file
invariant-loop-file l = text_of (map (λ f. (string_bytes f.0, f.1.items)) (drop l.file-index l.files)) l.name ≡ text_of (map (λ f. (string_bytes f.0, f.1.items)) l.files) l.name
