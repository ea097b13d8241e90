-- The text of a line.
use Rattle.std.specs.Prelude.{ℕ, List, [], ◌∷◌, ◌++◌, codes}
use Rattle.std.specs.List.{flat_map}
use Rattle.std.specs.Fmt.{decimal}
use Rattle.sr_frame.specs.declared.skip.Skip.{Skip}
use Rattle.sr_frame.specs.declared.skip.Skip.TheVariants.{NotIpv4, NotTcp, Fragment, Short, NotVip}
use Rattle.sr_law.specs.declared.line.Line.{Line}
use Rattle.sr_law.specs.declared.line.Line.TheVariants.{Packet, Answer, Given, Recorded, Hold, Switched, Finished, TakenDown, Reserved, Placed, Cleared, Swept, Retired, Refused}
use Rattle.sr_text.specs.Fields.{field, key_text, kind_text, place_text, verdict_text}

-- why a record was skipped
abbrev pub skip_word : Skip → List ℕ
skip_word NotIpv4 = codes "notipv4"
skip_word NotTcp = codes "nottcp"
skip_word Fragment = codes "fragment"
skip_word Short = codes "short"
skip_word NotVip = codes "notvip"

-- a line's end
abbrev pub ended : List ℕ
ended = 10 ∷ []

-- the first line of a log
abbrev pub head_text : List ℕ
head_text = codes "silkroad 1\n"

-- the line's name and its fields, parted by spaces
unfoldable pub line_text : Line → List ℕ
line_text (Packet number entered out pipe key kind verdict) =
    codes "packet " ++ field number (field entered (field out (field pipe (key_text key (32 ∷ kind_text kind (32 ∷ verdict_text verdict ended))))))
line_text (Answer out pipe nth key verdict) =
    codes "answer " ++ field out (field pipe (field nth (key_text key (32 ∷ verdict_text verdict ended))))
line_text (Given out vip version pool) = codes "give " ++ field out (field vip (field version (decimal pool ++ ended)))
line_text (Recorded out vip) = codes "record " ++ field out (decimal vip ++ ended)
line_text (Hold out vip) = codes "hold " ++ field out (decimal vip ++ ended)
line_text (Switched out vip pool) = codes "switch " ++ field out (field vip (decimal pool ++ ended))
line_text (Finished out vip) = codes "finish " ++ field out (decimal vip ++ ended)
line_text (TakenDown out server) = codes "down " ++ field out (decimal server ++ ended)
line_text (Reserved out key place) = codes "reserve " ++ field out (key_text key (32 ∷ place_text place ended))
line_text (Placed out key place) = codes "place " ++ field out (key_text key (32 ∷ place_text place ended))
line_text (Cleared out key place) = codes "clear " ++ field out (key_text key (32 ∷ place_text place ended))
line_text (Swept number from to at_ms) = codes "sweep " ++ field number (field from (field to (decimal at_ms ++ ended)))
line_text (Retired out key) = codes "retire " ++ field out (key_text key ended)
line_text (Refused out change) = codes "refuse " ++ field out (decimal change ++ ended)

-- a skipped record: its position in the capture, and why
unfoldable pub skip_text : ℕ × Skip → List ℕ
skip_text skip = codes "skip " ++ field skip.0 (skip_word skip.1 ++ ended)

-- the whole log: the head, the skipped records, the lines
abbrev pub log_text : List (ℕ × Skip) → List Line → List ℕ
log_text skips lines = head_text ++ (flat_map skip_text skips ++ flat_map line_text lines)
