-- Reading as functions of the bytes: the value at the front, and the bytes after it and its ending; none where no such value is there.
use Rattle.std.specs.Prelude.{ℕ, ◌+◌, ◌*◌, ◌==◌, if◌then◌else◌, List, [], ◌∷◌, codes, Option, Some, None, option_and_then}
use Rattle.sr_base.specs.Key.{KeyView}
use Rattle.sr_base.specs.declared.kind.Kind.{Kind}
use Rattle.sr_base.specs.declared.kind.Kind.TheVariants.{Opener, Carry, Ending}
use Rattle.sr_base.specs.declared.place.Place.{Place}
use Rattle.sr_base.specs.declared.place.Place.TheVariants.{Slot, Row}
use Rattle.sr_decimal.specs.Front.{number_front}
use Rattle.sr_frame.specs.declared.skip.Skip.{Skip}
use Rattle.sr_frame.specs.declared.skip.Skip.TheVariants.{NotIpv4, NotTcp, Fragment, Short, NotVip}
use Rattle.sr_law.specs.declared.line.Line.{Line}
use Rattle.sr_law.specs.declared.line.Line.TheVariants.{Packet, Answer, Given, Recorded, Hold, Switched, Finished, TakenDown, Reserved, Placed, Cleared, Swept, Retired, Refused}
use Rattle.sr_law.specs.declared.verdict.HeldBy.TheVariants as held
use Rattle.sr_law.specs.declared.verdict.Verdict.{Verdict}
use Rattle.sr_law.specs.declared.verdict.Verdict.TheVariants.{To, Held, Down, Full, NoPlace}
use Rattle.sr_text.specs.declared.name.Name.{Name}
use Rattle.sr_text.specs.declared.name.Name.TheVariants as name

infixl 10 ◌>>=◌
abbrev pub ◌>>=◌ : {A B : Type 0} → Option A → (A → Option B) → Option B
o >>= f = option_and_then f o

-- the bytes after these at the front
abbrev pub after_word : List ℕ → List ℕ → Option (List ℕ)
after_word [] bytes = Some bytes
after_word (w ∷ word) [] = None
after_word (w ∷ word) (byte ∷ bytes) = if byte == w then after_word word bytes else None

-- a number up to `most`, and the byte behind it
unfoldable pub field_front : ℕ → ℕ → List ℕ → Option (ℕ × List ℕ)
field_front most ending bytes = do
  number ← number_front most bytes
  rest ← after_word (ending ∷ []) number.1
  Some (number.0, rest)

-- what comes after a word that is there; else the rest of the choice
abbrev pub choose : {B : Type 0} → Option (List ℕ) → (List ℕ → Option B) → Option B → Option B
choose (Some rest) read otherwise = read rest
choose None read otherwise = otherwise

-- a value that a word spells
abbrev pub said : {A : Type 0} → A → List ℕ → List ℕ → Option (A × List ℕ) → Option (A × List ℕ)
said value word bytes otherwise = choose (after_word word bytes) (λ rest. Some (value, rest)) otherwise

-- an address, and the colon behind it
unfoldable pub address_front : List ℕ → Option (ℕ × List ℕ)
address_front bytes = do
  a ← field_front 255 46 bytes
  b ← field_front 255 46 a.1
  c ← field_front 255 46 b.1
  d ← field_front 255 58 c.1
  Some (((a.0 * 256 + b.0) * 256 + c.0) * 256 + d.0, d.1)

-- a key, and the byte behind it
unfoldable pub key_front : ℕ → List ℕ → Option (KeyView × List ℕ)
key_front ending bytes = do
  vip ← field_front 15 47 bytes
  ip ← address_front vip.1
  port ← field_front 65535 ending ip.1
  Some (record { vip = vip.0; ip = ip.0; port = port.0 }, port.1)

-- a kind, and a space
unfoldable pub kind_front : List ℕ → Option (Kind × List ℕ)
kind_front bytes = said Opener (codes "open ") bytes (said Carry (codes "data ") bytes (said Ending (codes "end ") bytes None))

-- a way, a bucket and a cell, and the line's end
unfoldable pub slot_front : List ℕ → Option (Place × List ℕ)
slot_front bytes = do
  way ← field_front 255 98 bytes
  bucket ← field_front 4294967295 99 way.1
  cell ← field_front 255 10 bucket.1
  Some (Slot way.0 bucket.0 cell.0, cell.1)

-- a row, and the line's end
unfoldable pub row_front : List ℕ → Option (Place × List ℕ)
row_front bytes = do
  row ← field_front 4294967295 10 bytes
  Some (Row row.0, row.1)

-- a place, and the line's end
unfoldable pub place_front : List ℕ → Option (Place × List ℕ)
place_front bytes = choose (after_word (119 ∷ []) bytes) slot_front (choose (after_word (102 ∷ []) bytes) row_front None)

-- a server, a version, a pool, and the line's end
unfoldable pub choice_front : List ℕ → Option (ℕ × ℕ × ℕ × List ℕ)
choice_front bytes = do
  server ← field_front 4294967295 32 bytes
  version ← field_front 63 32 server.1
  pool ← field_front 18446744073709551615 10 version.1
  Some (server.0, version.0, pool.0, pool.1)

-- where a packet went, and the line's end
unfoldable pub to_front : List ℕ → Option (Verdict × List ℕ)
to_front bytes = do
  choice ← choice_front bytes
  Some (To choice.0 choice.1 choice.2, choice.3)

-- where it would have gone, and the line's end
unfoldable pub down_front : List ℕ → Option (Verdict × List ℕ)
down_front bytes = do
  choice ← choice_front bytes
  Some (Down choice.0 choice.1 choice.2, choice.3)

-- a verdict without numbers
unfoldable pub plain_front : List ℕ → Option (Verdict × List ℕ)
plain_front bytes =
    said (Held held.Clash) (codes "held clash\n") bytes
    (said (Held held.Hold) (codes "held hold\n") bytes
    (said (Held held.Transit) (codes "held transit\n") bytes
    (said Full (codes "full\n") bytes
    (said NoPlace (codes "noplace\n") bytes None))))

-- a verdict, and the line's end
unfoldable pub verdict_front : List ℕ → Option (Verdict × List ℕ)
verdict_front bytes = choose (after_word (codes "to ") bytes) to_front (choose (after_word (codes "down ") bytes) down_front (plain_front bytes))

-- the name of a line of the controller's changes, and a space
unfoldable pub change_name_front : List ℕ → Option (Name × List ℕ)
change_name_front bytes =
    said name.Give (codes "give ") bytes
    (said name.Record (codes "record ") bytes
    (said name.Hold (codes "hold ") bytes
    (said name.Switch (codes "switch ") bytes
    (said name.Finish (codes "finish ") bytes
    (said name.Down (codes "down ") bytes
    (said name.Refuse (codes "refuse ") bytes None))))))

-- a line's name, and a space
unfoldable pub name_front : List ℕ → Option (Name × List ℕ)
name_front bytes =
    said name.Packet (codes "packet ") bytes
    (said name.Answer (codes "answer ") bytes
    (said name.Reserve (codes "reserve ") bytes
    (said name.Place (codes "place ") bytes
    (said name.Clear (codes "clear ") bytes
    (said name.Retire (codes "retire ") bytes
    (said name.Sweep (codes "sweep ") bytes (change_name_front bytes)))))))

-- a tick, and a space
abbrev pub tick_front : List ℕ → Option (ℕ × List ℕ)
tick_front bytes = field_front 18446744073709551615 32 bytes

-- the fields of a packet's line, and its end
unfoldable pub packet_front : List ℕ → Option (Line × List ℕ)
packet_front bytes = do
  number ← field_front 4294967295 32 bytes
  entered ← tick_front number.1
  out ← tick_front entered.1
  pipe ← field_front 255 32 out.1
  key ← key_front 32 pipe.1
  kind ← kind_front key.1
  verdict ← verdict_front kind.1
  Some (Packet number.0 entered.0 out.0 pipe.0 key.0 kind.0 verdict.0, verdict.1)

-- the fields of an answer's line, and its end
unfoldable pub answer_front : List ℕ → Option (Line × List ℕ)
answer_front bytes = do
  out ← tick_front bytes
  pipe ← field_front 255 32 out.1
  nth ← field_front 4294967295 32 pipe.1
  key ← key_front 32 nth.1
  verdict ← verdict_front key.1
  Some (Answer out.0 pipe.0 nth.0 key.0 verdict.0, verdict.1)

-- the fields of the line of a version that names a pool, and its end
unfoldable pub give_front : List ℕ → Option (Line × List ℕ)
give_front bytes = do
  out ← tick_front bytes
  vip ← field_front 255 32 out.1
  version ← field_front 63 32 vip.1
  pool ← field_front 18446744073709551615 10 version.1
  Some (Given out.0 vip.0 version.0 pool.0, pool.1)

-- the fields of a switch's line, and its end
unfoldable pub switch_front : List ℕ → Option (Line × List ℕ)
switch_front bytes = do
  out ← tick_front bytes
  vip ← field_front 255 32 out.1
  pool ← field_front 18446744073709551615 10 vip.1
  Some (Switched out.0 vip.0 pool.0, pool.1)

-- the fields of a sweep's line, and its end
unfoldable pub sweep_front : List ℕ → Option (Line × List ℕ)
sweep_front bytes = do
  number ← tick_front bytes
  from ← tick_front number.1
  to ← tick_front from.1
  at_ms ← field_front 18446744073709551615 10 to.1
  Some (Swept number.0 from.0 to.0 at_ms.0, at_ms.1)

-- the fields of the line of a connection that is over, and its end
unfoldable pub retire_front : List ℕ → Option (Line × List ℕ)
retire_front bytes = do
  out ← tick_front bytes
  key ← key_front 10 out.1
  Some (Retired out.0 key.0, key.1)

-- a tick, a number up to `most`, and the line's end
unfoldable pub numbered_front : ℕ → List ℕ → Option (ℕ × ℕ × List ℕ)
numbered_front most bytes = do
  out ← tick_front bytes
  number ← field_front most 10 out.1
  Some (out.0, number.0, number.1)

-- a tick, a key, a place, and the line's end
unfoldable pub entry_front : List ℕ → Option (ℕ × KeyView × Place × List ℕ)
entry_front bytes = do
  out ← tick_front bytes
  key ← key_front 32 out.1
  place ← place_front key.1
  Some (out.0, key.0, place.0, place.1)

-- what comes after a line's name
abbrev pub named_front : Name → List ℕ → Option (Line × List ℕ)
named_front name.Packet bytes = packet_front bytes
named_front name.Answer bytes = answer_front bytes
named_front name.Give bytes = give_front bytes
named_front name.Record bytes = numbered_front 255 bytes >>= λ x. Some (Recorded x.0 x.1, x.2)
named_front name.Hold bytes = numbered_front 255 bytes >>= λ x. Some (Hold x.0 x.1, x.2)
named_front name.Switch bytes = switch_front bytes
named_front name.Finish bytes = numbered_front 255 bytes >>= λ x. Some (Finished x.0 x.1, x.2)
named_front name.Down bytes = numbered_front 4294967295 bytes >>= λ x. Some (TakenDown x.0 x.1, x.2)
named_front name.Reserve bytes = entry_front bytes >>= λ x. Some (Reserved x.0 x.1 x.2, x.3)
named_front name.Place bytes = entry_front bytes >>= λ x. Some (Placed x.0 x.1 x.2, x.3)
named_front name.Clear bytes = entry_front bytes >>= λ x. Some (Cleared x.0 x.1 x.2, x.3)
named_front name.Sweep bytes = sweep_front bytes
named_front name.Retire bytes = retire_front bytes
named_front name.Refuse bytes = numbered_front 4294967295 bytes >>= λ x. Some (Refused x.0 x.1, x.2)

-- a line, with its line feed
unfoldable pub line_front : List ℕ → Option (Line × List ℕ)
line_front bytes = do
  name ← name_front bytes
  named_front name.0 name.1

-- why a record was skipped, and the line's end
unfoldable pub why_front : List ℕ → Option (Skip × List ℕ)
why_front bytes =
    said NotIpv4 (codes "notipv4\n") bytes
    (said NotTcp (codes "nottcp\n") bytes
    (said Fragment (codes "fragment\n") bytes
    (said Short (codes "short\n") bytes
    (said NotVip (codes "notvip\n") bytes None))))

-- the line of a skipped record, with its line feed
unfoldable pub skip_front : List ℕ → Option ((ℕ × Skip) × List ℕ)
skip_front bytes = do
  rest ← after_word (codes "skip ") bytes
  number ← field_front 4294967295 32 rest
  why ← why_front number.1
  Some ((number.0, why.0), why.1)
