-- A line of the grammar has at most 200 bytes, its line feed included.
use Rattle.std.proofs.Common.{ℕ, ◌+◌, ◌/◌, ◌%◌, ◌^◌, ◌<◌, ◌≤◌, List, ◌∷◌, ◌++◌, length, arith}
use Rattle.std.proofs.lemmas.List.{length-append}
use Rattle.std.proofs.lemmas.Fmt.{length-decimal-le}
use Rattle.std.specs.Fmt.{decimal}
use Rattle.sr_base.specs.Key.{KeyView, IsKey}
use Rattle.sr_base.specs.declared.kind.Kind.{Kind}
use Rattle.sr_base.specs.declared.kind.Kind.TheVariants.{Opener, Carry, Ending}
use Rattle.sr_base.specs.declared.place.Place.{Place}
use Rattle.sr_base.specs.declared.place.Place.TheVariants.{Slot, Row}
use Rattle.sr_frame.specs.declared.skip.Skip.{Skip}
use Rattle.sr_frame.specs.declared.skip.Skip.TheVariants.{NotIpv4, NotTcp, Fragment, Short, NotVip}
use Rattle.sr_law.specs.declared.line.Line.{Line}
use Rattle.sr_law.specs.declared.line.Line.TheVariants.{Packet, Answer, Given, Recorded, Hold, Switched, Finished, TakenDown, Reserved, Placed, Cleared, Swept, Retired, Refused}
use Rattle.sr_law.specs.declared.verdict.HeldBy.TheVariants as held
use Rattle.sr_law.specs.declared.verdict.Verdict.{Verdict}
use Rattle.sr_law.specs.declared.verdict.Verdict.TheVariants.{To, Held, Down, Full, NoPlace}
use Rattle.sr_text.specs.Fields.{field, address_text, key_text, kind_text, place_text, choice_text, verdict_text}
use Rattle.sr_text.specs.LineText.{line_text, skip_word, skip_text, ended}
use Rattle.sr_text.specs.Ranges.{IsPlace, IsChoice, IsVerdict, IsLine, IsSkipped}

pub digits : (k n : ℕ) (rest : List ℕ) → 0 < k → n < 10 ^ k → n < 2 ^ 64 → length (decimal n ++ rest) ≤ k + length rest
digits k n rest p h s = omega (arith, length-append (decimal n) rest, length-decimal-le k n p h s)

pub tick : (n : ℕ) (rest : List ℕ) → n < 2 ^ 64 → length (field n rest) ≤ 21 + length rest
tick n rest h = let d = digits 20 n (32 ∷ rest) (omega arith) (omega arith) h in omega arith

pub middle : (n : ℕ) (rest : List ℕ) → n < 2 ^ 32 → length (field n rest) ≤ 11 + length rest
middle n rest h = let d = digits 10 n (32 ∷ rest) (omega arith) (omega arith) (omega arith) in omega arith

pub small : (n : ℕ) (rest : List ℕ) → n < 2 ^ 8 → length (field n rest) ≤ 4 + length rest
small n rest h = let d = digits 3 n (32 ∷ rest) (omega arith) (omega arith) (omega arith) in omega arith

pub address : (ip : ℕ) (rest : List ℕ) → ip < 2 ^ 32 → length (address_text ip rest) ≤ 15 + length rest
unfolding address_text
address ip rest h =
    let d = digits 3 (ip % 256) rest (omega arith) (omega arith) (omega arith) in
    let c = digits 3 (ip / 256 % 256) (46 ∷ (decimal (ip % 256) ++ rest)) (omega arith) (omega arith) (omega arith) in
    let b = digits 3 (ip / 65536 % 256) (46 ∷ (decimal (ip / 256 % 256) ++ 46 ∷ (decimal (ip % 256) ++ rest))) (omega arith) (omega arith) (omega arith) in
    let a = digits 3 (ip / 16777216) (46 ∷ (decimal (ip / 65536 % 256) ++ 46 ∷ (decimal (ip / 256 % 256) ++ 46 ∷ (decimal (ip % 256) ++ rest)))) (omega arith) (omega arith) (omega arith) in
    omega arith

pub key : (k : KeyView) (rest : List ℕ) → IsKey k → length (key_text k rest) ≤ 24 + length rest
unfolding key_text
key k rest h =
    let v = h.vip in let p = h.port in
    let c = digits 5 k.port rest (omega arith) (omega arith) (omega arith) in
    let b = address k.ip (58 ∷ (decimal k.port ++ rest)) h.ip in
    let a = digits 2 k.vip (47 ∷ address_text k.ip (58 ∷ (decimal k.port ++ rest))) (omega arith) (omega arith) (omega arith) in
    omega arith

pub kind : (k : Kind) (rest : List ℕ) → length (kind_text k rest) ≤ 4 + length rest
kind Opener rest = omega arith
kind Carry rest = omega arith
kind Ending rest = omega arith

pub place : (p : Place) (rest : List ℕ) → IsPlace p → length (place_text p rest) ≤ 19 + length rest
place (Slot way bucket cell) rest h =
    let w = h.0 in let b = h.1 in let c = h.2 in
    let z = digits 3 cell rest (omega arith) (omega arith) (omega arith) in
    let y = digits 10 bucket (99 ∷ (decimal cell ++ rest)) (omega arith) (omega arith) (omega arith) in
    let x = digits 3 way (98 ∷ (decimal bucket ++ 99 ∷ (decimal cell ++ rest))) (omega arith) (omega arith) (omega arith) in
    omega arith
place (Row row) rest h = let z = digits 10 row rest (omega arith) (omega arith) (omega arith) in omega arith

pub choice : (server version pool : ℕ) (rest : List ℕ) → IsChoice server version pool → length (choice_text server version pool rest) ≤ 34 + length rest
choice server version pool rest h =
    let s = h.0 in let v = h.1 in let p = h.2 in
    let z = digits 20 pool rest (omega arith) (omega arith) (omega arith) in
    let y = digits 2 version (32 ∷ (decimal pool ++ rest)) (omega arith) (omega arith) (omega arith) in
    let x = digits 10 server (32 ∷ (decimal version ++ 32 ∷ (decimal pool ++ rest))) (omega arith) (omega arith) (omega arith) in
    omega arith

pub verdict : (v : Verdict) (rest : List ℕ) → IsVerdict v → length (verdict_text v rest) ≤ 39 + length rest
unfolding verdict_text
verdict (To server version pool) rest h = let c = choice server version pool rest h in omega arith
verdict (Held held.Clash) rest h = omega arith
verdict (Held held.Hold) rest h = omega arith
verdict (Held held.Transit) rest h = omega arith
verdict (Down server version pool) rest h = let c = choice server version pool rest h in omega arith
verdict Full rest h = omega arith
verdict NoPlace rest h = omega arith

pub number : (n : ℕ) → n < 2 ^ 64 → length (decimal n ++ ended) ≤ 21
number n h = let d = digits 20 n ended (omega arith) (omega arith) h in omega arith

pub line_length : (l : Line) → IsLine l → length (line_text l) ≤ 200
unfolding line_text IsLine
line_length (Packet n entered out pipe k kd v) h =
    let a = h.0 in let b = h.1 in let c = h.2 in let d = h.3 in
    let z = verdict v ended h.5 in
    let y = kind kd (32 ∷ verdict_text v ended) in
    let x = key k (32 ∷ kind_text kd (32 ∷ verdict_text v ended)) h.4 in
    let w = small pipe (key_text k (32 ∷ kind_text kd (32 ∷ verdict_text v ended))) d in
    let u = tick out (field pipe (key_text k (32 ∷ kind_text kd (32 ∷ verdict_text v ended)))) c in
    let t = tick entered (field out (field pipe (key_text k (32 ∷ kind_text kd (32 ∷ verdict_text v ended))))) b in
    let s = middle n (field entered (field out (field pipe (key_text k (32 ∷ kind_text kd (32 ∷ verdict_text v ended)))))) a in
    omega arith
line_length (Answer out pipe nth k v) h =
    let a = h.0 in let b = h.1 in let c = h.2 in
    let z = verdict v ended h.4 in
    let x = key k (32 ∷ verdict_text v ended) h.3 in
    let w = middle nth (key_text k (32 ∷ verdict_text v ended)) c in
    let u = small pipe (field nth (key_text k (32 ∷ verdict_text v ended))) b in
    let t = tick out (field pipe (field nth (key_text k (32 ∷ verdict_text v ended)))) a in
    omega arith
line_length (Given out vip version pool) h =
    let a = h.0 in let b = h.1 in let c = h.2 in
    let z = number pool h.3 in
    let y = small version (decimal pool ++ ended) (omega arith) in
    let x = small vip (field version (decimal pool ++ ended)) b in
    let w = tick out (field vip (field version (decimal pool ++ ended))) a in
    omega arith
line_length (Recorded out vip) h = let b = h.1 in let z = number vip (omega arith) in let w = tick out (decimal vip ++ ended) h.0 in omega arith
line_length (Hold out vip) h = let b = h.1 in let z = number vip (omega arith) in let w = tick out (decimal vip ++ ended) h.0 in omega arith
line_length (Switched out vip pool) h =
    let z = number pool h.2 in
    let x = small vip (decimal pool ++ ended) h.1 in
    let w = tick out (field vip (decimal pool ++ ended)) h.0 in
    omega arith
line_length (Finished out vip) h = let b = h.1 in let z = number vip (omega arith) in let w = tick out (decimal vip ++ ended) h.0 in omega arith
line_length (TakenDown out server) h = let b = h.1 in let z = number server (omega arith) in let w = tick out (decimal server ++ ended) h.0 in omega arith
line_length (Reserved out k p) h =
    let z = place p ended h.2 in let x = key k (32 ∷ place_text p ended) h.1 in let w = tick out (key_text k (32 ∷ place_text p ended)) h.0 in omega arith
line_length (Placed out k p) h =
    let z = place p ended h.2 in let x = key k (32 ∷ place_text p ended) h.1 in let w = tick out (key_text k (32 ∷ place_text p ended)) h.0 in omega arith
line_length (Cleared out k p) h =
    let z = place p ended h.2 in let x = key k (32 ∷ place_text p ended) h.1 in let w = tick out (key_text k (32 ∷ place_text p ended)) h.0 in omega arith
line_length (Swept n from to at_ms) h =
    let z = number at_ms h.3 in
    let y = tick to (decimal at_ms ++ ended) h.2 in
    let x = tick from (field to (decimal at_ms ++ ended)) h.1 in
    let w = tick n (field from (field to (decimal at_ms ++ ended))) h.0 in
    omega arith
line_length (Retired out k) h = let x = key k ended h.1 in let w = tick out (key_text k ended) h.0 in omega arith
line_length (Refused out change) h = let b = h.1 in let z = number change (omega arith) in let w = tick out (decimal change ++ ended) h.0 in omega arith

pub word_length : (w : Skip) → length (skip_word w ++ ended) ≤ 9
word_length NotIpv4 = omega arith
word_length NotTcp = omega arith
word_length Fragment = omega arith
word_length Short = omega arith
word_length NotVip = omega arith

pub skip_length : (s : ℕ × Skip) → IsSkipped s → length (skip_text s) ≤ 200
unfolding skip_text
skip_length s h = let z = word_length s.1 in let w = middle s.0 (skip_word s.1 ++ ended) h in omega arith
