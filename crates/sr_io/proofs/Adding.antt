-- What several calls of a sink add together, for every caller.
use Rattle.std.proofs.Common.{◌≡◌, sym, ℕ, ◌+◌, ◌≤◌, min, List, [], ◌++◌, length, Option, Some, None, refl, append_assoc, append-nil, arith}
use Rattle.std.proofs.lemmas.List.{take-append-le, take_min}
use Rattle.std.proofs.Math.Seq.{take-append-add, take-length}
use Rattle.sr_io.specs.Sink.{appended, Adds, AddsFront, Puts}
use Rattle.sr_io.specs.declared.sink.Put.{Put}
use Rattle.sr_io.specs.declared.sink.Put.TheVariants.{All, Failed}

appended_then : (a b : Option (List ℕ)) (x y all : List ℕ) → ((m : List ℕ) → b ≡ Some m → appended a x ≡ Some m) → appended b y ≡ Some all → appended a (x ++ y) ≡ Some all
appended_then a None x y all first second = cc
appended_then None (Some m) x y all first second = let e : appended None x ≡ Some m = first m refl in cc
appended_then (Some l) (Some m) x y all first second =
    let e : Some (l ++ x) ≡ Some m = first m refl in
    let f : l ++ (x ++ y) ≡ (l ++ x) ++ y = sym (append_assoc l x y) in
    cc

appended_nothing : (a : Option (List ℕ)) (all : List ℕ) → a ≡ Some all → appended a [] ≡ Some all
appended_nothing None all e = e
appended_nothing (Some l) all e = rw append-nil e

-- no bytes
pub adds_nothing : (a : Option (List ℕ)) → Adds a a []
adds_nothing a = record { told = appended_nothing a }

-- these bytes, and then those
pub adds_then : {a b c : Option (List ℕ)} {x y : List ℕ} → Adds a b x → Adds b c y → Adds a c (x ++ y)
adds_then {a} {b} {c} {x} {y} first second = record { told = λ all e. appended_then a b x y all first.told (second.told all e) }

-- these bytes, and then a prefix of those
pub adds_front_then : {a b c : Option (List ℕ)} {x : List ℕ} (y : List ℕ) → Adds a b x → AddsFront b c y → AddsFront a c (x ++ y)
adds_front_then {a} {b} {c} {x} y first (n, second) = (length x + n, rw (take-append-add x y n) (adds_then first second))

-- no bytes are a prefix of any
pub adds_front_nothing : (a : Option (List ℕ)) (x : List ℕ) → AddsFront a a x
adds_front_nothing a x = (0, adds_nothing a)

-- all of some bytes is a prefix of them
pub adds_front_whole : {a b : Option (List ℕ)} {x : List ℕ} → Adds a b x → AddsFront a b x
adds_front_whole {a} {b} {x} whole = (length x, rw (take-length x) whole)

-- a prefix of some bytes is a prefix of them and more
pub adds_front_more : {a b : Option (List ℕ)} (x y : List ℕ) → AddsFront a b x → AddsFront a b (x ++ y)
adds_front_more x y (n, front) =
    let short : min n (length x) ≤ length x = omega arith in
    (min n (length x), rw (take-append-le (min n (length x)) x y short, take_min n x) front)

-- these bytes, and then a prefix of those, before which more was to come
pub adds_front_then_more : {a b c : Option (List ℕ)} {x : List ℕ} (y z : List ℕ) → Adds a b x → AddsFront b c y → AddsFront a c (x ++ (y ++ z))
adds_front_then_more y z first second = adds_front_then (y ++ z) first (adds_front_more y z second)

-- these bytes, and then what an answer says of those
pub puts_then : {a b : Option (List ℕ)} (c : Option (List ℕ)) (put : Put) (x y : List ℕ) → Adds a b x → Puts put b c y → Puts put a c (x ++ y)
puts_then c All x y first second = adds_then first second
puts_then c Failed x y first second = adds_front_then y first second
