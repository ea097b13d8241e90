-- A reader's known bytes over calls that took nothing.
use Rattle.std.proofs.Common.{◌∙◌, ℕ, List, take, Option, Some, None, Result, Ok, Err, refl}
use Rattle.std.specs.Io.KnownBytes.{Keeps, Consumes, ReadConsumes}

pub keeps_same : (a : Option (List ℕ)) → Keeps a a
keeps_same None = tt
keeps_same (Some xs) = refl

pub keeps_then : (a b c : Option (List ℕ)) → Keeps a b → Keeps b c → Keeps a c
keeps_then None b c h k = tt
keeps_then (Some xs) None c h k = absurd h
keeps_then (Some xs) (Some ys) None h k = absurd k
keeps_then (Some xs) (Some ys) (Some zs) h k = k ∙ h

consumes_then : (a b c : Option (List ℕ)) (bs : List ℕ) → Keeps a b → Consumes b c bs → Consumes a c bs
consumes_then None b c bs h k = tt
consumes_then (Some xs) None c bs h k = absurd h
consumes_then (Some xs) (Some ys) None bs h k = absurd k
consumes_then (Some xs) (Some ys) (Some zs) bs h k = cc

pub reads_then : {E : Type 0} (a b c : Option (List ℕ)) (r : Result ℕ E) (buf : List ℕ) → Keeps a b → ReadConsumes b c r buf → ReadConsumes a c r buf
reads_then a b c (Ok n) buf h k = (consumes_then a b c (take n buf) h k.0, k.1)
reads_then a b c (Err e) buf h k = keeps_then a b c h k
