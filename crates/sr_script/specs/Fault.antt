-- Faults of a script, and how what a part of the code answers stands to what the definitions give.
use Rattle.std.specs.Prelude.{◌≡◌, ℕ, List, [], ◌∷◌, ◌++◌, Result, Ok, Err, string_bytes}
use Rattle.sr_script.specs.declared.why.Why.{Why}
use Rattle.sr_script.specs.declared.refusal.ScriptRefusal.{ScriptRefusal}
use Rattle.sr_script.specs.declared.refusal.ParseRefusal.{ParseRefusal}
use Rattle.sr_script.specs.declared.refusal.ParseRefusal.TheVariants.{Script, Memory}

-- why and where
pub record Fault : Type 0 where
  pub why : Why
  pub path : List ℕ

-- the fault that a refusal names
abbrev pub fault_of : ScriptRefusal → Fault
fault_of r = record { why = r.why; path = string_bytes r.path }

-- what a value spells, or why it is at fault
abbrev pub Judgement : Type 0 → Type 0
Judgement A = Result A Why

-- what a part of a script spells, or its first fault
abbrev pub Reading : Type 0 → Type 0
Reading A = Result A Fault

infixl 10 ◌>>=◌
-- the first, and where it gives a value the second
abbrev pub ◌>>=◌ : {A B E : Type 0} → Result A E → (A → Result B E) → Result B E
(Ok x) >>= f = f x
(Err e) >>= f = Err e

-- the judgement on what stands at this path
abbrev pub at_path : {A : Type 0} → List ℕ → Judgement A → Reading A
at_path path (Ok x) = Ok x
at_path path (Err why) = Err (record { why = why; path = path })

-- the elements of an array in their order, each read by a step that knows those before it
unfoldable pub each_after : {A B : Type 0} → (List A → B → Reading A) → List A → List B → Reading (List A)
each_after step before [] = Ok before
each_after step before (d ∷ ds) = step before d >>= (λ x. each_after step (before ++ x ∷ []) ds)

-- the refusal names the fault, or memory ran out
abbrev pub Refuses : ParseRefusal → Fault → Type 0
Refuses (Script r) fault = fault ≡ fault_of r
Refuses Memory fault = Unit {0}

-- the refusal names the reading's fault, or memory ran out
abbrev pub Fails : {A : Type 0} → ParseRefusal → Reading A → Type 0
Fails e (Ok x) = e ≡ Memory
Fails e (Err fault) = Refuses e fault

-- the answer is what the reading gives, or memory ran out
abbrev pub Answers : {T A : Type 0} → (T → A) → Result T ParseRefusal → Reading A → Type 0
Answers view (Ok x) reading = reading ≡ Ok (view x)
Answers view (Err e) reading = Fails e reading

-- the answer under a view of its value
abbrev pub seen : {T A E : Type 0} → (T → A) → Result T E → Result A E
seen view (Ok x) = Ok (view x)
seen view (Err e) = Err e
