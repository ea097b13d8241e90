-- The library takes the words of every command, and its parts are those words.
use Rattle.std.proofs.Common.{◌≡◌, ◌<◌, ◌+◌, ◌++◌, ℕ, Bool, true, false, cond, List, [], ◌∷◌, Option, Some, None, option_map, map, drop, length, get_or, codes, refl, sym, ap, ◌∙◌, subst, add-one, drop-cons, append_assoc}
use Rattle.std.specs.Borrow.{Bor}
use Rattle.std.specs.List.{list_any}
use Rattle.std.specs.Prelude.{IsSome}
use Rattle.std.specs.Str.{bytes_eq}
use Rattle.std.proofs.lemmas.Bool.{false≢true, and_parts, not-true, or_parts}
use Rattle.std.proofs.lemmas.Slice.Eq.{bytes_eq-Decides}
use Rattle.clap.specs.Words.{App, Row, first_value, is_simple, rows_of, subcommand_name_of, subcommand_of, subcommand_rows_of, takes, with_rule, with_subcommand, new_app, new_rule, app_of, AddsSubcommand}
use Rattle.clap.specs.declared.parser.matches.ArgMatches.{ArgMatches}
use Rattle.clap.specs.declared.builder.command.Command.{Command}
use Rattle.clap.specs.declared.parser.matches.Found.{Found}
use Rattle.clap.proofs.WalkLemmas.{first_value-rows}
use Rattle.clap.proofs.OnLiterals.{clap_on_literals}
use Rattle.sr_run.specs.Command.{IsCommand, begins_with_dash, command_of, command_of_plain, command_of_two, command_of_three, Audit, Replay, demo_of, make_of, one_of, steps_of}
use Rattle.sr_run.specs.Parting.{before, command_of_form, form_of, parts_of, program, texts, values_of, with_arguments, with_forms}

-- the library takes these words, and its parts are the words
pub record Parts (words : List (List ℕ)) : Type 0 where
  pub taken : takes program words ≡ true
  pub same : parts_of (subcommand_of program words) ≡ words

pub program_simple : is_simple program ≡ true
program_simple = refl

one_taken : (first second : List ℕ) → begins_with_dash first ≡ false → begins_with_dash second ≡ false
    → takes program (codes "one" ∷ first ∷ second ∷ []) ≡ true
unfolding clap_on_literals
one_taken [] [] e f = refl
one_taken [] (y ∷ second) e f = simp f
one_taken (x ∷ first) [] e f = simp e
one_taken (x ∷ first) (y ∷ second) e f = simp (e, f)

one_same : (first second : List ℕ) → begins_with_dash first ≡ false → begins_with_dash second ≡ false
    → parts_of (subcommand_of program (codes "one" ∷ first ∷ second ∷ [])) ≡ codes "one" ∷ first ∷ second ∷ []
unfolding clap_on_literals
one_same [] [] e f = refl
one_same [] (y ∷ second) e f = simp f
one_same (x ∷ first) [] e f = simp e
one_same (x ∷ first) (y ∷ second) e f = simp (e, f)

make_taken : (first second : List ℕ) → begins_with_dash first ≡ false → begins_with_dash second ≡ false
    → takes program (codes "make" ∷ first ∷ second ∷ []) ≡ true
unfolding clap_on_literals
make_taken [] [] e f = refl
make_taken [] (y ∷ second) e f = simp f
make_taken (x ∷ first) [] e f = simp e
make_taken (x ∷ first) (y ∷ second) e f = simp (e, f)

make_same : (first second : List ℕ) → begins_with_dash first ≡ false → begins_with_dash second ≡ false
    → parts_of (subcommand_of program (codes "make" ∷ first ∷ second ∷ [])) ≡ codes "make" ∷ first ∷ second ∷ []
unfolding clap_on_literals
make_same [] [] e f = refl
make_same [] (y ∷ second) e f = simp f
make_same (x ∷ first) [] e f = simp e
make_same (x ∷ first) (y ∷ second) e f = simp (e, f)

steps_taken : (first second : List ℕ) → begins_with_dash first ≡ false → begins_with_dash second ≡ false
    → takes program (codes "steps" ∷ first ∷ second ∷ []) ≡ true
unfolding clap_on_literals
steps_taken [] [] e f = refl
steps_taken [] (y ∷ second) e f = simp f
steps_taken (x ∷ first) [] e f = simp e
steps_taken (x ∷ first) (y ∷ second) e f = simp (e, f)

steps_same : (first second : List ℕ) → begins_with_dash first ≡ false → begins_with_dash second ≡ false
    → parts_of (subcommand_of program (codes "steps" ∷ first ∷ second ∷ [])) ≡ codes "steps" ∷ first ∷ second ∷ []
unfolding clap_on_literals
steps_same [] [] e f = refl
steps_same [] (y ∷ second) e f = simp f
steps_same (x ∷ first) [] e f = simp e
steps_same (x ∷ first) (y ∷ second) e f = simp (e, f)

audit_taken : (script : List ℕ) → begins_with_dash script ≡ false → takes program (codes "audit" ∷ script ∷ []) ≡ true
unfolding clap_on_literals
audit_taken [] e = refl
audit_taken (x ∷ script) e = simp e

audit_same : (script : List ℕ) → begins_with_dash script ≡ false → parts_of (subcommand_of program (codes "audit" ∷ script ∷ [])) ≡ codes "audit" ∷ script ∷ []
unfolding clap_on_literals
audit_same [] e = refl
audit_same (x ∷ script) e = simp e

replay_taken : (script : List ℕ) → begins_with_dash script ≡ false → takes program (codes "replay" ∷ script ∷ []) ≡ true
unfolding clap_on_literals
replay_taken [] e = refl
replay_taken (x ∷ script) e = simp e

replay_same : (script : List ℕ) → begins_with_dash script ≡ false → parts_of (subcommand_of program (codes "replay" ∷ script ∷ [])) ≡ codes "replay" ∷ script ∷ []
unfolding clap_on_literals
replay_same [] e = refl
replay_same (x ∷ script) e = simp e

demo_taken : (number : List ℕ) → begins_with_dash number ≡ false → takes program (codes "demo" ∷ number ∷ []) ≡ true
unfolding clap_on_literals
demo_taken [] e = refl
demo_taken (x ∷ number) e = simp e

demo_same : (number : List ℕ) → begins_with_dash number ≡ false → parts_of (subcommand_of program (codes "demo" ∷ number ∷ [])) ≡ codes "demo" ∷ number ∷ []
unfolding clap_on_literals
demo_same [] e = refl
demo_same (x ∷ number) e = simp e

-- the commands of one argument
replay_parts : (script : List ℕ) → begins_with_dash script ≡ false → Parts (codes "replay" ∷ script ∷ [])
replay_parts script e = record { taken = replay_taken script e; same = replay_same script e }

audit_parts : (script : List ℕ) → begins_with_dash script ≡ false → Parts (codes "audit" ∷ script ∷ [])
audit_parts script e = record { taken = audit_taken script e; same = audit_same script e }

demo_parts : (number : List ℕ) → begins_with_dash number ≡ false → Parts (codes "demo" ∷ number ∷ [])
demo_parts number e = record { taken = demo_taken number e; same = demo_same number e }

-- the commands of two arguments
one_parts : (first second : List ℕ) → begins_with_dash first ≡ false → begins_with_dash second ≡ false → Parts (codes "one" ∷ first ∷ second ∷ [])
one_parts first second e f = record { taken = one_taken first second e f; same = one_same first second e f }

make_parts : (first second : List ℕ) → begins_with_dash first ≡ false → begins_with_dash second ≡ false → Parts (codes "make" ∷ first ∷ second ∷ [])
make_parts first second e f = record { taken = make_taken first second e f; same = make_same first second e f }

steps_parts : (first second : List ℕ) → begins_with_dash first ≡ false → begins_with_dash second ≡ false → Parts (codes "steps" ∷ first ∷ second ∷ [])
steps_parts first second e f = record { taken = steps_taken first second e f; same = steps_same first second e f }

-- the name is that of the command
named : (name known : List ℕ) (arguments : List (List ℕ)) → bytes_eq name known ≡ true → Parts (known ∷ arguments) → Parts (name ∷ arguments)
named name known arguments e parts = subst (λ n. Parts (n ∷ arguments)) (sym ((bytes_eq-Decides name known).0 e)) parts

two_parts : (name script : List ℕ) → begins_with_dash script ≡ false → IsSome (command_of_two name script) → Parts (name ∷ script ∷ [])
two_parts name script e some = is_replay (bytes_eq name (codes "replay")) refl some
  where
    is_demo : (b : Bool) → bytes_eq name (codes "demo") ≡ b → IsSome (cond b (demo_of script) None) → Parts (name ∷ script ∷ [])
    is_demo true same some = named name (codes "demo") (script ∷ []) same (demo_parts script e)
    is_demo false other some = absurd (false≢true some)

    is_audit : (b : Bool) → bytes_eq name (codes "audit") ≡ b
        → IsSome (cond b (Some (Audit script)) (cond (bytes_eq name (codes "demo")) (demo_of script) None)) → Parts (name ∷ script ∷ [])
    is_audit true same some = named name (codes "audit") (script ∷ []) same (audit_parts script e)
    is_audit false other some = is_demo (bytes_eq name (codes "demo")) refl some

    is_replay : (b : Bool) → bytes_eq name (codes "replay") ≡ b
        → IsSome (cond b (Some (Replay script))
        (cond (bytes_eq name (codes "audit")) (Some (Audit script)) (cond (bytes_eq name (codes "demo")) (demo_of script) None))) → Parts (name ∷ script ∷ [])
    is_replay true same some = named name (codes "replay") (script ∷ []) same (replay_parts script e)
    is_replay false other some = is_audit (bytes_eq name (codes "audit")) refl some

three_parts : (name first second : List ℕ) → begins_with_dash first ≡ false → begins_with_dash second ≡ false
    → IsSome (command_of_three name first second) → Parts (name ∷ first ∷ second ∷ [])
three_parts name first second e f some = is_one (bytes_eq name (codes "one")) refl some
  where
    is_steps : (b : Bool) → bytes_eq name (codes "steps") ≡ b → IsSome (cond b (steps_of first second) None) → Parts (name ∷ first ∷ second ∷ [])
    is_steps true same some = named name (codes "steps") (first ∷ second ∷ []) same (steps_parts first second e f)
    is_steps false other some = absurd (false≢true some)

    is_make : (b : Bool) → bytes_eq name (codes "make") ≡ b
        → IsSome (cond b (make_of first second) (cond (bytes_eq name (codes "steps")) (steps_of first second) None)) → Parts (name ∷ first ∷ second ∷ [])
    is_make true same some = named name (codes "make") (first ∷ second ∷ []) same (make_parts first second e f)
    is_make false other some = is_steps (bytes_eq name (codes "steps")) refl some

    is_one : (b : Bool) → bytes_eq name (codes "one") ≡ b → IsSome (cond b (one_of first second)
        (cond (bytes_eq name (codes "make")) (make_of first second) (cond (bytes_eq name (codes "steps")) (steps_of first second) None))) → Parts (name ∷ first ∷ second ∷ [])
    is_one true same some = named name (codes "one") (first ∷ second ∷ []) same (one_parts first second e f)
    is_one false other some = is_make (bytes_eq name (codes "make")) refl some

plain_parts : (words : List (List ℕ)) → list_any begins_with_dash words ≡ false → IsSome (command_of_plain words) → Parts words
plain_parts [] e some = absurd (false≢true some)
plain_parts (name ∷ []) e some = absurd (false≢true some)
plain_parts (name ∷ script ∷ []) e some =
    let one = or_parts _ _ e in
    let two = or_parts _ _ one.1 in
    two_parts name script two.0 some
plain_parts (name ∷ first ∷ second ∷ []) e some =
    let one = or_parts _ _ e in
    let two = or_parts _ _ one.1 in
    let three = or_parts _ _ two.1 in
    three_parts name first second two.0 three.0 some
plain_parts (name ∷ first ∷ second ∷ fourth ∷ rest) e some = absurd (false≢true some)

-- the words of every command
pub command_parts : (words : List (List ℕ)) → IsCommand words → Parts words
unfolding command_of
command_parts words some = go (list_any begins_with_dash words) refl some
  where
    go : (b : Bool) → list_any begins_with_dash words ≡ b → IsSome (cond b None (command_of_plain words)) → Parts words
    go true e some = absurd (false≢true some)
    go false e some = plain_parts words e some

-- what stands at no place of the table
abbrev pub no_form : Bor (List ℕ) × Bor (List (Bor (List ℕ)))
no_form = (record { ref_ptr = (0, 0); now = [] }, record { ref_ptr = (0, 0); now = [] })

-- one command more of the program
pub form_added : (app next : App) (items : List (Bor (List ℕ) × Bor (List (Bor (List ℕ))))) (i : ℕ) (d : Bor (List ℕ) × Bor (List (Bor (List ℕ)))) (whole : App) → with_forms app (map form_of (drop i items)) ≡ whole → i < length items
    → next ≡ with_subcommand app (command_of_form (form_of (get_or items i d))).top → with_forms next (map form_of (drop (i + 1) items)) ≡ whole
form_added app next items i d whole left lt is =
    let front : map form_of (drop i items) ≡ form_of (get_or items i d) ∷ map form_of (drop (i + 1) items) = rw add-one (ap (map form_of) (drop-cons items i d lt)) in
    ap (λ a. with_forms a (map form_of (drop (i + 1) items))) is ∙ ap (with_forms app) (sym front) ∙ left

met_in : (n : Option (List ℕ)) (s : Option (List ℕ × List Row)) (name : List ℕ) (rows : List Row) → n ≡ option_map (λ p. p.0) s → Some name ≡ n → Some rows ≡ option_map (λ p. p.1) s → s ≡ Some (name, rows)
met_in n None name rows e named found = absurd cc
met_in n (Some (a, b)) name rows e named found = cc

first_of_pairs : {A B C : Type 0} (f : A → B × C) (o : Option A) → option_map (λ x. (f x).0) o ≡ option_map (λ p. p.0) (option_map f o)
first_of_pairs f None = refl
first_of_pairs f (Some x) = refl

named_alike : (m : ArgMatches) → subcommand_name_of m ≡ option_map (λ p. p.0) (subcommand_rows_of m)
named_alike m = first_of_pairs _ _

-- the subcommand that was met
pub met : (m : ArgMatches) (name : List ℕ) (rows : List Row) → Some name ≡ subcommand_name_of m → Some rows ≡ option_map (λ p. p.1) (subcommand_rows_of m)
    → subcommand_rows_of m ≡ Some (name, rows)
met m name rows named found = met_in (subcommand_name_of m) (subcommand_rows_of m) name rows (named_alike m) named found

-- a command's arguments leave it plain
arguments_plain : (a : App) (names : List (List ℕ)) → (with_arguments a names).top.is_plain ≡ a.top.is_plain
arguments_plain a [] = refl
arguments_plain a (name ∷ names) = arguments_plain (with_rule a (new_rule name)) names

-- a command of the table was added
pub added : (old sub new : Command) (form : List ℕ × List (List ℕ)) → AddsSubcommand old sub new → app_of sub ≡ command_of_form form
    → app_of new ≡ with_subcommand (app_of old) (command_of_form form).top
added old sub new form adds is =
    let plain : (app_of sub).top.is_plain ≡ true = ap (λ a. a.top.is_plain) is ∙ arguments_plain (new_app form.0) form.1 in
    let outer = and_parts _ _ plain in
    let inner = and_parts _ _ outer.1 in
    let third = and_parts _ _ inner.1 in
    adds.shape (not-true _ third.0) ∙ ap (λ a. with_subcommand (app_of old) a.top) is

before_more : (old : List (List ℕ)) (o : Option (List ℕ)) (rest : List (List ℕ)) → (old ++ before o []) ++ rest ≡ old ++ before o rest
before_more old None rest = append_assoc old [] rest
before_more old (Some text) rest = append_assoc old (text ∷ []) rest

-- one argument more
pub value_added : (old new : List (List ℕ)) (names : List (Bor (List ℕ))) (i : ℕ) (d : Bor (List ℕ)) (f : Found) (whole : List (List ℕ))
    → old ++ values_of (texts (drop i names)) (rows_of f) ≡ whole → i < length names
    → new ≡ old ++ before (first_value f (get_or names i d).now) [] → new ++ values_of (texts (drop (i + 1) names)) (rows_of f) ≡ whole
value_added old new names i d f whole left lt is =
    let front : texts (drop i names) ≡ (get_or names i d).now ∷ texts (drop (i + 1) names) = rw add-one (ap texts (drop-cons names i d lt)) in
    ap (λ n. n ++ values_of (texts (drop (i + 1) names)) (rows_of f)) is
    ∙ before_more old (first_value f (get_or names i d).now) (values_of (texts (drop (i + 1) names)) (rows_of f))
    ∙ ap (λ o. old ++ before o (values_of (texts (drop (i + 1) names)) (rows_of f))) (first_value-rows f (get_or names i d).now)
    ∙ ap (λ ns. old ++ values_of ns (rows_of f)) (sym front) ∙ left
