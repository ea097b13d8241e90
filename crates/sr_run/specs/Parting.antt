-- How the command-line library parts the words of a command.
use Rattle.std.specs.Prelude.{ℕ, true, List, [], ◌∷◌, codes, map, Option, Some, None, if◌then◌else◌}
use Rattle.std.specs.Borrow.{Bor}
use Rattle.std.specs.Str.{bytes_eq}
use Rattle.clap.specs.Words.{App, Row, first_of, new_app, new_rule, with_rule, with_subcommand}
use Rattle.clap.specs.Simple.{on_top}

-- each command's name, and the names of its arguments
abbrev pub forms : List (List ℕ × List (List ℕ))
forms =
    (codes "one", codes "VIP" ∷ codes "SERVERS" ∷ [])
    ∷ (codes "make", codes "N" ∷ codes "PACKETS" ∷ [])
    ∷ (codes "replay", codes "SCRIPT" ∷ [])
    ∷ (codes "audit", codes "SCRIPT" ∷ [])
    ∷ (codes "steps", codes "SCRIPT" ∷ codes "SEED" ∷ [])
    ∷ (codes "demo", codes "N" ∷ [])
    ∷ []

-- the texts behind references
abbrev pub texts : List (Bor (List ℕ)) → List (List ℕ)
texts = map (λ text. text.now)

-- a command of the code's table
abbrev pub form_of : Bor (List ℕ) × Bor (List (Bor (List ℕ))) → List ℕ × List (List ℕ)
form_of form = (form.0.now, texts form.1.now)

-- what the library knows of a command: with each of these arguments, of one text
abbrev pub with_arguments : App → List (List ℕ) → App
with_arguments command [] = command
with_arguments command (name ∷ names) = with_arguments (with_rule command (new_rule name)) names

abbrev pub command_of_form : List ℕ × List (List ℕ) → App
command_of_form form = with_arguments (new_app form.0) form.1

-- what it knows of a program: with each of these commands
abbrev pub with_forms : App → List (List ℕ × List (List ℕ)) → App
with_forms app [] = app
with_forms app (form ∷ others) = with_forms (with_subcommand app (command_of_form form).top) others

-- the program before its commands; its words don't begin with its own name
abbrev pub no_commands : App
no_commands = on_top (λ shape. record shape { no_binary_name = true }) (new_app (codes "silkroad"))

-- the program
abbrev pub program : App
program = with_forms no_commands forms

-- the names of a command's arguments, where these are the commands
abbrev pub names_in : List (List ℕ × List (List ℕ)) → List ℕ → List (List ℕ)
names_in [] name = []
names_in (form ∷ others) name = if bytes_eq form.0 name then form.1 else names_in others name

abbrev pub argument_names : List ℕ → List (List ℕ)
argument_names = names_in forms

-- a text, if there is one, before others
abbrev pub before : Option (List ℕ) → List (List ℕ) → List (List ℕ)
before None others = others
before (Some text) others = text ∷ others

-- the texts that were found of these arguments, in their order
abbrev pub values_of : List (List ℕ) → List Row → List (List ℕ)
values_of [] rows = []
values_of (name ∷ names) rows = before (first_of name rows) (values_of names rows)

-- the parts that were found: a command's name, and the texts of its arguments
abbrev pub parts_of : Option (List ℕ × List Row) → List (List ℕ)
parts_of None = []
parts_of (Some found) = found.0 ∷ values_of (argument_names found.0) found.1
