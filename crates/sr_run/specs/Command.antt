-- The commands of the program.
use Rattle.std.specs.Prelude.{ℕ, ◌≤◌, ◌==◌, Bool, false, if◌then◌else◌, List, [], ◌∷◌, codes, Option, Some, None, IsSome, option_map, option_and_then}
use Rattle.std.specs.List.{list_any}
use Rattle.std.specs.Str.{bytes_eq}
use Rattle.sr_gen.specs.Capture.{most_packets}
use Rattle.sr_script.specs.Address.{address_of}
use Rattle.sr_run.specs.Numbers.{count_of_packets, number_of}
use Rattle.sr_run.specs.Servers.{count_of_servers}
use Rattle.sr_run.specs.declared.command.Command.{Command as Read}
use Rattle.sr_run.specs.declared.command.Command.TheVariants as read

-- what the words ask for: an address, and how many servers share it; a number, and how many packets; the name of a script, to
-- replay a capture by or to judge a log by, and with it the seed of a run's picks; the number of a demonstration
pub data Command : Type 0 where
  One : ℕ × ℕ → ℕ → Command
  Make : ℕ → ℕ → Command
  Replay : List ℕ → Command
  Audit : List ℕ → Command
  Steps : List ℕ → ℕ → Command
  Demo : ℕ → Command

-- one VIP SERVERS
abbrev pub one_of : List ℕ → List ℕ → Option Command
one_of vip servers = option_and_then (λ v. option_map (λ n. One v n) (count_of_servers servers)) (address_of vip)

-- make N PACKETS
abbrev pub make_of : List ℕ → List ℕ → Option Command
make_of number packets = option_and_then (λ n. option_map (λ p. Make n p) (count_of_packets packets)) (number_of number)

-- steps SCRIPT SEED
abbrev pub steps_of : List ℕ → List ℕ → Option Command
steps_of script seed = option_map (λ n. Steps script n) (number_of seed)

-- demo N
abbrev pub demo_of : List ℕ → Option Command
demo_of number = option_map (λ n. Demo n) (number_of number)

-- the command of two words: replay SCRIPT, audit SCRIPT, demo N
abbrev pub command_of_two : List ℕ → List ℕ → Option Command
command_of_two name script =
    if bytes_eq name (codes "replay") then Some (Replay script)
    else (if bytes_eq name (codes "audit") then Some (Audit script) else
    (if bytes_eq name (codes "demo") then demo_of script else None))

-- the command of three words
abbrev pub command_of_three : List ℕ → List ℕ → List ℕ → Option Command
command_of_three name first second =
    if bytes_eq name (codes "one") then one_of first second
    else (if bytes_eq name (codes "make") then make_of first second else
    (if bytes_eq name (codes "steps") then steps_of first second else None))

-- the command of words none of which begins with `-`
abbrev pub command_of_plain : List (List ℕ) → Option Command
command_of_plain (name ∷ first ∷ []) = command_of_two name first
command_of_plain (name ∷ first ∷ second ∷ []) = command_of_three name first second
command_of_plain _ = None

-- the word begins with `-`
abbrev pub begins_with_dash : List ℕ → Bool
begins_with_dash [] = false
begins_with_dash (byte ∷ bytes) = byte == 45

-- the command that the words are; a word that begins with `-` is usage
unfoldable pub command_of : List (List ℕ) → Option Command
command_of words = if list_any begins_with_dash words then None else command_of_plain words

-- the words are a command
abbrev pub IsCommand : List (List ℕ) → Type 0
IsCommand words = IsSome (command_of words)

-- the command as the code has it
abbrev pub seen : Read → Command
seen (read.One vip servers) = One vip servers
seen (read.Make number packets) = Make number packets
seen (read.Replay script) = Replay script.now
seen (read.Audit script) = Audit script.now
seen (read.Steps script seed) = Steps script.now seed
seen (read.Demo number) = Demo number

-- its numbers are in range: it has a server; it has packets, and no more than a capture may have
abbrev pub IsInRange : Command → Type 0
IsInRange (One vip servers) = 1 ≤ servers
IsInRange (Make number packets) = (1 ≤ packets) × (packets ≤ most_packets)
IsInRange (Replay script) = Unit {0}
IsInRange (Audit script) = Unit {0}
IsInRange (Steps script seed) = Unit {0}
IsInRange (Demo number) = Unit {0}
