-- What a board was told since its last step, and what becomes of its actor's view by it.
use Rattle.std.specs.Prelude.{ℕ, Option, Some, None, option_and_then}
use Rattle.sr_inv_facts.specs.Fitted.{IsPacket}
use Rattle.sr_machine.specs.Boards.{told_ms, told_packet, told_refusal}
use Rattle.sr_machine.specs.Config.{Config}
use Rattle.sr_machine.specs.declared.view.View.{View}
use Rattle.sr_words.specs.declared.heard.Heard.{Heard}
use Rattle.sr_words.specs.declared.heard.Heard.TheVariants.{Nothing, Entered, Time, Refusal}

-- the time, too: a later time takes the place of an earlier one
abbrev pub with_ms : ℕ → Heard → Heard
with_ms ms (Refusal before after) = Refusal before (Some ms)
with_ms ms Nothing = Time ms
with_ms ms (Entered packet) = Time ms
with_ms ms (Time before) = Time ms

-- a refusal, too
abbrev pub with_refusal : Heard → Heard
with_refusal (Time ms) = Refusal (Some ms) None
with_refusal Nothing = Refusal None None
with_refusal (Entered packet) = Refusal None None
with_refusal (Refusal before after) = Refusal None None

-- the time, where it was told
abbrev pub told_ms_if : Config → Option ℕ → View → Option View
told_ms_if k None x = Some x
told_ms_if k (Some ms) x = told_ms ms k x

-- what becomes of the view
abbrev pub told : Heard → Config → View → Option View
told Nothing k x = Some x
told (Entered packet) k x = told_packet packet k x
told (Time ms) k x = told_ms ms k x
told (Refusal before after) k x = option_and_then (told_ms_if k after) (option_and_then (told_refusal k) (told_ms_if k before x))

-- a packet that entered is as every packet is
abbrev pub IsGood : Heard → Type 0
IsGood (Entered packet) = IsPacket packet
IsGood Nothing = Unit {0}
IsGood (Time ms) = Unit {0}
IsGood (Refusal before after) = Unit {0}
