-- Verdicts that come for a rare reason alone, and how many switches there were, of lines that are lawful and settled.
use Rattle.std.proofs.Common.{◌≡◌, ℕ, zero, suc, ◌<◌, ◌≤◌, true, List, [], ◌∷◌, length, reverse, take, count_by, None, Option, Some, refl, sym, subst, ◌∙◌}
use Rattle.std.proofs.lemmas.Bool.{and_parts}
use Rattle.sr_audit.specs.Counts.{is_switch}
use Rattle.sr_base.specs.Key.{KeyView}
use Rattle.sr_base.specs.declared.packet.Packet.{Packet}
use Rattle.sr_inv_ends.specs.Laws.{SettledFor}
use Rattle.sr_law.specs.Lawful.{IsLawful}
use Rattle.sr_law.specs.Settled.{DueGive, due_gives, gives_settled, is_settled, rest_of, update_settled}
use Rattle.sr_law.specs.Setup.{SetupView}
use Rattle.sr_law.specs.declared.line.Line.{Line}
use Rattle.sr_law_causes.proofs.Freely.{free_rows}
use Rattle.sr_law_causes.proofs.Reporting.{few}
use Rattle.sr_law_causes.proofs.Unchanged.{unchanged}
use Rattle.sr_law_causes.specs.Rare.{HasFreeRows, HasNone, finds_no_place, is_full_on, reports_on, waits_for_update}
use Rattle.sr_rounds.specs.declared.timed.Timed.{Timed}
use Rattle.sr_played.proofs.Switching.{all_switched}
use Rattle.sr_played.specs.Captured.{last_time, script_setup}
use Rattle.sr_script.specs.Spelled.{Spelled}
use Rattle.sr_law.specs.declared.line.Line.TheVariants as line

-- a setup with these packets
abbrev with_packets : SetupView → List Packet → SetupView
with_packets setup packets = record { shape = setup.shape; servers = setup.servers; pools = setup.pools; packets = packets }

-- what changes come to isn't read off the packets
gives_same : (setup : SetupView) (p q : List Packet) (before : List Line) (dues : List DueGive) (lines : List Line)
    → gives_settled (with_packets setup p) before dues lines ≡ gives_settled (with_packets setup q) before dues lines
gives_same setup p q before dues [] = refl
gives_same setup p q before dues (line.Given out vip version pool ∷ rest) =
    rw (gives_same setup p q (line.Given out vip version pool ∷ before) dues rest, gives_same setup p q (line.Given out vip version pool ∷ before) (rest_of dues) rest) refl
gives_same setup p q before dues (line.Refused out change ∷ rest) = rw (gives_same setup p q (line.Refused out change ∷ before) (rest_of dues) rest) refl
gives_same setup p q before dues (line.Packet number entered out pipe key kind v ∷ rest) = gives_same setup p q (line.Packet number entered out pipe key kind v ∷ before) dues rest
gives_same setup p q before dues (line.Answer out pipe nth key v ∷ rest) = gives_same setup p q (line.Answer out pipe nth key v ∷ before) dues rest
gives_same setup p q before dues (line.Recorded out vip ∷ rest) = gives_same setup p q (line.Recorded out vip ∷ before) dues rest
gives_same setup p q before dues (line.Hold out vip ∷ rest) = gives_same setup p q (line.Hold out vip ∷ before) dues rest
gives_same setup p q before dues (line.Switched out vip pool ∷ rest) = gives_same setup p q (line.Switched out vip pool ∷ before) dues rest
gives_same setup p q before dues (line.Finished out vip ∷ rest) = gives_same setup p q (line.Finished out vip ∷ before) dues rest
gives_same setup p q before dues (line.TakenDown out server ∷ rest) = gives_same setup p q (line.TakenDown out server ∷ before) dues rest
gives_same setup p q before dues (line.Reserved out key place ∷ rest) = gives_same setup p q (line.Reserved out key place ∷ before) dues rest
gives_same setup p q before dues (line.Placed out key place ∷ rest) = gives_same setup p q (line.Placed out key place ∷ before) dues rest
gives_same setup p q before dues (line.Cleared out key place ∷ rest) = gives_same setup p q (line.Cleared out key place ∷ before) dues rest
gives_same setup p q before dues (line.Swept number from to at_ms ∷ rest) = gives_same setup p q (line.Swept number from to at_ms ∷ before) dues rest
gives_same setup p q before dues (line.Retired out key ∷ rest) = gives_same setup p q (line.Retired out key ∷ before) dues rest

take_none : {X : Type 0} (n : ℕ) → ◌≡◌ {A = List X} (take n []) []
take_none zero = refl
take_none (suc n) = refl

module _ (s : Spelled) (packets : List Timed) (seen : List Packet) (lines : List Line) (lawful : IsLawful (with_packets (script_setup s) seen) lines) where
  abbrev dues : List DueGive
  dues = due_gives (last_time s packets) [] 0 s.changes

  whole : is_settled (script_setup s) s.changes (last_time s packets) lines ≡ true → gives_settled (script_setup s) [] dues lines ≡ true
  unfolding is_settled
  whole h = (and_parts _ _ (and_parts _ _ h).0).0

  over : is_settled (script_setup s) s.changes (last_time s packets) lines ≡ true → update_settled (script_setup s) (reverse lines) ≡ true
  unfolding is_settled
  over h = (and_parts _ _ (and_parts _ _ h).0).1

  pub switches_made : (awaited : Option KeyView) → SettledFor (script_setup s) s.changes (last_time s packets) awaited lines → awaited ≡ None
      → length dues < s.shape.versions → count_by is_switch lines ≡ length dues
  switches_made None settled none few =
      all_switched (with_packets (script_setup s) seen) _ lines dues lawful.0 (gives_same (script_setup s) seen [] [] dues lines ∙ whole settled) (over settled) few
  switches_made (Some key) settled none few = absurd cc

  -- where no change of a pool was due, none was made, with an update that waits too
  none_made : (awaited : Option KeyView) → SettledFor (script_setup s) s.changes (last_time s packets) awaited lines → dues ≡ []
      → gives_settled (script_setup s) [] dues lines ≡ true
  none_made None settled due = whole settled
  none_made (Some key) settled due =
      subst (λ ds. gives_settled (script_setup s) [] ds lines ≡ true) (take_none settled.first.count ∙ sym due)
      (subst (λ ds. gives_settled (script_setup s) [] (take settled.first.count ds) lines ≡ true) due settled.first.told)

  pub none_held : (awaited : Option KeyView) → SettledFor (script_setup s) s.changes (last_time s packets) awaited lines → dues ≡ []
      → HasNone waits_for_update lines
  none_held awaited settled due =
      unchanged (with_packets (script_setup s) seen) _ lines (last_time s packets) s.changes lawful.0
      (gives_same (script_setup s) seen [] [] dues lines ∙ none_made awaited settled due) due

  pub room_found : (pipe : ℕ) → count_by (reports_on pipe) lines ≤ s.shape.ring → HasNone (is_full_on pipe) lines
  room_found pipe fit = few (with_packets (script_setup s) seen) _ lines pipe lawful.0 fit

  pub places_found : HasFreeRows lines → HasNone finds_no_place lines
  places_found = free_rows (with_packets (script_setup s) seen) _ lines lawful.0
