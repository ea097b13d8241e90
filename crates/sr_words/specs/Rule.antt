-- The rule that ties the words of a table and the views of its seats to the machine.
use Rattle.std.specs.Prelude.{◌≡◌, ℕ, ◌≤◌, length}
use Rattle.atomic_table.specs.Table.{State}
use Rattle.sr_base.specs.WordName.{words_of}
use Rattle.sr_core.specs.PlainWords.{ShowsWords}
use Rattle.sr_inv_facts.specs.Fitted.{IsFitted}
use Rattle.sr_inv_final.specs.Reached.{IsReached}
use Rattle.sr_machine.specs.Config.{Config}
use Rattle.sr_machine.specs.Core.{Core}
use Rattle.sr_machine.specs.declared.actor.Actor.{Actor}
use Rattle.sr_words.specs.Seats.{AllShown, IsSure, claimed}
use Rattle.sr_words.specs.declared.seated.Seated.{Seated}
use lib.ListN.{get_elem?}
use mathlib.Core.Option.{some}

-- Some events lead from the beginning of the machine to a state whose words are those of the table, each name that the layout has at its
-- place, and whose views are those of the seats; each actor stands at most once among the seats; and what a seat knows of the words is so.
pub record Ruled (k : Config) (t : State (Unit {0}) Seated) : Type 0 where
  pub fitted : IsFitted k
  pub state : Core
  pub reached : IsReached k state
  pub wide : words_of k.layout ≤ length t.words
  pub words : ShowsWords k.layout t.words state.words
  pub shown : (id : ℕ) (seat : Seated) → get_elem? t.views id ≡ some seat → AllShown state seat.actors
  pub apart : (a : Actor) → claimed a t.views ≤ 1
  pub sure : (id : ℕ) (seat : Seated) → get_elem? t.views id ≡ some seat → IsSure t id seat.words
