-- At the opening no place is taken, and no server is down.
use Rattle.std.proofs.Common.{◌≡◌, ℕ, false, ◌||◌, List, [], ◌∷◌, None, Option, refl, ap, ◌∙◌, arith}
use Rattle.std.specs.List.{AllByRecursion}
use Rattle.sr_base.specs.declared.place.Place.{Place}
use Rattle.sr_inv_facts.proofs.OpeningLines.{opening_all}
use Rattle.sr_inv_facts.specs.InJobs.{InJobs}
use Rattle.sr_inv_facts.specs.Laws.{OpensWith}
use Rattle.sr_law.specs.Taken.{taken, taken_after}
use Rattle.sr_law.specs.TakenDown.{is_down as told_down, takes_down}
use Rattle.sr_law.specs.declared.line.Line.{Line}
use Rattle.sr_law.specs.declared.taking.Taking.{Taking}
use Rattle.sr_machine.specs.Core.{opening, printed}
use Rattle.sr_machine.specs.Opening.{opening_controller}

none_taken : (lines : List Line) → AllByRecursion (λ l. (place : Place) (older : Option Taking) → taken_after l place older ≡ older) lines
    → (place : Place) → taken lines place ≡ None
none_taken [] a place = refl
none_taken (l ∷ rest) a place = a.0 place (taken rest place) ∙ none_taken rest a.1 place

none_down : (lines : List Line) → AllByRecursion (λ l. (server : ℕ) → takes_down server l ≡ false) lines → (server : ℕ)
    → told_down lines server ≡ false
none_down [] a server = refl
none_down (l ∷ rest) a server = ap (λ b. b || told_down rest server) (a.0 server) ∙ none_down rest a.1 server

pub jobs_open : OpensWith InJobs
unfolding opening_controller
jobs_open k f = record {
  holds = record {
    once = λ place. omega arith;
    also = tt;
    stands = (tt, tt);
    places = none_taken (printed (opening k)) (opening_all (λ l. (place : Place) (older : Option Taking) → taken_after l place older ≡ older) (λ vip place older. refl) k);
    downs = none_down (printed (opening k)) (opening_all (λ l. (server : ℕ) → takes_down server l ≡ false) (λ vip server. refl) k);
  };
}
