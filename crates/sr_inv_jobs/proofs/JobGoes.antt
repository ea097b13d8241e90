-- What each step of the controller makes of what its job stands on.
use Rattle.std.proofs.Common.{◌≡◌, ℕ, Bool, true, false, ◌||◌, List, [], ◌∷◌, ◌++◌, if◌then◌else◌, nat_eq, ◌==◌, Some, None, Option, option_map, sym, refl, ap, ◌∙◌, arith}
use Rattle.std.proofs.lemmas.Bool.Decides.{nat_tests}
use Rattle.std.specs.Option.{option_or}
use Rattle.sr_base.proofs.Sameness.{same_place-true}
use Rattle.sr_base.specs.Key.{KeyView}
use Rattle.sr_base.specs.Place.{same_place}
use Rattle.sr_base.specs.declared.place.Place.{Place}
use Rattle.sr_base.specs.declared.vip_word.VipWord.{VipWord}
use Rattle.sr_inv_facts.proofs.Lists.{all_then}
use Rattle.sr_inv_facts.specs.InJobs.{JobHolds, JobsHold, Seen, book_taking, job_taking, leaving, taking_at}
use Rattle.sr_law.specs.Taken.{now_placed, taken}
use Rattle.sr_law.specs.TakenDown.{is_down as told_down}
use Rattle.sr_law.specs.declared.line.Line.{Line}
use Rattle.sr_law.specs.declared.taking.Taking.{Taking}
use Rattle.sr_machine.specs.Config.{Config}
use Rattle.sr_machine.specs.Deciding.{is_down}
use Rattle.sr_machine.specs.declared.held_opener.HeldOpener.{HeldOpener}
use Rattle.sr_machine.specs.declared.job.Job.{Job}

-- ---- lines that place, reserve and clear

-- who holds a place has it
abbrev pub as_placed : Option KeyView → Option Taking
as_placed o = option_map (λ k. record { key = k; placed = true }) o

-- a place is reserved by the line
pub reserved_tells : (at : Place) (key : KeyView) (o : Option Taking) (r : Option Taking) (q : Place) → o ≡ r
    → (if same_place at q then Some (record { key = key; placed = false }) else o) ≡ option_or (taking_at at key false q) r
reserved_tells at key o r q e = by (same_place at q)
  where
    by : (b : Bool)
        → (if b then Some (record { key = key; placed = false }) else o)
        ≡ option_or (if b then Some (record { key = key; placed = false }) else None) r
    by true = refl
    by false = e

-- it is placed, and its entry holds it
pub placed_tells : (at : Place) (key : KeyView) (holder : Place → Option KeyView) (q : Place) → holder at ≡ Some key
    → (if same_place at q then option_map now_placed (option_or (taking_at at key false q) (as_placed (holder q))) else option_or (taking_at at key false q) (as_placed (holder q)))
    ≡ as_placed (holder q)
placed_tells at key holder q h = by (same_place at q) refl
  where
    by : (b : Bool) → same_place at q ≡ b
        → (if b then option_map now_placed (option_or (if b then Some (record { key = key; placed = false }) else None) (as_placed (holder q))) else option_or (if b then Some (record { key = key; placed = false }) else None) (as_placed (holder q)))
        ≡ as_placed (holder q)
    by true t =
        sym (ap (as_placed) (ap holder (sym (same_place-true at q t)) ∙ h))
    by false t = refl

-- it is cleared, and nobody holds it
pub cleared_tells : (at : Place) (key : KeyView) (live : Bool) (holder : Place → Option KeyView) (o : Option Taking) (q : Place)
    → holder at ≡ None
    → o ≡ option_or (taking_at at key live q) (as_placed (holder q))
    → (if same_place at q then None else o) ≡ as_placed (holder q)
cleared_tells at key live holder o q h e = by (same_place at q) refl e
  where
    by : (b : Bool) → same_place at q ≡ b
        → o ≡ option_or (if b then Some (record { key = key; placed = live }) else None) (as_placed (holder q))
        → (if b then None else o) ≡ as_placed (holder q)
    by true t f = sym (ap (as_placed) (ap holder (sym (same_place-true at q t)) ∙ h))
    by false t f = f

-- who held it leaves it, and is still said to have it
pub left_tells : (at : Place) (key : KeyView) (before after : Place → Option KeyView) (q : Place)
    → before q ≡ (if same_place at q then Some key else after q)
    → as_placed (before q)
    ≡ option_or (taking_at at key true q) (as_placed (after q))
left_tells at key before after q e = ap (as_placed) e ∙ by (same_place at q)
  where
    by : (b : Bool)
        → as_placed (if b then Some key else after q)
        ≡ option_or (if b then Some (record { key = key; placed = true }) else None) (as_placed (after q))
    by true = refl
    by false = refl

-- elsewhere the holders are the same
pub else_tells : (at : Place) (key : KeyView) (before after : Place → Option KeyView) (q : Place)
    → (same_place at q ≡ false → after q ≡ before q)
    → option_or {T = Taking} (taking_at at key false q) (as_placed (before q))
    ≡ option_or {T = Taking} (taking_at at key false q) (as_placed (after q))
else_tells at key before after q e = by (same_place at q) refl
  where
    by : (b : Bool) → same_place at q ≡ b
        → option_or {T = Taking} (if b then Some (record { key = key; placed = false }) else None) (as_placed (before q))
        ≡ option_or {T = Taking} (if b then Some (record { key = key; placed = false }) else None) (as_placed (after q))
    by true t = refl
    by false t = ap (as_placed) (sym (e t))

-- ---- servers

pub down_more : (down : List ℕ) (server x : ℕ) → ((server == x) || is_down down x) ≡ is_down (down ++ server ∷ []) x
down_more [] server x = grind (arith, nat_tests)
down_more (y ∷ down) server x = or_turn (server == x) (nat_eq x y) (is_down down x) (is_down (down ++ server ∷ []) x) (down_more down server x)
  where
    or_turn : (a b c d : Bool) → (a || c) ≡ d → (a || (b || c)) ≡ (b || d)
    or_turn true true c d e = refl
    or_turn true false c d e = e
    or_turn false b c d e = ap (λ z. b || z) e

-- ---- a step that leaves the book alone

module _ (k : Config) (c : Seen) (lines : List Line) where
  -- the book and what is down stay, and the lines are others
  pub moved : (j m : Job) (held : List HeldOpener) (vips : List VipWord) (named : List (List ℕ)) (now : List Line) → JobsHold k c j lines
      → ((key : KeyView) → leaving m key ≡ leaving j key)
      → JobHolds k (record c { held = held; vips = vips; named = named }) now m
      → ((q : Place) → taken now q ≡ option_or (job_taking m q) (book_taking c.entries q))
      → ((server : ℕ) → told_down now server ≡ told_down lines server)
      → JobsHold k (record c { held = held; vips = vips; named = named }) m now
  moved j m held vips named now h leave stands places down = record {
    once = h.once;
    also = all_then (λ e. e.also ≡ leaving j e.key) (λ e. e.also ≡ leaving m e.key) (λ e a. a ∙ sym (leave e.key)) c.entries h.also;
    stands = stands;
    places = places;
    downs = λ server. down server ∙ h.downs server;
  }

  -- the lines stay too
  pub goes_on : (j m : Job) → JobsHold k c j lines → ((key : KeyView) → leaving m key ≡ leaving j key) → JobHolds k c lines m
      → ((q : Place) → job_taking m q ≡ job_taking j q)
      → JobsHold k c m lines
  goes_on j m h leave stands same =
      moved j m c.held c.vips c.named lines h leave stands (λ q. h.places q ∙ ap (λ o. option_or o (book_taking c.entries q)) (sym (same q))) (λ server. refl)
