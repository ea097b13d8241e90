-- Steps of the index of servers that were taken down, and what it tells in a list that falls.
use Rattle.std.proofs.Common.{◌≡◌, ℕ, ◌<◌, Bool, true, false, ◌&&◌, ◌||◌, cond, List, [], ◌∷◌, Option, Some, None, refl, sym, ap, subst, ◌∙◌, inl, inr, true≢false, arith}
use Rattle.std.specs.List.{list_any}
use Rattle.std.specs.Option.{option_or}
use Rattle.std.specs.BTreeMap.{get, is_at}
use Rattle.std.specs.Ordering.{nat_cmp}
use Rattle.std.specs.Prelude.{nat_eq, nat_lt, is_some}
use Rattle.std.proofs.lemmas.Bool.{cases_Bool, and_parts, or_parts, eqb-true, ltb-true}
use Rattle.std.proofs.lemmas.Bool.Decides.{nat_tests}
use Rattle.std.proofs.lemmas.Option.{none-some, same_Some}
use Rattle.sr_law.specs.declared.line.Line.{Line}
use Rattle.sr_law.specs.declared.line.Line.TheVariants.{TakenDown}
use Rattle.sr_law.specs.Server.{is_number}
use Rattle.sr_law.specs.TakenDown.{takes_down, is_down, takes_down_before, is_known_down}
use Rattle.sr_law.specs.Ticks.{out_of, is_controller}
use Rattle.sr_audit.specs.Downs.{known_from, down_of, is_unknown, TellsDowns}
use Rattle.sr_audit.specs.Lately.{AreOut, Falls, was_before}
use Rattle.sr_audit.specs.declared.downs.Downs.{Downs}
use Rattle.sr_audit.proofs.Falling.{wider}
use Rattle.sr_audit.proofs.Greatest.{same_number}

pub or_none : {A : Type 0} (o : Option A) → option_or o None ≡ o
or_none None = refl
or_none (Some x) = refl

no_tick : (b : Bool) (out : ℕ) → ◌≡◌ {A = Option ℕ} (cond (b && false) (Some out) None) None
no_tick true out = refl
no_tick false out = refl

-- a server that wasn't taken down isn't known to be
none_known : (before : List Line) (server : ℕ) → is_down before server ≡ false → known_from before server ≡ None
none_known [] server e = refl
none_known (line ∷ before) server e =
    let parts = or_parts (takes_down server line) (is_down before server) e in
    ap (λ b. option_or (known_from before server) (cond (is_controller line && b) (Some (out_of line)) None)) parts.1
    ∙ ap (option_or (known_from before server)) (no_tick (is_controller line) (out_of line))
    ∙ or_none (known_from before server) ∙ none_known before server parts.1

-- ---- one line more

now_known : (down : Bool) (known : Option ℕ) (mine : Bool) (out : ℕ) → is_unknown (cond down (Some known) None) ≡ mine
    → cond mine (Some (Some out)) (cond down (Some known) None) ≡ cond down (Some (option_or known (cond down (Some out) None))) None
now_known true None true out e = refl
now_known true None false out e = absurd (true≢false e)
now_known true (Some t) true out e = absurd (true≢false (sym e))
now_known true (Some t) false out e = refl
now_known false known true out e = absurd (true≢false (sym e))
now_known false known false out e = refl

not_unknown : (down : Bool) (known : Option ℕ) (out : ℕ) → is_unknown (cond down (Some (option_or known (cond down (Some out) None))) None) ≡ false
not_unknown true None out = refl
not_unknown true (Some t) out = refl
not_unknown false known out = refl

-- after a line of the controller no server is pending that was taken down before it
record Settled (old mid : Downs) (before : List Line) (line : Line) : Type 0 where
  each : (server : ℕ) → get nat_cmp mid.since server ≡ cond (is_down before server) (Some (known_from (line ∷ before) server)) None
  known : (server : ℕ) → is_unknown (cond (is_down before server) (Some (known_from (line ∷ before) server)) None) ≡ false

settled : (old mid : Downs) (before : List Line) (line : Line) → is_controller line ≡ true
    → ((server : ℕ) → get nat_cmp mid.since server ≡ cond (is_number old.pending server) (Some (Some (out_of line))) (get nat_cmp old.since server))
    → TellsDowns old before → Settled old mid before line
settled old mid before line e step t =
    let now : (server : ℕ) → Option ℕ = λ server. option_or (known_from before server) (cond (is_down before server) (Some (out_of line)) None) in
    let more : (server : ℕ) → known_from (line ∷ before) server ≡ now server =
    λ server. ap (λ b. option_or (known_from before server) (cond (b && is_down before server) (Some (out_of line)) None)) e in
    record {
      each = λ server.
          step server ∙ ap (cond (is_number old.pending server) (Some (Some (out_of line)))) (t.each server)
          ∙ now_known (is_down before server) (known_from before server) (is_number old.pending server) (out_of line) (t.pending server)
          ∙ sym (ap (λ k. cond (is_down before server) (Some k) None) (more server));
      known = λ server.
          ap (λ k. is_unknown (cond (is_down before server) (Some k) None)) (more server)
          ∙ not_unknown (is_down before server) (known_from before server) (out_of line);
    }

is_there : (down : Bool) (known : Option ℕ) → is_some (cond down (Some known) None) ≡ down
is_there true known = refl
is_there false known = refl

or_same : (a b : Bool) → (a ≡ true → b ≡ true) → (a || b) ≡ b
or_same true b h = sym (h refl)
or_same false b h = refl

-- one that takes a server down that is up
pub down_more : (old mid new : Downs) (before : List Line) (out down : ℕ)
    → ((server : ℕ) → get nat_cmp mid.since server ≡ cond (is_number old.pending server) (Some (Some out)) (get nat_cmp old.since server))
    → is_some (get nat_cmp mid.since down) ≡ false
    → ((server : ℕ) → get nat_cmp new.since server ≡ cond (is_at (nat_cmp down) server) (Some None) (get nat_cmp mid.since server))
    → new.pending ≡ Some down
    → TellsDowns old before → TellsDowns new (TakenDown out down ∷ before)
down_more old mid new before out down step up put now t =
    let line : Line = TakenDown out down in
    let s = settled old mid before line refl step t in
    let was : is_down before down ≡ false =
    sym (is_there (is_down before down) (known_from (line ∷ before) down)) ∙ ap is_some (sym (s.each down)) ∙ up in
    let placed : (server : ℕ) → get nat_cmp new.since server ≡ cond (nat_eq down server) (Some None) (get nat_cmp mid.since server) =
    λ server. put server ∙ ap (λ b. cond b (Some None) (get nat_cmp mid.since server)) (same_number down server) in
    let fresh : (server : ℕ) → nat_eq down server ≡ true → known_from (line ∷ before) server ≡ None = λ server same.
    let is : is_down before server ≡ false = subst (λ n. is_down before n ≡ false) (eqb-true down server same) was in
    ap (λ b. option_or (known_from before server) (cond b (Some out) None)) is ∙ or_none (known_from before server) ∙ none_known before server is in
    let downs : (server : ℕ) (b : Bool) → nat_eq down server ≡ b → down_of (line ∷ before) server ≡ cond (b || is_down before server) (Some (known_from (line ∷ before) server)) None =
    λ server b is. ap (λ x. cond (x || is_down before server) (Some (known_from (line ∷ before) server)) None) is in
    record {
      each = λ server. elim (cases_Bool (nat_eq down server)) [
        | inl same ↦
            placed server ∙ ap (λ b. cond b (Some None) (get nat_cmp mid.since server)) same
            ∙ sym (downs server true same ∙ ap Some (fresh server same))
        | inr other ↦
            placed server ∙ ap (λ b. cond b (Some None) (get nat_cmp mid.since server)) other ∙ s.each server
            ∙ sym (downs server false other)
      ];
      pending = λ server. elim (cases_Bool (nat_eq down server)) [
        | inl same ↦
            ap is_unknown (downs server true same ∙ ap Some (fresh server same))
            ∙ sym (ap (λ p. is_number p server) now ∙ same)
        | inr other ↦
            ap is_unknown (downs server false other) ∙ s.known server
            ∙ sym (ap (λ p. is_number p server) now ∙ other)
      ];
    }

-- ---- what it tells in a list that falls

-- that tick was in the list
from : (older : Option ℕ) (now : Bool) (out tick known : ℕ) → (older ≡ Some known → known < tick) → out < tick
    → option_or older (cond now (Some out) None) ≡ Some known → known < tick
from (Some older) now out tick known h below e = h e
from None true out tick known h below e = omega (arith, below, same_Some out known e)
from None false out tick known h below e = absurd (none-some known e)

known_out : (before : List Line) (server tick known : ℕ) → AreOut tick before → known_from before server ≡ Some known → known < tick
known_out [] server tick known out e = absurd (none-some known e)
known_out (line ∷ before) server tick known out e =
    from (known_from before server) (is_controller line && is_down before server) (out_of line) tick known (known_out before server tick known out.1) out.0 e

and_true : (b : Bool) → (b && true) ≡ b
and_true true = refl
and_true false = refl

all_before : (before : List Line) (server tick : ℕ) → AreOut tick before → list_any (takes_down_before server tick) before ≡ is_down before server
all_before [] server tick out = refl
all_before (line ∷ before) server tick out =
    let is : nat_lt (out_of line) tick ≡ true = grind (arith, nat_tests, out.0) in
    rw (all_before before server tick out.1, is) (ap (λ b. b || is_down before server) (and_true (takes_down server line)))

at_once : (controls down : Bool) (out tick : ℕ) → nat_lt out tick ≡ true → ((controls && true && down) || false) ≡ was_before (cond (controls && down) (Some out) None) tick
at_once true true out tick e = sym e
at_once true false out tick e = refl
at_once false down out tick e = refl

not_yet : (controls down any : Bool) (out tick : ℕ) → nat_lt out tick ≡ false → ((controls && false && any) || false) ≡ was_before (cond (controls && down) (Some out) None) tick
not_yet true true any out tick e = sym e
not_yet true false any out tick e = refl
not_yet false down any out tick e = refl

-- once it is known, a later line changes nothing; before, the line is the first at which it is
known_more : (older : Option ℕ) (controls down any : Bool) (out tick : ℕ) → (nat_lt out tick ≡ true → any ≡ down)
    → ((known : ℕ) → older ≡ Some known → known < out)
    → ((controls && nat_lt out tick && any) || was_before older tick) ≡ was_before (option_or older (cond (controls && down) (Some out) None)) tick
known_more (Some known) controls down any out tick all past =
    let below = past known refl in
    or_same (controls && nat_lt out tick && any) (nat_lt known tick) (λ e. grind (arith, nat_tests, below, (and_parts controls (nat_lt out tick) (and_parts (controls && nat_lt out tick) any e).0).1))
known_more None controls down any out tick all past = elim (cases_Bool (nat_lt out tick)) [
  | inl early ↦ rw (early, all early) (at_once controls down out tick early)
  | inr late ↦ rw late (not_yet controls down any out tick late)
]

-- it is known where the first line of the controller after one that took it down was out before
known_early : (before : List Line) (server tick : ℕ) → Falls before → is_known_down before server tick ≡ was_before (known_from before server) tick
known_early [] server tick fall = refl
known_early (line ∷ before) server tick fall =
    let now = is_controller line && nat_lt (out_of line) tick && list_any (takes_down_before server tick) before in
    ap (λ b. now || b) (known_early before server tick fall.2)
    ∙ known_more (known_from before server) (is_controller line) (is_down before server) (list_any (takes_down_before server tick) before) (out_of line) tick
    (λ early. all_before before server tick (wider before (out_of line) tick (let h = ltb-true (out_of line) tick early in omega (arith, h)) fall.1))
    (λ known is. known_out before server (out_of line) known fall.1 is)

-- where it is told since when, and where nothing is told
pub known_told : (before : List Line) (server tick : ℕ) (known : Option ℕ) → Falls before → down_of before server ≡ Some known → was_before known tick ≡ is_known_down before server tick
known_told before server tick known fall e = elim (cases_Bool (is_down before server)) [
  | inl down ↦
      let same : known_from before server ≡ known = same_Some (known_from before server) known (sym (ap (λ b. cond b (Some (known_from before server)) None) down) ∙ e) in
      sym (known_early before server tick fall ∙ ap (λ k. was_before k tick) same)
  | inr up ↦ absurd (none-some known (sym (ap (λ b. cond b (Some (known_from before server)) None) up) ∙ e))
]

pub known_untold : (before : List Line) (server tick : ℕ) → Falls before → down_of before server ≡ None → false ≡ is_known_down before server tick
known_untold before server tick fall e = elim (cases_Bool (is_down before server)) [
  | inl down ↦ absurd (none-some (known_from before server) (sym (sym (ap (λ b. cond b (Some (known_from before server)) None) down) ∙ e)))
  | inr up ↦ sym (known_early before server tick fall ∙ ap (λ k. was_before k tick) (none_known before server up))
]
