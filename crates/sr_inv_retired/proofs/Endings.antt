-- An Ending packet that supports a retirement goes on to do so: while it is in flight, and once its line is out.
use Rattle.std.proofs.Common.{◌≡◌, ℕ, zero, suc, ◌<◌, ◌≤◌, ◌&&◌, ◌||◌, nat_lt, Bool, true, false, cond, unwrap_or, ◌⊎◌, List, [], ◌∷◌, ◌++◌, slice_get, slice_set, Some, None, sym, refl, ap, subst, inl, inr, arith}
use Rattle.std.proofs.lemmas.Bool.Decides.{nat_tests}
use Rattle.std.proofs.lemmas.Option.{same_Some}
use Rattle.std.specs.List.{list_any}
use Rattle.sr_base.specs.Key.{KeyView, same_key}
use Rattle.sr_base.specs.Layout.{LayoutView}
use Rattle.sr_base.specs.declared.kind.Kind.{Kind}
use Rattle.sr_base.specs.declared.kind.Kind.TheVariants.{Opener, Carry, Ending}
use Rattle.sr_inv_facts.specs.InCauses.{ending_at, ending_of, endings_in, endings_under_way}
use Rattle.sr_inv_facts.specs.InTicks.{AllOutBefore}
use Rattle.sr_law.specs.Opening.{is_open}
use Rattle.sr_law.specs.Retire.{EndingPacket, ending_by, endings_of, is_quiet, last_retired, last_sweep, may_end, meets_retire, retired_by}
use Rattle.sr_law.specs.Setup.{SetupView}
use Rattle.sr_law.specs.Ticks.{out_of}
use Rattle.sr_law.specs.declared.line.Line.{Line}
use Rattle.sr_law.specs.declared.verdict.Verdict.{Verdict}
use Rattle.sr_inv_order.specs.Meeting.{EachLine}
use Rattle.sr_machine.specs.Stages.{stage_after}
use Rattle.sr_machine.specs.declared.flight.Flight.{Flight}
use Rattle.sr_machine.specs.declared.leg.Leg.TheVariants.{Look, Hit, Filter, Chosen, Judged}
use Rattle.sr_machine.specs.declared.pipe_view.PipeView.{PipeView}
use Rattle.sr_machine.specs.declared.stage.Stage.{Stage}
use Rattle.sr_machine.specs.declared.stage.Stage.TheVariants.{Idle, Enter, Note, Vip, Fly, Leave}
use Rattle.sr_machine.specs.declared.leg.Last.TheVariants as last
use Rattle.sr_law.specs.declared.line.Line.TheVariants as line

-- ---- tests of some packets

module _ (f : EndingPacket → Bool) where
  pub any_front : (xs ys : List EndingPacket) → list_any f xs ≡ true → list_any f (xs ++ ys) ≡ true
  any_front [] ys e = cc
  any_front (x ∷ xs) ys e = at (f x) e (any_front xs ys)
    where
      at : (b : Bool) → (b || list_any f xs) ≡ true → (list_any f xs ≡ true → list_any f (xs ++ ys) ≡ true) → (b || list_any f (xs ++ ys)) ≡ true
      at true e more = refl
      at false e more = more e

  pub any_back : (xs ys : List EndingPacket) → list_any f ys ≡ true → list_any f (xs ++ ys) ≡ true
  any_back [] ys e = e
  any_back (x ∷ xs) ys e = at (f x) (any_back xs ys e)
    where
      at : (b : Bool) → list_any f (xs ++ ys) ≡ true → (b || list_any f (xs ++ ys)) ≡ true
      at true e = refl
      at false e = e

  any_parts : (xs ys : List EndingPacket) → list_any f (xs ++ ys) ≡ true → (list_any f xs ≡ true) ⊎ (list_any f ys ≡ true)
  any_parts [] ys e = inr e
  any_parts (x ∷ xs) ys e = at (f x) e (any_parts xs ys)
    where
      at : (b : Bool) → (b || list_any f (xs ++ ys)) ≡ true → (list_any f (xs ++ ys) ≡ true → (list_any f xs ≡ true) ⊎ (list_any f ys ≡ true))
          → ((b || list_any f xs) ≡ true) ⊎ (list_any f ys ≡ true)
      at true e more = inl refl
      at false e more = more e

  -- ---- those under way, as one pipe changes

  pub under_own : (pipes : List PipeView) (p : ℕ) (v w : PipeView) → slice_get pipes p ≡ Some v → list_any f (ending_at w.stage) ≡ true
      → list_any f (endings_under_way (slice_set pipes p w)) ≡ true
  under_own [] p v w q h = cc
  under_own (u ∷ rest) zero v w q h = any_front (ending_at w.stage) (endings_under_way rest) h
  under_own (u ∷ rest) (suc p) v w q h =
      any_back (ending_at u.stage) (endings_under_way (slice_set rest p w)) (under_own rest p v w q h)

  -- one that is under way is among them
  pub under_there : (pipes : List PipeView) (p : ℕ) (v : PipeView) → slice_get pipes p ≡ Some v → list_any f (ending_at v.stage) ≡ true
      → list_any f (endings_under_way pipes) ≡ true
  under_there [] p v q h = cc
  under_there (u ∷ rest) zero v q h =
      any_front (ending_at u.stage) (endings_under_way rest) (subst (λ z. list_any f (ending_at z.stage) ≡ true) (sym (same_Some u v q)) h)
  under_there (u ∷ rest) (suc p) v q h = any_back (ending_at u.stage) (endings_under_way rest) (under_there rest p v q h)

  under_cases : (pipes : List PipeView) (p : ℕ) (v w : PipeView) → slice_get pipes p ≡ Some v → list_any f (endings_under_way pipes) ≡ true
      → (list_any f (ending_at v.stage) ≡ true) ⊎ (list_any f (endings_under_way (slice_set pipes p w)) ≡ true)
  under_cases [] p v w q h = cc
  under_cases (u ∷ rest) zero v w q h = at (any_parts (ending_at u.stage) (endings_under_way rest) h)
    where
      at : (list_any f (ending_at u.stage) ≡ true) ⊎ (list_any f (endings_under_way rest) ≡ true)
          → (list_any f (ending_at v.stage) ≡ true) ⊎ (list_any f (ending_at w.stage ++ endings_under_way rest) ≡ true)
      at (inl e) = inl (subst (λ z. list_any f (ending_at z.stage) ≡ true) (same_Some u v q) e)
      at (inr e) = inr (any_back (ending_at w.stage) (endings_under_way rest) e)
  under_cases (u ∷ rest) (suc p) v w q h =
      at (any_parts (ending_at u.stage) (endings_under_way rest) h) (under_cases rest p v w q)
    where
      at : (list_any f (ending_at u.stage) ≡ true) ⊎ (list_any f (endings_under_way rest) ≡ true)
          → (list_any f (endings_under_way rest) ≡ true → (list_any f (ending_at v.stage) ≡ true) ⊎ (list_any f (endings_under_way (slice_set rest p w)) ≡ true))
          → (list_any f (ending_at v.stage) ≡ true) ⊎ (list_any f (ending_at u.stage ++ endings_under_way (slice_set rest p w)) ≡ true)
      at (inl e) more = inr (any_front (ending_at u.stage) (endings_under_way (slice_set rest p w)) e)
      at (inr e) more = by (more e)
        where
          by : (list_any f (ending_at v.stage) ≡ true) ⊎ (list_any f (endings_under_way (slice_set rest p w)) ≡ true)
              → (list_any f (ending_at v.stage) ≡ true) ⊎ (list_any f (ending_at u.stage ++ endings_under_way (slice_set rest p w)) ≡ true)
          by (inl g) = inl g
          by (inr g) = inr (any_back (ending_at u.stage) (endings_under_way (slice_set rest p w)) g)

  -- a step other than the last keeps what is under way
  pub stays_ending : (l : LayoutView) (a : Stage) (x : ℕ) → ((g : Flight) (w : Verdict) → a ≡ Fly g (Judged w last.Out) → ⊥)
      → list_any f (ending_at a) ≡ true → list_any f (ending_at (stage_after l a x)) ≡ true
  stays_ending l Idle x n h = cc
  stays_ending l (Enter packet) x n h = cc
  stays_ending l (Note packet entered) x n h = h
  stays_ending l (Vip packet entered) x n h = h
  stays_ending l (Fly g (Look place rest)) x n h = h
  stays_ending l (Fly g (Hit place m)) x n h = h
  stays_ending l (Fly g (Filter bit rest)) x n h = h
  stays_ending l (Fly g (Chosen m load)) x n h = h
  stays_ending l (Fly g (Judged w last.Ring)) x n h = h
  stays_ending l (Fly g (Judged w (last.Mark bit rest))) x n h = h
  stays_ending l (Fly g (Judged w last.Push)) x n h = h
  stays_ending l (Fly g (Judged w last.Out)) x n h = absurd (n g w refl)
  stays_ending l (Leave g) x n h = cc

-- ---- what supports retirements before a tick

-- each packet that supported a retirement after a tick below this one does so still
abbrev pub Supports : ℕ → List EndingPacket → List EndingPacket → Type 0
Supports tick old new =
    (c : KeyView) (retired t : ℕ) → retired < tick → list_any (may_end c retired t) old ≡ true → list_any (may_end c retired t) new ≡ true

pub supports_self : (tick : ℕ) (es : List EndingPacket) → Supports tick es es
supports_self tick es c retired t low h = h

-- the pipes change, the lines don't
pub supports_pipes : (tick : ℕ) (pipes : List PipeView) (p : ℕ) (v w : PipeView) (lines : List Line) → slice_get pipes p ≡ Some v
    → ((f : EndingPacket → Bool) → list_any f (ending_at v.stage) ≡ true → list_any f (ending_at w.stage) ≡ true)
    → Supports tick (endings_in pipes lines) (endings_in (slice_set pipes p w) lines)
supports_pipes tick pipes p v w lines q keeps c retired t low h =
    at (any_parts (may_end c retired t) (endings_under_way pipes) (endings_of lines) h)
  where
    by : (list_any (may_end c retired t) (ending_at v.stage) ≡ true) ⊎ (list_any (may_end c retired t) (endings_under_way (slice_set pipes p w)) ≡ true)
        → list_any (may_end c retired t) (endings_in (slice_set pipes p w) lines) ≡ true
    by (inl e) =
        any_front (may_end c retired t) (endings_under_way (slice_set pipes p w)) (endings_of lines) (under_own (may_end c retired t) pipes p v w q (keeps (may_end c retired t) e))
    by (inr e) = any_front (may_end c retired t) (endings_under_way (slice_set pipes p w)) (endings_of lines) e

    at : (list_any (may_end c retired t) (endings_under_way pipes) ≡ true) ⊎ (list_any (may_end c retired t) (endings_of lines) ≡ true)
        → list_any (may_end c retired t) (endings_in (slice_set pipes p w) lines) ≡ true
    at (inl e) = by (under_cases (may_end c retired t) pipes p v w q e)
    at (inr e) = any_back (may_end c retired t) (endings_under_way (slice_set pipes p w)) (endings_of lines) e

-- a line comes, and the pipes stay
pub supports_line : (tick : ℕ) (pipes : List PipeView) (x : Line) (lines : List Line)
    → Supports tick (endings_in pipes lines) (endings_in pipes (x ∷ lines))
supports_line tick pipes x lines c retired t low h =
    at (any_parts (may_end c retired t) (endings_under_way pipes) (endings_of lines) h)
  where
    at : (list_any (may_end c retired t) (endings_under_way pipes) ≡ true) ⊎ (list_any (may_end c retired t) (endings_of lines) ≡ true)
        → list_any (may_end c retired t) (endings_in pipes (x ∷ lines)) ≡ true
    at (inl e) = any_front (may_end c retired t) (endings_under_way pipes) (endings_of (x ∷ lines)) e
    at (inr e) =
        any_back (may_end c retired t) (endings_under_way pipes) (endings_of (x ∷ lines)) (any_back (may_end c retired t) (ending_by x) (endings_of lines) e)

-- a packet leaves with its line: it was out after each retirement before
pub supports_out : (tick number pipe : ℕ) (f : Flight) (w z : Verdict) (pipes : List PipeView) (p : ℕ) (v u : PipeView) (lines : List Line)
    → slice_get pipes p ≡ Some v → v.stage ≡ Fly f (Judged z last.Out)
    → Supports tick (endings_in pipes lines) (endings_in (slice_set pipes p u) (line.Packet number f.entered tick pipe f.packet.key f.packet.kind w ∷ lines))
supports_out tick number pipe f w z pipes p v u lines q e c retired t low h =
    at (any_parts (may_end c retired t) (endings_under_way pipes) (endings_of lines) h)
  where
    tested : (kind : Kind) → list_any (may_end c retired t) (ending_of f.packet f.entered kind) ≡ true
        → list_any (may_end c retired t) (ending_by (line.Packet number f.entered tick pipe f.packet.key kind w)) ≡ true
    tested Opener g = cc
    tested Carry g = cc
    tested Ending g =
        out (same_key f.packet.key c && nat_lt f.entered t) (nat_lt retired tick) (grind (arith, nat_tests)) g
      where
        out : (a b : Bool) → b ≡ true → ((a && true) || false) ≡ true → ((a && b) || false) ≡ true
        out true true e g = refl
        out true false e g = cc
        out false b e g = cc

    by : (list_any (may_end c retired t) (ending_at v.stage) ≡ true) ⊎ (list_any (may_end c retired t) (endings_under_way (slice_set pipes p u)) ≡ true)
        → list_any (may_end c retired t) (endings_in (slice_set pipes p u) (line.Packet number f.entered tick pipe f.packet.key f.packet.kind w ∷ lines)) ≡ true
    by (inl g) =
        any_back (may_end c retired t) (endings_under_way (slice_set pipes p u)) (endings_of (line.Packet number f.entered tick pipe f.packet.key f.packet.kind w ∷ lines))
        (any_front (may_end c retired t) (ending_by (line.Packet number f.entered tick pipe f.packet.key f.packet.kind w)) (endings_of lines)
        (tested f.packet.kind (subst (λ a. list_any (may_end c retired t) (ending_at a) ≡ true) e g)))
    by (inr g) =
        any_front (may_end c retired t) (endings_under_way (slice_set pipes p u)) (endings_of (line.Packet number f.entered tick pipe f.packet.key f.packet.kind w ∷ lines)) g

    at : (list_any (may_end c retired t) (endings_under_way pipes) ≡ true) ⊎ (list_any (may_end c retired t) (endings_of lines) ≡ true)
        → list_any (may_end c retired t) (endings_in (slice_set pipes p u) (line.Packet number f.entered tick pipe f.packet.key f.packet.kind w ∷ lines)) ≡ true
    at (inl g) = by (under_cases (may_end c retired t) pipes p v u q g)
    at (inr g) =
        any_back (may_end c retired t) (endings_under_way (slice_set pipes p u)) (endings_of (line.Packet number f.entered tick pipe f.packet.key f.packet.kind w ∷ lines))
        (any_back (may_end c retired t) (ending_by (line.Packet number f.entered tick pipe f.packet.key f.packet.kind w)) (endings_of lines) g)

-- ---- so the lines go on to meet the clause

-- the last retirement was before the next tick
pub retired_low : (c : KeyView) (tick : ℕ) (lines : List Line) → 1 ≤ tick → AllOutBefore tick lines → last_retired lines c < tick
retired_low c tick [] some a = omega (arith, some)
retired_low c tick (l ∷ rest) some a = at l a.0 (retired_low c tick rest some a.1)
  where
    by : (out : ℕ) (b : Bool) → out < tick → last_retired rest c < tick
        → unwrap_or (cond b (Some out) None) (last_retired rest c) < tick
    by out true low more = low
    by out false low more = more

    at : (m : Line) → out_of m < tick → last_retired rest c < tick
        → unwrap_or (retired_by m c) (last_retired rest c) < tick
    at (line.Retired out key) low more = by out (same_key key c) low more
    at m low more = more

or_more : (a b d : Bool) → (b ≡ true → d ≡ true) → (a || b) ≡ true → (a || d) ≡ true
or_more true b d h e = refl
or_more false b d h e = h e

and_more : (a b d : Bool) → (b ≡ true → d ≡ true) → (a && b) ≡ true → (a && d) ≡ true
and_more true b d h e = h e
and_more false b d h e = e

and_first : (a b d : Bool) → (a ≡ true → d ≡ true) → (a && b) ≡ true → (d && b) ≡ true
and_first true true d h e = ap (λ z. z && true) (h refl)
and_first true false d h e = cc
and_first false b d h e = cc

pub line_supported : (setup : SetupView) (old new : List EndingPacket) (tick : ℕ) (before : List Line) (l : Line) → 1 ≤ tick → AllOutBefore tick before
    → Supports tick old new → meets_retire setup old before l ≡ true → meets_retire setup new before l ≡ true
unfolding meets_retire
line_supported setup old new tick before (line.Retired out key) some a sup h =
    and_more (is_open before key) _ _
    (or_more (is_quiet before key setup.shape.lives (last_sweep before)) _ _
    (and_first (list_any (may_end key (last_retired before key) out) old) (is_quiet before key 1 (last_sweep before)) (list_any (may_end key (last_retired before key) out) new)
    (sup key (last_retired before key) out (retired_low key tick before some a)))) h
line_supported setup old new tick before l some a sup h = h

pub lines_supported : (setup : SetupView) (old new : List EndingPacket) (tick : ℕ) (lines : List Line) → 1 ≤ tick → AllOutBefore tick lines
    → Supports tick old new
    → EachLine (λ before l. meets_retire setup old before l ≡ true) lines → EachLine (λ before l. meets_retire setup new before l ≡ true) lines
lines_supported setup old new tick [] some a sup h = tt
lines_supported setup old new tick (l ∷ before) some a sup h =
    (line_supported setup old new tick before l some a.1 sup h.0, lines_supported setup old new tick before some a.1 sup h.1)
