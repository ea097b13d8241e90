-- Connections that had an Ending packet.
use Rattle.std.proofs.Common.{◌≡◌, ℕ, ◌<◌, ◌≤◌, Bool, true, false, ◌&&◌, ◌||◌, ◌≢◌, ◌⊎◌, List, [], ◌∷◌, ◌++◌, if◌then◌else◌, nat_lt, slice_get, slice_set, Some, None, unwrap_or, sym, refl, ap, ◌∙◌, subst, inl, inr, arith}
use Rattle.std.proofs.lemmas.Bool.{cases_eq}
use Rattle.std.proofs.lemmas.Bool.Decides.{nat_tests}
use Rattle.std.proofs.lemmas.Option.{same_Some}
use Rattle.std.specs.List.{list_any}
use Rattle.sr_base.proofs.Sameness.{same_key-self}
use Rattle.sr_base.specs.Key.{KeyView, same_key}
use Rattle.sr_base.specs.declared.kind.Kind.TheVariants.{Ending}
use Rattle.sr_inv_facts.proofs.Pipes.{some_else}
use Rattle.sr_inv_facts.proofs.Printing.{all_out, newest_all, prints}
use Rattle.sr_inv_facts.specs.InSweeps.{HasEnded, IsEnding, ends_after}
use Rattle.sr_inv_facts.specs.InTicks.{same, AllOutBefore}
use Rattle.sr_inv_facts.specs.Invariant.{Invariant}
use Rattle.sr_inv_facts.specs.Readings.{SomePipe}
use Rattle.sr_law.specs.Retire.{ending_by, endings_of, last_retired, retired_by}
use Rattle.sr_law.specs.Ticks.{out_of}
use Rattle.sr_law.specs.declared.line.Line.{Line}
use Rattle.sr_law.specs.declared.verdict.Verdict.{Verdict}
use Rattle.sr_machine.specs.Core.{Core, pipe_lines, printed}
use Rattle.sr_machine.specs.Pipe.{packet_line}
use Rattle.sr_machine.specs.declared.flight.Flight.{Flight}
use Rattle.sr_machine.specs.declared.leg.Leg.TheVariants.{Judged}
use Rattle.sr_machine.specs.declared.pipe_view.PipeView.{PipeView}
use Rattle.sr_machine.specs.declared.stage.Stage.{Stage}
use Rattle.sr_machine.specs.declared.stage.Stage.TheVariants.{Fly}
use Rattle.sr_law.specs.declared.line.Line.TheVariants as line
use Rattle.sr_machine.specs.declared.name.Name.TheVariants as name
use Rattle.sr_machine.specs.declared.leg.Last.TheVariants as last

list_back : {X : Type 0} (test : X → Bool) (xs ys : List X) → list_any test ys ≡ true → list_any test (xs ++ ys) ≡ true
list_back test [] ys h = h
list_back test (x ∷ xs) ys h = at (test x) (list_back test xs ys h)
  where
    at : (b : Bool) → list_any test (xs ++ ys) ≡ true → (b || list_any test (xs ++ ys)) ≡ true
    at true q = refl
    at false q = q

-- ---- lines

-- a connection was retired before the next tick
retired_before : (lines : List Line) (key : KeyView) (t : ℕ) → 1 ≤ t → AllOutBefore t lines → last_retired lines key < t
retired_before [] key t h a = omega arith
retired_before (line.Retired out of ∷ rest) key t h a = at (same_key of key) (retired_before rest key t h a.1)
  where
    at : (b : Bool) → last_retired rest key < t → unwrap_or (if b then Some out else None) (last_retired rest key) < t
    at true q = a.0
    at false q = q
retired_before (l ∷ rest) key t h a = retired_before rest key t h a.1

-- a line that retires nobody of the key
abbrev IsKeeping : KeyView → Line → Type 0
IsKeeping key l = retired_by l key ≡ None

-- more lines end a connection still
ended_line : (pipes : List PipeView) (l : Line) (lines : List Line) (key : KeyView) → retired_by l key ≡ None
    → list_any (ends_after key (last_retired lines key)) (endings_of lines) ≡ true
    → list_any (ends_after key (last_retired (l ∷ lines) key)) (endings_of (l ∷ lines)) ≡ true
ended_line pipes l lines key keeps h =
    subst (λ n. list_any (ends_after key n) (ending_by l ++ endings_of lines) ≡ true) (sym (ap (λ o. unwrap_or o (last_retired lines key)) keeps))
    (list_back (ends_after key (last_retired lines key)) (ending_by l) (endings_of lines) h)

pub ended_more : (pipes : List PipeView) (l : Line) (lines : List Line) (key : KeyView) → retired_by l key ≡ None → HasEnded pipes lines key
    → HasEnded pipes (l ∷ lines) key
ended_more pipes l lines key keeps (inl h) = inl (ended_line pipes l lines key keeps h)
ended_more pipes l lines key keeps (inr h) = inr h

-- the line of an Ending packet
pub own_ending : (lines : List Line) (key : KeyView) (f : Flight) (w : Verdict) (pipe t : ℕ) → 1 ≤ t → AllOutBefore t lines → f.packet.kind ≡ Ending
    → f.packet.key ≡ key
    → list_any (ends_after key (last_retired (packet_line pipe f w t ∷ lines) key)) (endings_of (packet_line pipe f w t ∷ lines)) ≡ true
own_ending lines key f w pipe t some out kind own =
    subst (λ z. list_any (ends_after key (last_retired lines key)) (ending_by (line.Packet f.packet.number f.entered t pipe f.packet.key z w) ++ endings_of lines) ≡ true) (sym kind)
    (at (same_key f.packet.key key) (nat_lt (last_retired lines key) t) (ap (λ z. same_key f.packet.key z) (sym own) ∙ same_key-self f.packet.key) late)
  where
    late : nat_lt (last_retired lines key) t ≡ true
    late = let before : last_retired lines key < t = retired_before lines key t some out in grind (arith, nat_tests)

    at : (a b : Bool) → a ≡ true → b ≡ true → ((a && b) || list_any (ends_after key (last_retired lines key)) (endings_of lines)) ≡ true
    at true true p q = refl
    at true false p q = cc
    at false b p q = cc

-- ---- a pipe's step

module _ (s : Core) (i : Invariant s) (p : ℕ) (v : PipeView) (q : slice_get s.pipes p ≡ Some v) where
  out_all : AllOutBefore (s.words name.Tick) (printed s)
  out_all = newest_all (λ l. out_of l < s.words name.Tick) (pipe_lines s.pipes ++ s.controller.lines) (all_out s i.ticks)

  tick_some : 1 ≤ s.words name.Tick
  tick_some = omega (arith, i.words.tick)

  -- another pipe's packet stays where it is
  elsewhere : (a : Stage) (w : PipeView) (key : KeyView) → v.stage ≡ a → (IsEnding key a → ⊥)
      → SomePipe (λ n u. IsEnding key u.stage) s.pipes → SomePipe (λ n u. IsEnding key u.stage) (slice_set s.pipes p w)
  elsewhere a w key e off h = at (cases_eq h.0 p)
    where
      at : (h.0 ≡ p) ⊎ (h.0 ≢ p) → SomePipe (λ n u. IsEnding key u.stage) (slice_set s.pipes p w)
      at (inl same) =
          let here : v ≡ h.1 = same_Some v h.1 (sym q ∙ (ap (slice_get s.pipes) (sym same) ∙ h.2)) in
          absurd (off (subst (IsEnding key) e (subst (λ u. IsEnding key u.stage) (sym here) h.3)))
      at (inr apart) = some_else s.pipes p v w q (λ n u. IsEnding key u.stage) h.0 h.1 apart h.2 h.3

  -- no step of a pipe undoes that a connection had one
  pub ended_after : (a : Stage) → v.stage ≡ a → (w : PipeView) (key : KeyView) → HasEnded s.pipes (printed s) key
      → HasEnded (slice_set s.pipes p w) (prints v.number a (s.words name.Tick) ++ printed s) key
  ended_after (Fly f (Judged u last.Out)) e w key (inl h) = inl (ended_line s.pipes (packet_line v.number f u (s.words name.Tick)) (printed s) key refl h)
  ended_after (Fly f (Judged u last.Out)) e w key (inr h) = at (cases_eq h.0 p)
    where
      at : (h.0 ≡ p) ⊎ (h.0 ≢ p)
          → HasEnded (slice_set s.pipes p w) (packet_line v.number f u (s.words name.Tick) ∷ printed s) key
      at (inl same) =
          let here : v ≡ h.1 = same_Some v h.1 (sym q ∙ (ap (slice_get s.pipes) (sym same) ∙ h.2)) in
          let own : IsEnding key (Fly f (Judged u last.Out)) = subst (IsEnding key) e (subst (λ z. IsEnding key z.stage) (sym here) h.3) in
          inl (own_ending (printed s) key f u v.number (s.words name.Tick) tick_some out_all own.0 own.1)
      at (inr apart) = inr (some_else s.pipes p v w q (λ n z. IsEnding key z.stage) h.0 h.1 apart h.2 h.3)
  ended_after a e w key (inl h) = inl h
  ended_after a e w key (inr h) = inr (elsewhere a w key e (λ z. z) h)
