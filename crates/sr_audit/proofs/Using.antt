-- Steps of the index of uses.
use Rattle.std.proofs.Common.{◌≡◌, ℕ, ◌+◌, ◌<◌, ◌≤◌, Bool, true, false, ◌&&◌, ◌||◌, List, [], ◌∷◌, ◌++◌, length, get_or, take, drop, reverse, None, Some, refl, sym, ap, subst, ◌∙◌, inl, inr, arith}
use Rattle.std.specs.BTreeMap.{get}
use Rattle.std.specs.List.{All, list_any}
use Rattle.std.specs.Ordering.{nat_cmp}
use Rattle.std.specs.Option.{option_or}
use Rattle.std.specs.Prelude.{nat_le}
use Rattle.std.proofs.lemmas.Bool.{cases_Bool, leb-true, leb-false}
use Rattle.std.proofs.lemmas.Bool.Decides.{nat_tests}
use Rattle.std.proofs.lemmas.Grind.{common_steps}
use Rattle.std.proofs.lemmas.List.{drop-append-le, drop_all, drop_more, reverse-append, reverse-reverse, take-append-drop, take-append-le}
use Rattle.std.proofs.lemmas.List.Elements.{All-head, All-more, All-tail, All-weaker}
use Rattle.std.proofs.lemmas.List.Folds.{list_any-append, list_any_more}
use Rattle.std.proofs.lemmas.List.Sorted.{IsPermutation-reverse, list_any-IsPermutation}
use Rattle.std.proofs.lemmas.Option.{none-some, same_Some}
use Rattle.sr_base.specs.Key.{KeyView, IsKey, packed, same_key}
use Rattle.sr_law.specs.declared.line.Line.{Line}
use Rattle.sr_law.specs.declared.line.Line.TheVariants.{Packet, Swept}
use Rattle.sr_law.specs.declared.sweep.Sweep.{Sweep}
use Rattle.sr_law.specs.Retire.{last_sweep, sweep_by, uses_between, uses_entry}
use Rattle.sr_law.specs.Ticks.{out_of}
use Rattle.sr_audit.specs.declared.used.Used.{Used}
use Rattle.sr_audit.specs.Greatest.{reaches}
use Rattle.sr_audit.specs.Lately.{AreOut, Falls}
use Rattle.sr_audit.specs.Used.{IsAtLater, IsUsedBy, SweepsRise, TellsUsed, begun, uses_from}

or_false : (b : Bool) → b ≡ (b || false)
or_false true = refl
or_false false = refl

-- ---- the lines that were out at a tick, and those that weren't

out_after : (a b : Bool) (low high entered out : ℕ) → high < out → (a && b && nat_le low entered && nat_le out high) ≡ false
out_after a b low high entered out h = grind (arith, nat_tests, h)

out_by : (a b : Bool) (low high entered out : ℕ) → out ≤ high → (a && b && nat_le low entered && nat_le out high) ≡ (a && b && nat_le low entered)
out_by a b low high entered out h = grind (arith, nat_tests, h)

module _ (c : KeyView) (low high : ℕ) where
  later_none : (line : Line) → high < out_of line → uses_between c low high line ≡ false
  later_none (Packet number entered out pipe key kind verdict) h = out_after (same_key key c) (uses_entry kind) low high entered out h
  later_none line h = refl

  sooner_same : (line : Line) → out_of line ≤ high → uses_between c low high line ≡ uses_from c low line
  sooner_same (Packet number entered out pipe key kind verdict) h = out_by (same_key key c) (uses_entry kind) low high entered out h
  sooner_same line h = refl

  all_sooner : (lines : List Line) → All (λ line. out_of line ≤ high) lines → list_any (uses_between c low high) lines ≡ list_any (uses_from c low) lines
  all_sooner [] h = refl
  all_sooner (line ∷ lines) h =
      ap (λ b. b || list_any (uses_between c low high) lines) (sooner_same line (All-head (λ l. out_of l ≤ high) line lines h))
      ∙ ap (λ b. uses_from c low line || b) (all_sooner lines (All-tail (λ l. out_of l ≤ high) line lines h))

  out_later : (newer older : List Line) (t : ℕ) (line : Line) → AreOut t ((newer ++ line ∷ []) ++ older) → out_of line < t
  out_later [] older t line out = out.0
  out_later (first ∷ newer) older t line out = out_later newer older t line out.1

  -- those that are newer than a line that was out later
  newer_none : (newer older : List Line) (line : Line) → high < out_of line → Falls ((newer ++ line ∷ []) ++ older) → list_any (uses_between c low high) newer ≡ false
  newer_none [] older line h fall = refl
  newer_none (first ∷ newer) older line h fall =
      let sooner : out_of line < out_of first = out_later newer older (out_of first) line fall.1 in
      ap (λ b. b || list_any (uses_between c low high) newer) (later_none first (omega (arith, h, sooner))) ∙ newer_none newer older line h fall.2

  turned : (lines : List Line) → list_any (uses_between c low high) lines ≡ list_any (uses_between c low high) (reverse lines)
  turned lines = list_any-IsPermutation (uses_between c low high) lines (reverse lines) (IsPermutation-reverse lines)

  -- from a line on that was out later, none was out at the tick
  pub later_on : (lines : List Line) (at : ℕ) → Falls (reverse lines) → IsAtLater at high lines → list_any (uses_between c low high) (drop at lines) ≡ false
  later_on lines at fall stops = elim (cases_Bool (nat_le (length lines) at)) [
    | inl t ↦ ap (list_any (uses_between c low high)) (drop_all at lines (leb-true (length lines) at t))
    | inr f ↦
        let inside : at < length lines = leb-false (length lines) at f in
        let d : Line = Swept 0 0 0 0 in
        let line = get_or lines at d in
        let newer = drop (at + 1) lines in
        let parts : drop at lines ≡ line ∷ newer = drop_more lines at d inside in
        let whole : reverse lines ≡ (reverse newer ++ line ∷ []) ++ reverse (take at lines) =
        ap reverse (sym (take-append-drop at lines) ∙ ap (λ l. take at lines ++ l) parts) ∙ reverse-append (take at lines) (line ∷ newer)
        ∙ ap (λ l. l ++ reverse (take at lines)) (reverse-append (line ∷ []) newer) in
        ap (list_any (uses_between c low high)) parts
        ∙ ap (λ b. b || list_any (uses_between c low high) newer) (later_none line (stops d inside))
        ∙ turned newer ∙ newer_none (reverse newer) (reverse (take at lines)) line (stops d inside) (subst Falls whole fall)
  ]

  -- a question of the index
  pub asked : (index : Used) (lines : List Line) (key : IsKey c) → IsUsedBy index high lines → list_any (uses_between c low high) (drop index.next lines) ≡ false
      → reaches low (get nat_cmp index.map (packed c)) ≡ list_any (uses_between c low high) lines
  asked index lines key by rest =
      let test = uses_between c low high in
      by.each c key low ∙ sym (all_sooner (take index.next lines) by.seen) ∙ or_false (list_any test (take index.next lines))
      ∙ ap (λ b. list_any test (take index.next lines) || b) (sym rest)
      ∙ sym (list_any-append test (take index.next lines) (drop index.next lines)) ∙ ap (list_any test) (take-append-drop index.next lines)

-- ---- one line more, which the cursor doesn't reach

began : (before : List Line) (t : ℕ) → Falls before → AreOut t before → (last : Sweep) → last_sweep before ≡ Some last → last.from < t
began [] t fall out last e = absurd (none-some last e)
began (Swept number from to at_ms ∷ before) t fall out last e =
    let same : from ≡ last.from = ap (λ s. s.from) (same_Some (record { number = number; from = from; to = to; at_ms = at_ms }) last e) in
    subst (λ n. n < t) same (omega (arith, fall.0, out.0))
began (line ∷ before) t fall out last e = began before t fall.2 out.1 last e

module _ (index : Used) (before : List Line) (line : Line) where
  list : reverse (line ∷ before) ≡ reverse before ++ line ∷ []
  list = reverse-append (line ∷ []) before

  -- those up to the cursor are the same
  used_more : (tick : ℕ) → IsUsedBy index tick (reverse before) → IsUsedBy index tick (reverse (line ∷ before))
  used_more tick by =
      let first : take index.next (reverse before) ≡ take index.next (reverse (line ∷ before)) =
      sym (ap (take index.next) list ∙ take-append-le index.next (reverse before) (line ∷ []) by.fits) in
      record {
        fits = subst (λ l. index.next ≤ length l) (sym list) (grind (arith, common_steps, by.fits));
        seen = subst (All (λ l. out_of l ≤ tick)) first by.seen;
        each = λ c key low. by.each c key low ∙ ap (list_any (uses_from c low)) first;
      }

  -- and none of the others tells of a use
  rest_more : (c : KeyView) (low high : ℕ) → index.next ≤ length (reverse before) → list_any (uses_between c low high) (drop index.next (reverse before)) ≡ false
      → uses_between c low high line ≡ false → list_any (uses_between c low high) (drop index.next (reverse (line ∷ before))) ≡ false
  rest_more c low high fits older own =
      let test = uses_between c low high in
      ap (λ l. list_any test (drop index.next l)) list ∙ ap (list_any test) (drop-append-le index.next (reverse before) (line ∷ []) fits)
      ∙ list_any-append test (drop index.next (reverse before)) (line ∷ []) ∙ ap (λ b. b || (uses_between c low high line || false)) older
      ∙ ap (λ b. b || false) own

  -- a line that is no sweep's
  pub used_on : sweep_by line ≡ None → TellsUsed index before → TellsUsed index (line ∷ before)
  used_on none tells fall rise =
      let older = tells fall.2 rise.1 in
      let last_same : last_sweep (line ∷ before) ≡ last_sweep before = ap (λ s. option_or s (last_sweep before)) none in
      record {
        by = subst (λ s. IsUsedBy index (begun s) (reverse (line ∷ before))) (sym last_same) (used_more (begun (last_sweep before)) older.by);
        rest = λ c low last e.
            let same : last_sweep before ≡ Some last = sym last_same ∙ e in
            rest_more c low last.from older.by.fits (older.rest c low last same) (later_none c low last.from line (began before (out_of line) fall.2 fall.1 last same));
      }

-- a sweep's line, once the cursor went on
pub swept_on : (old new : Used) (lines : List Line) (number from to at_ms : ℕ)
    → ((earlier : ℕ) → earlier ≤ from → IsUsedBy old earlier lines → IsUsedBy new from lines) → IsAtLater new.next from lines
    → TellsUsed old (reverse lines) → TellsUsed new (Swept number from to at_ms ∷ reverse lines)
swept_on old new lines number from to at_ms step stops tells fall rise =
    let before = reverse lines in
    let own : Line = Swept number from to at_ms in
    let older = tells fall.2 rise.1 in
    let turn : reverse before ≡ lines = reverse-reverse lines in
    let now : IsUsedBy new from (reverse before) =
    subst (IsUsedBy new from) (sym turn) (step (begun (last_sweep before)) rise.0 (subst (IsUsedBy old (begun (last_sweep before))) turn older.by)) in
    let gone : (c : KeyView) (low : ℕ) → list_any (uses_between c low from) (drop new.next (reverse before)) ≡ false =
    λ c low. ap (λ l. list_any (uses_between c low from) (drop new.next l)) turn ∙ later_on c low from lines new.next fall.2 stops in
    record {
      by = used_more new before own from now;
      rest = λ c low last e.
          let same : from ≡ last.from = ap (λ s. s.from) (same_Some (record { number = number; from = from; to = to; at_ms = at_ms }) last e) in
          subst (λ n. list_any (uses_between c low n) (drop new.next (reverse (own ∷ before))) ≡ false) same
          (rest_more new before own c low from now.fits (gone c low) refl);
    }

-- the cursor goes on over one line
pub cursor_more : (old new : Used) (lines : List Line) (line : Line) (tick i : ℕ) → old.next ≡ i → i < length lines → line ≡ get_or lines i line → out_of line ≤ tick
    → ((c : KeyView) → IsKey c → (low : ℕ) → reaches low (get nat_cmp new.map (packed c)) ≡ (reaches low (get nat_cmp old.map (packed c)) || uses_from c low line))
    → IsUsedBy old tick lines → IsUsedBy (record { map = new.map; next = i + 1 }) tick lines
cursor_more old new lines line tick i at inside is sooner more by =
    let seen : All (λ l. out_of l ≤ tick) (take i lines) = subst (λ n. All (λ l. out_of l ≤ tick) (take n lines)) at by.seen in
    record {
      fits = omega (arith, inside);
      seen = All-more (λ l. out_of l ≤ tick) lines i line inside seen (subst (λ l. out_of l ≤ tick) is sooner);
      each = λ c key low.
          more c key low ∙ ap (λ b. b || uses_from c low line) (by.each c key low ∙ ap (λ n. list_any (uses_from c low) (take n lines)) at)
          ∙ ap (λ l. list_any (uses_from c low) (take i lines) || uses_from c low l) is
          ∙ sym (list_any_more (uses_from c low) lines i line inside);
    }

-- and stands past those that were out at a later tick or before
pub tick_later : (index : Used) (lines : List Line) (earlier tick : ℕ) → earlier ≤ tick → IsUsedBy index earlier lines → IsUsedBy index tick lines
tick_later index lines earlier tick h by = record {
  fits = by.fits;
  seen = All-weaker (λ l. out_of l ≤ earlier) (λ l. out_of l ≤ tick) (λ l sooner. omega (arith, sooner, h)) (take index.next lines) by.seen;
  each = by.each;
}

-- a question of the index at the last sweep
pub used_asked : (index : Used) (before : List Line) (c : KeyView) (low : ℕ) (last : Sweep) → IsKey c → Falls before → SweepsRise before → TellsUsed index before
    → last_sweep before ≡ Some last → reaches low (get nat_cmp index.map (packed c)) ≡ list_any (uses_between c low last.from) before
used_asked index before c low last key fall rise tells e =
    let told = tells fall rise in
    asked c low last.from index (reverse before) key (subst (λ s. IsUsedBy index (begun s) (reverse before)) e told.by) (told.rest c low last e)
    ∙ sym (turned c low last.from before)

-- a line that is no sweep's tells of none
pub no_sweep : (line : Line) → ((number from to at_ms : ℕ) → line ≡ Swept number from to at_ms → ⊥) → sweep_by line ≡ None
no_sweep (Swept number from to at_ms) none = absurd (none number from to at_ms refl)
no_sweep line none = refl
