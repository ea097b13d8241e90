-- Which Ending packets support all that others do.
use Rattle.std.proofs.Common.{◌≡◌, ℕ, zero, suc, ◌+◌, ◌<◌, ◌≤◌, Bool, true, false, ◌&&◌, ◌||◌, cond, refl, sym, ap, subst, ◌∙◌, List, [], ◌∷◌, ◌++◌, length, get_or, take, reverse, Option, Some, None, inl, inr, arith}
use Rattle.std.specs.Prelude.{nat_lt, unwrap_or}
use Rattle.std.specs.List.{list_any, slice_get}
use Rattle.std.proofs.Math.Numerals.{add-one}
use Rattle.std.proofs.lemmas.Bool.{and_parts, and_from, or_cases, or_left, or_right, ltb-true, lt-ltb, cases_Bool}
use Rattle.std.proofs.lemmas.List.Folds.{list_any-append}
use Rattle.std.proofs.lemmas.Option.{slice_get_within, slice_get-get_or}
use Rattle.sr_base.specs.Key.{KeyView, same_key}
use Rattle.sr_law.specs.declared.line.Line.{Line}
use Rattle.sr_law.specs.declared.line.Line.TheVariants.{Swept, Recorded, Retired}
use Rattle.sr_law.specs.Lawful.{broken, NoLineBreaks}
use Rattle.sr_law.specs.Laws.{AreOutBefore, Supports, is_out, is_under_way}
use Rattle.sr_law.specs.Opening.{is_open}
use Rattle.sr_law.specs.Retire.{EndingPacket, is_out_after, is_quiet, last_retired, last_sweep, may_end, may_retire, meets_retire, retired_by}
use Rattle.sr_law.specs.Setup.{SetupView}
use Rattle.sr_law.specs.Ticks.{out_of}
use Rattle.sr_law.proofs.Clauses.{meets, none_broken}
use Rattle.sr_law.proofs.Newest.{newest_more}

retires_anew : (setup : SetupView) (tick : ℕ) (old new : List EndingPacket) (before : List Line) (c : KeyView) (at : ℕ) → last_retired before c < tick → Supports tick old new → may_retire setup old before c at ≡ true → may_retire setup new before c at ≡ true
retires_anew setup tick old new before c at early supports e =
    let test : EndingPacket → Bool = may_end c (last_retired before c) at in
    let long = is_quiet before c setup.shape.lives (last_sweep before) in
    let short = is_quiet before c 1 (last_sweep before) in
    let parts = and_parts (is_open before c) (long || (list_any test old && short)) e in
    and_from (is_open before c) (long || (list_any test new && short)) parts.0
    (elim (or_cases long (list_any test old && short) parts.1) [
      | inl quiet ↦ or_left long (list_any test new && short) quiet
      | inr ended ↦
          let both = and_parts (list_any test old) short ended in
          or_right long (list_any test new && short) (and_from (list_any test new) short (supports.passes c (last_retired before c) at early both.0) both.1)
    ])

retire_anew : (setup : SetupView) (tick : ℕ) (old new : List EndingPacket) (before : List Line) (line : Line) → ((c : KeyView) → last_retired before c < tick) → Supports tick old new → meets_retire setup old before line ≡ true → meets_retire setup new before line ≡ true
unfolding meets_retire
retire_anew setup tick old new before (Swept number from to at_ms) early supports e = e
retire_anew setup tick old new before (Retired out key) early supports e = retires_anew setup tick old new before key out (early key) supports e
retire_anew setup tick old new before line early supports e = e

-- a line that breaks no clause breaks none with Ending packets that support as much
broken_anew : (setup : SetupView) (tick : ℕ) (old new : List EndingPacket) (before : List Line) (line : Line) → ((c : KeyView) → last_retired before c < tick) → Supports tick old new → broken setup old before line ≡ None → broken setup new before line ≡ None
broken_anew setup tick old new before line early supports e =
    let m = meets setup old before line e in
    none_broken setup new before line (record { order = m.order; server = m.server; same = m.same; newer = m.newer; number = m.number; cause = m.cause; retire = retire_anew setup tick old new before line early supports m.retire })

-- a line tells of no retirement after it was out
retired_early : (line : Line) (c : KeyView) (tick older : ℕ) → out_of line < tick → older < tick → unwrap_or (retired_by line c) older < tick
retired_early (Retired out key) c tick older h k =
    elim (cases_Bool (same_key key c)) [
      | inl t ↦ rw t h
      | inr f ↦ rw f k
    ]
retired_early line c tick older h k = k

module _ (lines : List Line) (tick : ℕ) (out : AreOutBefore tick lines) (some : 0 < tick) where
  retired_before : (c : KeyView) (n : ℕ) → n ≤ length lines → last_retired (reverse (take n lines)) c < tick
  retired_before c zero h = some
  retired_before c (suc n) h =
      let d : Line = Recorded 0 0 in
      let list : reverse (take (suc n) lines) ≡ get_or lines n d ∷ reverse (take n lines) =
      ap (λ k. reverse (take k lines)) (sym (add-one n)) ∙ newest_more lines n d (omega arith) in
      subst (λ l. last_retired l c < tick) (sym list)
      (retired_early (get_or lines n d) c tick (last_retired (reverse (take n lines)) c)
      (out n (get_or lines n d) (slice_get-get_or lines n d (omega arith)))
      (retired_before c n (omega arith)))

-- so does a list
pub list_anew : (setup : SetupView) (lines : List Line) (tick : ℕ) (old new : List EndingPacket) → AreOutBefore tick lines → Supports tick old new → NoLineBreaks setup old lines → NoLineBreaks setup new lines
list_anew setup lines tick old new out supports met i line is =
    let within : i < length lines = slice_get_within lines i line is in
    let here : out_of line < tick = out i line is in
    broken_anew setup tick old new (reverse (take i lines)) line
    (λ c. retired_before lines tick out (omega (arith, here)) c i (omega (arith, within)))
    supports (met i line is)

-- more support as much
pub more : (tick : ℕ) (xs ys zs : List EndingPacket) → Supports tick (xs ++ zs) (xs ++ ys ++ zs)
more tick xs ys zs = record {
  passes = λ c retired at early e.
      let test = may_end c retired at in
      let old : (list_any test xs || list_any test zs) ≡ true = sym (list_any-append test xs zs) ∙ e in
      list_any-append test (xs ++ ys) zs ∙ ap (λ b. b || list_any test zs) (list_any-append test xs ys)
      ∙ elim (or_cases (list_any test xs) (list_any test zs) old) [
        | inl a ↦ or_left (list_any test xs || list_any test ys) (list_any test zs) (or_left (list_any test xs) (list_any test ys) a)
        | inr b ↦ or_right (list_any test xs || list_any test ys) (list_any test zs) b
      ];
}

ends_out : (c : KeyView) (retired at tick out : ℕ) (ending : EndingPacket) → retired < tick → tick ≤ out → may_end c retired at (is_under_way ending) ≡ true → may_end c retired at (is_out out ending) ≡ true
ends_out c retired at tick out ending early late e =
    let own = same_key ending.key c && nat_lt ending.entered at in
    and_from own (nat_lt retired out) (and_parts own true e).0 (lt-ltb retired out (omega (arith, early, late)))

-- one that is out supports as much as it did under way
pub out_is_enough : (tick out : ℕ) (ending : EndingPacket) (xs ys : List EndingPacket) → tick ≤ out → Supports tick (xs ++ is_under_way ending ∷ ys) (xs ++ is_out out ending ∷ ys)
out_is_enough tick out ending xs ys late = record {
  passes = λ c retired at early e.
      let test = may_end c retired at in
      let old : (list_any test xs || list_any test (is_under_way ending ∷ ys)) ≡ true = sym (list_any-append test xs (is_under_way ending ∷ ys)) ∙ e in
      list_any-append test xs (is_out out ending ∷ ys)
      ∙ elim (or_cases (list_any test xs) (test (is_under_way ending) || list_any test ys) old) [
        | inl a ↦ or_left (list_any test xs) (test (is_out out ending) || list_any test ys) a
        | inr b ↦ or_right (list_any test xs) (test (is_out out ending) || list_any test ys)
            (elim (or_cases (test (is_under_way ending)) (list_any test ys) b) [
              | inl x ↦ or_left (test (is_out out ending)) (list_any test ys) (ends_out c retired at tick out ending early late x)
              | inr y ↦ or_right (test (is_out out ending)) (list_any test ys) y
            ])
      ];
}
