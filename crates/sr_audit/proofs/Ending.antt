-- Steps of the index of Ending packets.
use Rattle.std.proofs.Common.{◌≡◌, ℕ, ◌+◌, ◌<◌, ◌≤◌, Bool, true, false, ◌&&◌, ◌||◌, List, [], ◌∷◌, length, get_or, take, drop, refl, sym, ap, subst, ◌∙◌, arith}
use Rattle.std.specs.BTreeMap.{get}
use Rattle.std.specs.List.{All, list_any}
use Rattle.std.specs.List.Sorted.{IsNonDecreasingBy}
use Rattle.std.specs.Ordering.{nat_cmp}
use Rattle.std.specs.Prelude.{nat_lt}
use Rattle.std.proofs.lemmas.Bool.Decides.{nat_tests}
use Rattle.std.proofs.lemmas.List.{get_or-drop, length-drop, take-append-drop}
use Rattle.std.proofs.lemmas.List.Elements.{All-from_get_or, All-head, All-more, All-tail}
use Rattle.std.proofs.lemmas.List.Folds.{list_any-append, list_any_more}
use Rattle.sr_base.specs.Key.{KeyView, IsKey, packed, same_key}
use Rattle.sr_law.specs.declared.line.Line.{Line}
use Rattle.sr_law.specs.Retire.{endings_of, may_end}
use Rattle.sr_audit.specs.declared.endings.Ending.{Ending}
use Rattle.sr_audit.specs.declared.endings.Endings.{Endings}
use Rattle.sr_audit.specs.Endings.{AreEndingsOf, AreEntered, ListsEndings, TellsEndings, ends, ends_after, is_after}

or_false : (b : Bool) → b ≡ (b || false)
or_false true = refl
or_false false = refl

-- ---- the cursor goes on over one packet

pub passed_more : (old new : Endings) (all : List Line) (ending : Ending) (i : ℕ) → old.next ≡ i → new.list ≡ old.list → i < length old.list.items → ending ≡ get_or old.list.items i ending
    → ((c : KeyView) → IsKey c → (tick : ℕ) → is_after tick (get nat_cmp new.last (packed c)) ≡ (is_after tick (get nat_cmp old.last (packed c)) || ends_after c tick ending))
    → ListsEndings old all → ListsEndings (record { list = new.list; last = new.last; next = i + 1 }) all
passed_more old new all ending i at list inside is more older = record {
  same = subst (λ l. AreEndingsOf l.items all) (sym list) older.same;
  rise = subst (λ l. IsNonDecreasingBy (λ e. e.entered) l.items) (sym list) older.rise;
  fits = subst (λ l. i + 1 ≤ length l.items) (sym list) (omega (arith, inside));
  each = λ c key tick.
      let items = old.list.items in
      more c key tick ∙ ap (λ b. b || ends_after c tick ending) (older.each c key tick ∙ ap (λ n. list_any (ends_after c tick) (take n items)) at)
      ∙ ap (λ e. list_any (ends_after c tick) (take i items) || ends_after c tick e) is
      ∙ sym (list_any_more (ends_after c tick) items i ending inside)
      ∙ ap (λ l. list_any (ends_after c tick) (take (i + 1) l.items)) (sym list);
}

pub entered_more : (old new : Endings) (ending : Ending) (tick i : ℕ) → old.next ≡ i → new.list ≡ old.list → i < length old.list.items → ending ≡ get_or old.list.items i ending
    → ending.entered < tick → AreEntered old tick → AreEntered (record { list = new.list; last = new.last; next = i + 1 }) tick
entered_more old new ending tick i at list inside is sooner older =
    let items = old.list.items in
    subst (λ l. All (λ e. e.entered < tick) (take (i + 1) l.items)) (sym list)
    (All-more (λ e. e.entered < tick) items i ending inside (subst (λ n. All (λ e. e.entered < tick) (take n items)) at older)
    (subst (λ e. e.entered < tick) is sooner))

-- ---- a question of the index

entered_by : (a b : Bool) (tick entered : ℕ) → entered < tick → (a && nat_lt entered tick && b) ≡ (a && b)
entered_by a b tick entered h = grind (arith, nat_tests, h)

entered_after : (a b : Bool) (tick entered : ℕ) → tick ≤ entered → (a && nat_lt entered tick && b) ≡ false
entered_after a b tick entered h = grind (arith, nat_tests, h)

module _ (c : KeyView) (retired tick : ℕ) where
  all_entered : (endings : List Ending) → All (λ e. e.entered < tick) endings → list_any (ends c retired tick) endings ≡ list_any (ends_after c retired) endings
  all_entered [] h = refl
  all_entered (ending ∷ endings) h =
      ap (λ b. b || list_any (ends c retired tick) endings)
      (entered_by (same_key ending.key c) (nat_lt retired ending.out) tick ending.entered (All-head (λ e. e.entered < tick) ending endings h))
      ∙ ap (λ b. ends_after c retired ending || b) (all_entered endings (All-tail (λ e. e.entered < tick) ending endings h))

  none_entered : (endings : List Ending) → All (λ e. tick ≤ e.entered) endings → list_any (ends c retired tick) endings ≡ false
  none_entered [] h = refl
  none_entered (ending ∷ endings) h =
      ap (λ b. b || list_any (ends c retired tick) endings)
      (entered_after (same_key ending.key c) (nat_lt retired ending.out) tick ending.entered (All-head (λ e. tick ≤ e.entered) ending endings h))
      ∙ none_entered endings (All-tail (λ e. tick ≤ e.entered) ending endings h)

  pub ends_asked : (index : Endings) (all : List Line) → IsKey c → TellsEndings index all tick
      → is_after retired (get nat_cmp index.last (packed c)) ≡ list_any (may_end c retired tick) (endings_of all)
  ends_asked index all key tells =
      let items = index.list.items in
      let test = ends c retired tick in
      let d : Ending = record { key = c; entered = 0; out = 0 } in
      let later : All (λ e. tick ≤ e.entered) (drop index.next items) =
      All-from_get_or (λ e. tick ≤ e.entered) (drop index.next items) d (λ k inside.
      let within : index.next + k < length items = let size = length-drop index.next items in omega (arith, inside, size) in
      let first = tells.stops d (omega (arith, within)) in
      let next = tells.lists.rise index.next (index.next + k) d (omega arith) within in
      subst (λ e. tick ≤ e.entered) (sym (get_or-drop index.next items k d)) (omega (arith, first, next))) in
      tells.lists.each c key retired ∙ sym (all_entered (take index.next items) tells.entered)
      ∙ or_false (list_any test (take index.next items)) ∙ ap (λ b. list_any test (take index.next items) || b) (sym (none_entered (drop index.next items) later))
      ∙ sym (list_any-append test (take index.next items) (drop index.next items)) ∙ ap (list_any test) (take-append-drop index.next items)
      ∙ tells.lists.same c retired tick
