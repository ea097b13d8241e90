-- A buffer that is filled piece by piece, and used from its front.
use Rattle.std.proofs.Common.{◌≡◌, ℕ, ◌+◌, ◌-◌, ◌≤◌, ◌⊎◌, inl, inr, Bool, true, List, [], ◌++◌, length, take, drop, Option, Some, refl, sym, ap, ◌∙◌, append_assoc, arith}
use Rattle.std.proofs.lemmas.List.{length-take-le, length-drop, take_at, drop_at, take_all, take-take, take-append-drop, drop-drop, drop-take}
use Rattle.std.proofs.lemmas.List.Edits.{take-paste}
use Rattle.std.proofs.Math.Seq.{take-add, drop-nil}
use Rattle.std.specs.List.{slice_range, copy_within}
use Rattle.sr_io.specs.Source.{Takes}
use Rattle.sr_io.specs.declared.source.Got.TheVariants.{Bytes}
use Rattle.sr_io.specs.Window.{WindowView, ReadsOn, passed, passed_over}

-- a part of a buffer, moved to its front
pub moved : (bytes : List ℕ) (start end : ℕ) → start ≤ end → end ≤ length bytes → take (end - start) (copy_within bytes start end 0) ≡ slice_range bytes start end
moved bytes start end order within =
    let zero_more : 0 + (end - start) ≡ end - start = omega arith in
    ap (λ k. take k (copy_within bytes start end 0)) (sym zero_more) ∙ take-paste bytes 0 (drop start bytes) (end - start) (omega arith) (omega (arith, length-drop start bytes))

-- a window from which a front was used
slice_pass : (items : List ℕ) (at end n : ℕ) → n ≤ end - at → slice_range items (at + n) end ≡ drop n (slice_range items at end)
slice_pass items at end n h =
    let m : end - at ≡ n + (end - (at + n)) = omega arith in
    sym (ap (λ k. drop n (take k (drop at items))) m ∙ drop-take n (end - (at + n)) (drop at items) ∙ ap (take (end - (at + n))) (drop-drop n at items))

slice_passed : (items : List ℕ) (at end n : ℕ) → n ≤ end - at → slice_range items at (at + n) ≡ take n (slice_range items at end)
slice_passed items at end n h =
    let m : (at + n) - at ≡ n = omega arith in
    ap (λ k. take k (drop at items)) m ∙ sym (take-take n (end - at) (drop at items) h)

pub slice_length : (items : List ℕ) (at end : ℕ) → at ≤ end → end ≤ length items → length (slice_range items at end) ≡ end - at
slice_length items at end order within = length-take-le (end - at) (drop at items) (omega (arith, length-drop at items))

pub window_pass : (items : List ℕ) (start at end n room : ℕ) (over : Bool) (w : WindowView) → n ≤ end - at
    → ◌≡◌ {A = WindowView} (record { used = slice_range items start at; unread = slice_range items at end; room = room; over = over }) w
    → ◌≡◌ {A = WindowView} (record { used = slice_range items at (at + n); unread = slice_range items (at + n) end; room = room; over = over }) (passed n w)
window_pass items start at end n room over w h v =
    ap (λ (ys : List ℕ). record { used = ys; unread = slice_range items (at + n) end; room = room; over = over }) (slice_passed items at end n h)
    ∙ ap (λ (ys : List ℕ). record { used = take n (slice_range items at end); unread = ys; room = room; over = over }) (slice_pass items at end n h)
    ∙ ap (λ (z : WindowView). passed n z) v

pub window_pass_over : (items : List ℕ) (start at end n room : ℕ) (over : Bool) (w : WindowView) → n ≤ end - at
    → ◌≡◌ {A = WindowView} (record { used = slice_range items start at; unread = slice_range items at end; room = room; over = over }) w
    → ◌≡◌ {A = WindowView} (record { used = slice_range items (at + n) (at + n); unread = slice_range items (at + n) end; room = room; over = over }) (passed_over n w)
window_pass_over items start at end n room over w h v =
    let none : (at + n) - (at + n) ≡ 0 = omega arith in
    ap (λ k. record { used = take k (drop (at + n) items); unread = slice_range items (at + n) end; room = room; over = over }) none
    ∙ ap (λ (ys : List ℕ). record { used = []; unread = ys; room = room; over = over }) (slice_pass items at end n h)
    ∙ ap (λ (z : WindowView). passed_over n z) v

-- a part of a buffer in two parts
pub slice_parts : (items : List ℕ) (start at end : ℕ) → start ≤ at → at ≤ end → slice_range items start end ≡ slice_range items start at ++ slice_range items at end
slice_parts items start at end first second =
    let m : end - start ≡ (at - start) + (end - at) = omega arith in
    let k : start + (at - start) ≡ at = omega arith in
    ap (λ n. take n (drop start items)) m
    ∙ take-add (at - start) (end - at) (drop start items)
    ∙ ap (λ (ys : List ℕ). slice_range items start at ++ take (end - at) ys) (drop-drop (at - start) start items ∙ ap (λ n. drop n items) k)

-- Where the first a + u bytes of a buffer are these two lists, the first a are the one, and the u behind them the other.
first_part : (buffer used unread : List ℕ) (a u : ℕ) → take (a + u) buffer ≡ used ++ unread → length used ≡ a → take a buffer ≡ used
first_part buffer used unread a u front long =
    sym (take-take a (a + u) buffer (omega arith)) ∙ ap (take a) front ∙ take_at used unread a long

second_part : (buffer used unread : List ℕ) (a u : ℕ) → take (a + u) buffer ≡ used ++ unread → length used ≡ a → take u (drop a buffer) ≡ unread
second_part buffer used unread a u front long = sym (drop-take a u buffer) ∙ ap (drop a) front ∙ drop_at used unread a long

-- a window over a buffer whose first bytes are those that it had, with this many more behind them
slice_more : (buffer used unread : List ℕ) (a u n : ℕ) → take (a + u) buffer ≡ used ++ unread → length used ≡ a
    → slice_range buffer a (a + u + n) ≡ unread ++ take n (drop (a + u) buffer)
slice_more buffer used unread a u n front long =
    let m : (a + u + n) - a ≡ u + n = omega arith in
    ap (λ k. take k (drop a buffer)) m
    ∙ take-add u n (drop a buffer)
    ∙ ap (λ (ys : List ℕ). ys ++ take n (drop u (drop a buffer))) (second_part buffer used unread a u front long)
    ∙ ap (λ (ys : List ℕ). unread ++ take n ys) (drop-drop u a buffer)

slice_first : (buffer used unread : List ℕ) (a u : ℕ) → take (a + u) buffer ≡ used ++ unread → length used ≡ a → slice_range buffer 0 a ≡ used
slice_first buffer used unread a u front long =
    let none : a - 0 ≡ a = omega arith in
    ap (λ k. take k buffer) none ∙ first_part buffer used unread a u front long

-- More bytes came behind those of a window, which were moved to the front of its buffer.
pub reads_bytes : (old : WindowView) (buffer : List ℕ) (a u n room : ℕ) (over : Bool) (before after : Option (List ℕ)) → take (a + u) buffer ≡ old.used ++ old.unread
    → length old.used ≡ a → length old.unread ≡ u → old.room ≡ room → old.over ≡ over → ((xs : List ℕ) → before ≡ Some xs → Takes (Bytes n) xs (drop (a + u) buffer) after)
    → ReadsOn old before (record { used = slice_range buffer 0 a; unread = slice_range buffer a (a + u + n); room = room; over = over }) after
reads_bytes old buffer a u n room over before after front first second same_room same_over took =
    let there = slice_more buffer old.used old.unread a u n front first in
    record {
      pending = λ bytes p.
          let t = took p.rest p.told in
          record {
            rest = drop n p.rest;
            told = t.2;
            whole =
                p.whole
                ∙ ap (λ (ys : List ℕ). old.unread ++ ys) (sym (take-append-drop n p.rest))
                ∙ sym (append_assoc old.unread (take n p.rest) (drop n p.rest))
                ∙ ap (λ (ys : List ℕ). (old.unread ++ ys) ++ drop n p.rest) (sym t.1)
                ∙ ap (λ (ys : List ℕ). ys ++ drop n p.rest) (sym there);
            none = λ e. ap (λ (ys : List ℕ). drop n ys) (p.none (same_over ∙ e)) ∙ drop-nil n;
          };
      front = ap (λ (ys : List ℕ). take (length old.unread) ys) there ∙ take_at old.unread (take n (drop (a + u) buffer)) (length old.unread) refl;
      used = slice_first buffer old.used old.unread a u front first;
      room = sym same_room;
    }

-- The bytes of a window were moved to the front of its buffer, and none came.
pub reads_none : (old : WindowView) (buffer : List ℕ) (a u room : ℕ) (over : Bool) (before after : Option (List ℕ)) → take (a + u) buffer ≡ old.used ++ old.unread
    → length old.used ≡ a → length old.unread ≡ u → old.room ≡ room → ((xs : List ℕ) → before ≡ Some xs → (after ≡ Some xs) × (over ≡ true → (old.over ≡ true) ⊎ (xs ≡ [])))
    → ReadsOn old before (record { used = slice_range buffer 0 a; unread = slice_range buffer a (a + u); room = room; over = over }) after
reads_none old buffer a u room over before after front first second same_room kept =
    let m : (a + u) - a ≡ u = omega arith in
    let there : slice_range buffer a (a + u) ≡ old.unread = ap (λ k. take k (drop a buffer)) m ∙ second_part buffer old.used old.unread a u front first in
    record {
      pending = λ bytes p.
          let k = kept p.rest p.told in
          record { rest = p.rest; told = k.0; whole = p.whole ∙ ap (λ (ys : List ℕ). ys ++ p.rest) (sym there); none = λ e. elim (k.1 e) [ inl was ↦ p.none was | inr none ↦ none ] };
      front = ap (λ (ys : List ℕ). take (length old.unread) ys) there ∙ take_all (length old.unread) old.unread (omega arith);
      used = slice_first buffer old.used old.unread a u front first;
      room = sym same_room;
    }

-- what was moved to the front of a buffer is what a window had
pub moved_parts : (items buffer : List ℕ) (start at end room : ℕ) (over : Bool) (w : WindowView) → start ≤ at → at ≤ end → end ≤ length items
    → take (end - start) buffer ≡ slice_range items start end
    → ◌≡◌ {A = WindowView} (record { used = slice_range items start at; unread = slice_range items at end; room = room; over = over }) w
    → (take ((at - start) + (end - at)) buffer ≡ w.used ++ w.unread) × (length w.used ≡ at - start) × (length w.unread ≡ end - at)
moved_parts items buffer start at end room over w first second within front v =
    let m : (at - start) + (end - at) ≡ end - start = omega arith in
    let used = ap (λ (z : WindowView). z.used) v in
    let unread = ap (λ (z : WindowView). z.unread) v in (
      ap (λ k. take k buffer) m ∙ front ∙ slice_parts items start at end first second ∙ ap (λ (ys : List ℕ). ys ++ slice_range items at end) used ∙ ap (λ (ys : List ℕ). w.used ++ ys) unread,
      sym (ap length used) ∙ slice_length items start at first (omega arith),
      sym (ap length unread) ∙ slice_length items at end second within,
    )
