-- Logs: of two texts of the grammar, one of which begins with the other, and of what comes next.
use Rattle.std.proofs.Common.{◌≡◌, ℕ, ◌+◌, ◌<◌, ◌≤◌, List, [], ◌∷◌, ◌++◌, length, Option, Some, None, MatchOption, Bor, option_map, refl, sym, ap, ◌∙◌, inl, inr, ◌⊎◌, append_assoc, arith}
use Rattle.std.proofs.lemmas.List.{append_cancel_left, append-nil}
use Rattle.std.proofs.lemmas.List.Elements.{recursion_from_All}
use Rattle.std.specs.Prelude.{codes}
use Rattle.std.specs.List.{flat_map, AllByRecursion}
use Rattle.std.specs.Fmt.{decimal}
use Rattle.sr_frame.specs.declared.skip.Skip.{Skip}
use Rattle.sr_law.specs.declared.line.Line.{Line}
use Rattle.sr_text.specs.LineText.{head_text, line_text, skip_word, skip_text, log_text}
use Rattle.sr_text.specs.Ranges.{IsLine, IsSkipped}
use Rattle.sr_text.specs.Log.{IsLog, LineNext, SkipNext, GoesOn, IsFirstBad, line_count, most_lines}
use Rattle.sr_text.specs.Fronts.{line_front, skip_front, name_front, change_name_front}
use Rattle.sr_text.proofs.FieldTexts.{skip_there, skip_takes}
use Rattle.sr_text.proofs.LineTexts.{line_there, line_takes}

pub some_same : {A : Type 0} (x y : A) → Some x ≡ Some y → x ≡ y
some_same x y e = cc

pub skip_append : (skip : ℕ × Skip) (more : List ℕ) → skip_text skip ++ more ≡ codes "skip " ++ (decimal skip.0 ++ 32 ∷ (skip_word skip.1 ++ 10 ∷ more))
unfolding skip_text
skip_append skip more = simp append_assoc

-- what the code's reader of a line answers is the line that comes next, or that none does
pub line_at_is : (bytes : List ℕ) (r : Option (Line × Bor (List ℕ))) → option_map (λ x. (x.0, x.1.now)) r ≡ line_front bytes → MatchOption r (¬ (LineNext bytes)) (λ x. IsLine x.0 × (bytes ≡ line_text x.0 ++ x.1.now))
line_at_is bytes None e = λ n. let at = line_there n.0 n.1 n.2.0 in let same = ap line_front n.2.1 in absurd (cc)
line_at_is bytes (Some x) e = let t = line_takes bytes (x.0, x.1.now) (sym e) in (t.1, t.0)

pub skip_at_is : (bytes : List ℕ) (r : Option ((ℕ × Skip) × Bor (List ℕ))) → option_map (λ x. (x.0, x.1.now)) r ≡ skip_front bytes → MatchOption r (¬ (SkipNext bytes)) (λ x. IsSkipped x.0 × (bytes ≡ skip_text x.0 ++ x.1.now))
skip_at_is bytes None e = λ n. let at = skip_there n.0 n.1 n.2.0 in let same = ap skip_front (n.2.1 ∙ skip_append n.0 n.1) in absurd (cc)
skip_at_is bytes (Some x) e = let t = skip_takes bytes (x.0, x.1.now) (sym e) in (t.1, t.0 ∙ sym (skip_append x.0 x.1.now))

pub skip_text_there : (skip : ℕ × Skip) (more : List ℕ) → IsSkipped skip → skip_front (skip_text skip ++ more) ≡ Some (skip, more)
skip_text_there skip more h = ap skip_front (skip_append skip more) ∙ skip_there skip more h

pub skip_no_line : (rest : List ℕ) → line_front (codes "skip " ++ rest) ≡ None
unfolding line_front name_front change_name_front
skip_no_line rest = refl

pub line_none : line_front [] ≡ None
unfolding line_front name_front change_name_front
line_none = refl

pub skip_none : skip_front [] ≡ None
unfolding skip_front
skip_none = refl

-- the line of a skipped record is no other line
pub not_both : (skip : ℕ × Skip) (line : Line) (a b : List ℕ) → IsLine line → skip_text skip ++ a ≡ line_text line ++ b → ⊥
not_both skip line a b h e =
    let there = line_there line b h in
    let here = skip_no_line (decimal skip.0 ++ 32 ∷ (skip_word skip.1 ++ 10 ∷ a)) in
    let same = ap line_front (sym (skip_append skip a) ∙ e) in
    cc

-- the next line of one text stands where the other ends
pub lines_ahead : (front whole : List Line) (rest : List ℕ) → AllByRecursion IsLine front → AllByRecursion IsLine whole → flat_map line_text whole ≡ flat_map line_text front ++ rest
    → ((rest ≡ []) × (front ≡ whole)) ⊎ (LineNext rest × (length front < length whole))
lines_ahead [] [] rest f w e = inl (sym e, refl)
lines_ahead [] (l ∷ ls) rest f w e = inr ((l, flat_map line_text ls, (w.0, sym e)), omega arith)
lines_ahead (l ∷ ls) [] rest f w e =
    let there = line_there l (flat_map line_text ls ++ rest) f.0 in
    let same = ap line_front (e ∙ append_assoc (line_text l) (flat_map line_text ls) rest) in
    let none = line_none in
    absurd (cc)
lines_ahead (l ∷ ls) (k ∷ ks) rest f w e =
    let there = line_there l (flat_map line_text ls ++ rest) f.0 in
    let here = line_there k (flat_map line_text ks) w.0 in
    let same = ap line_front (e ∙ append_assoc (line_text l) (flat_map line_text ls) rest) in
    let both : ◌≡◌ {A = Line × List ℕ} (l, flat_map line_text ls ++ rest) (k, flat_map line_text ks) = some_same _ _ (sym there ∙ sym same ∙ here) in
    let first : l ≡ k = ap (λ (z : Line × List ℕ). z.0) both in
    let tail : flat_map line_text ks ≡ flat_map line_text ls ++ rest = sym (ap (λ (z : Line × List ℕ). z.1) both) in
    elim (lines_ahead ls ks rest f.1 w.1 tail) [
      | inl h ↦ inl (h.0, let t = h.1 in cc)
      | inr h ↦ inr (h.0, let t = h.1 in omega arith)
    ]

abbrev pub body : List (ℕ × Skip) → List Line → List ℕ
body skips lines = flat_map skip_text skips ++ flat_map line_text lines

abbrev pub Ahead : List (ℕ × Skip) → List Line → List (ℕ × Skip) → List Line → List ℕ → Type 0
Ahead skips lines all_skips all_lines rest = ((rest ≡ []) × (skips ≡ all_skips) × (lines ≡ all_lines)) ⊎ (GoesOn lines rest × (length skips + length lines < length all_skips + length all_lines))

pub first_skip : (s : ℕ × Skip) (x y : List ℕ) (t : ℕ × Skip) → IsSkipped s → IsSkipped t → skip_text s ++ x ≡ skip_text t ++ y → (s ≡ t) × (x ≡ y)
first_skip s x y t hs ht e =
    let there = skip_text_there s x hs in
    let here = skip_text_there t y ht in
    let whole : ◌≡◌ {A = (ℕ × Skip) × List ℕ} (s, x) (t, y) = some_same _ _ (sym there ∙ ap skip_front e ∙ here) in
    (ap (λ (z : (ℕ × Skip) × List ℕ). z.0) whole, ap (λ (z : (ℕ × Skip) × List ℕ). z.1) whole)

pub log_ahead : (skips all_skips : List (ℕ × Skip)) (lines all_lines : List Line) (rest : List ℕ) → AllByRecursion IsSkipped skips → AllByRecursion IsSkipped all_skips
    → AllByRecursion IsLine lines → AllByRecursion IsLine all_lines → body all_skips all_lines ≡ body skips lines ++ rest → Ahead skips lines all_skips all_lines rest
log_ahead [] [] lines all_lines rest f w fl wl e =
    elim (lines_ahead lines all_lines rest fl wl e) [
      | inl h ↦ inl (h.0, refl, h.1)
      | inr h ↦ inr (inl h.0, let t = h.1 in omega arith)
    ]
log_ahead [] (s ∷ ss) [] all_lines rest f w fl wl e =
    inr (inr (refl, (s, body ss all_lines, (w.0, sym e ∙ append_assoc (skip_text s) (flat_map skip_text ss) (flat_map line_text all_lines)))), omega arith)
log_ahead [] (s ∷ ss) (l ∷ ls) all_lines rest f w fl wl e =
    absurd (not_both s l (body ss all_lines) (flat_map line_text ls ++ rest) fl.0
    (sym (append_assoc (skip_text s) (flat_map skip_text ss) (flat_map line_text all_lines)) ∙ e ∙ append_assoc (line_text l) (flat_map line_text ls) rest))
log_ahead (s ∷ ss) [] lines [] rest f w fl wl e =
    let there = skip_text_there s (flat_map skip_text ss ++ (flat_map line_text lines ++ rest)) f.0 in
    let shape : body (s ∷ ss) lines ++ rest ≡ skip_text s ++ (flat_map skip_text ss ++ (flat_map line_text lines ++ rest)) = simp append_assoc in
    let same = ap skip_front (e ∙ shape) in
    let none = skip_none in
    absurd (cc)
log_ahead (s ∷ ss) [] lines (l ∷ ls) rest f w fl wl e =
    let shape : body (s ∷ ss) lines ++ rest ≡ skip_text s ++ (flat_map skip_text ss ++ (flat_map line_text lines ++ rest)) = simp append_assoc in
    absurd (not_both s l _ (flat_map line_text ls) wl.0 (sym (e ∙ shape)))
log_ahead (s ∷ ss) (t ∷ ts) lines all_lines rest f w fl wl e =
    let shape : body (s ∷ ss) lines ++ rest ≡ skip_text s ++ (body ss lines ++ rest) = simp append_assoc in
    let first = first_skip t (body ts all_lines) (body ss lines ++ rest) s w.0 f.0 (sym (append_assoc (skip_text t) (flat_map skip_text ts) (flat_map line_text all_lines)) ∙ e ∙ shape) in
    elim (log_ahead ss ts lines all_lines rest f.1 w.1 fl wl first.1) [
      | inl h ↦ inl (h.0, (let a = h.1 in let b = first.0 in cc), h.2)
      | inr h ↦ inr (h.0, let t' = h.1 in omega arith)
    ]

-- the bytes behind the head of a text
pub behind_head : (skips all_skips : List (ℕ × Skip)) (lines all_lines : List Line) (rest : List ℕ) → log_text all_skips all_lines ≡ log_text skips lines ++ rest → body all_skips all_lines ≡ body skips lines ++ rest
behind_head skips all_skips lines all_lines rest e = append_cancel_left head_text _ _ (e ∙ append_assoc head_text (body skips lines) rest)

-- two texts of the grammar, one of which begins with the other
pub text_ahead : (skips all_skips : List (ℕ × Skip)) (lines all_lines : List Line) (rest : List ℕ) → IsLog skips lines → IsLog all_skips all_lines → log_text all_skips all_lines ≡ log_text skips lines ++ rest → Ahead skips lines all_skips all_lines rest
text_ahead skips all_skips lines all_lines rest f w e =
    log_ahead skips all_skips lines all_lines rest
    (recursion_from_All IsSkipped skips f.each_skip) (recursion_from_All IsSkipped all_skips w.each_skip)
    (recursion_from_All IsLine lines f.each_line) (recursion_from_All IsLine all_lines w.each_line)
    (behind_head skips all_skips lines all_lines rest e)

-- nothing comes next where no byte is left
pub nothing_next : (lines : List Line) → GoesOn lines [] → ⊥
nothing_next lines (inl n) = let there = line_there n.0 n.1 n.2.0 in let same = ap line_front n.2.1 in let none = line_none in cc
nothing_next lines (inr n) = let there = skip_text_there n.1.0 n.1.1 n.1.2.0 in let same = ap skip_front n.1.2.1 in let none = skip_none in cc

-- a text of the grammar is that of one list of skipped records and one of lines
pub one_log : (skips all_skips : List (ℕ × Skip)) (lines all_lines : List Line) → IsLog skips lines → IsLog all_skips all_lines → log_text all_skips all_lines ≡ log_text skips lines → (skips ≡ all_skips) × (lines ≡ all_lines)
one_log skips all_skips lines all_lines f w e =
    elim (text_ahead skips all_skips lines all_lines [] f w (e ∙ sym (append-nil (log_text skips lines)))) [
      | inl h ↦ (h.1, h.2)
      | inr h ↦ absurd (nothing_next lines h.0)
    ]

-- no line of a text of the grammar is bad, up to the limit
pub none_bad : (number : ℕ) (all_skips : List (ℕ × Skip)) (all_lines : List Line) → IsLog all_skips all_lines → line_count all_skips all_lines ≤ most_lines → IsFirstBad number (log_text all_skips all_lines) → ⊥
none_bad number all_skips all_lines w limit (inl h) = h.1 (body all_skips all_lines) refl
none_bad number all_skips all_lines w limit (inr h) =
    let b = h.3 in
    elim (text_ahead h.0 all_skips h.1 all_lines h.2 b.numbers w b.front) [
      | inl same ↦ b.more same.0
      | inr on ↦ elim b.outside [
        | inl out ↦ out on.0
        | inr past ↦ let t = on.1 in let c : line_count h.0 h.1 ≡ most_lines = past in absurd (omega arith)
      ]
    ]
