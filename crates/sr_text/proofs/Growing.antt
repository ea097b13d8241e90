-- A log that grows line by line.
use Rattle.std.proofs.Common.{◌≡◌, ◌≢◌, ℕ, ◌+◌, ◌<◌, ◌≤◌, Bool, true, List, [], ◌∷◌, ◌++◌, length, take, drop, Option, Some, None, Result, Ok, Err, false, refl, sym, ap, ◌∙◌, subst, inl, inr, append_assoc, arith}
use Rattle.std.proofs.Common.{◌==◌}
use Rattle.std.proofs.lemmas.Bool.{eqb-true}
use Rattle.std.proofs.lemmas.Bool.Decides.{nat_tests}
use Rattle.std.specs.List.{flat_map}
use Rattle.std.proofs.lemmas.List.{flat_map_more, length-append, take_at, take-append-le, take-append-drop, append-nil}
use Rattle.std.proofs.lemmas.List.Elements.{All-push}
use Rattle.sr_frame.specs.declared.skip.Skip.{Skip}
use Rattle.sr_io.specs.Window.{IsFilled, Pending, WindowView, new_window, passed_over}
use Rattle.sr_io.proofs.Reading.{pending_new}
use Rattle.sr_law.specs.declared.line.Line.{Line}
use Rattle.sr_text.specs.LineText.{head_text, line_text, skip_text, log_text}
use Rattle.sr_text.specs.Ranges.{IsLine}
use Rattle.sr_text.specs.Log.{IsLog, LineNext, SkipNext, GoesOn, IsFirstBad, IsRead, Reads, ReadsBack, line_count, most_lines}
use Rattle.sr_text.specs.Adding.{Adds, AddsTo, Bodies, Finds, Grows, Heads, TakesOne, Reached, Strays}
use Rattle.sr_text.specs.Fronts.{after_word}
use Rattle.sr_text.specs.declared.log_refusal.LogRefusal.{LogRefusal}
use Rattle.sr_text.specs.declared.log_refusal.LogRefusal.TheVariants.{BadLine, ReadFault, Memory}
use Rattle.sr_text.proofs.Words.{after_word_there, after_word_takes}
use Rattle.sr_text.proofs.Logs.{one_log, none_bad}
use Rattle.sr_text.proofs.Lengths.{line_length, skip_length}

pub empty : (l : List ℕ) → length l ≡ 0 → l ≡ []
empty [] e = refl
empty (x ∷ l) e = absurd (omega arith)

-- a line behind a log
pub log_line : (ss : List (ℕ × Skip)) (ls : List Line) (one : Line) → log_text ss (ls ++ one ∷ []) ≡ log_text ss ls ++ line_text one
log_line ss ls one =
    ap (λ (ys : List ℕ). head_text ++ ys) (sym (flat_map_more line_text (flat_map skip_text ss) ls one))
    ∙ sym (append_assoc head_text (flat_map skip_text ss ++ flat_map line_text ls) (line_text one))

pub with_line : (ss : List (ℕ × Skip)) (ls : List Line) (one : Line) → IsLine one → IsLog ss ls → IsLog ss (ls ++ one ∷ [])
with_line ss ls one h log = record { each_skip = log.each_skip; each_line = All-push IsLine ls one log.each_line h }

pub adds_plain : {E : Type 0} (r : Result Bool E) (old mid new : WindowView) (ss ts : List (ℕ × Skip)) (ls ms : List Line) → AddsTo line_text IsLine LineNext r mid new ls ms → mid ≡ old → ts ≡ ss → (ls ≡ [] → SkipNext old.unread → ⊥) → Adds r old new ss ls ts ms
adds_plain (Ok true) old mid new ss ts ls ms t same skips none =
    let counted = ap (λ (l : List (ℕ × Skip)). length l) skips in
    let added = ap (λ (l : List Line). length l) t.list in
    record {
      text = line_text t.one;
      used = ap (λ (w : WindowView). w.unread) (sym same) ∙ t.used;
      over = t.over ∙ ap (λ (w : WindowView). w.over) same;
      more = ap (λ (l : List Line). log_text ts l) t.list ∙ log_line ts ls t.one ∙ ap (λ (l : List (ℕ × Skip)). log_text l ls ++ line_text t.one) skips;
      numbers = λ log. subst (λ (l : List (ℕ × Skip)). IsLog l ms) (sym skips) (subst (λ (l : List Line). IsLog ss l) (sym t.list) (with_line ss ls t.one t.within log));
      count = omega (arith, length-append ls (t.one ∷ []));
    }
adds_plain (Ok false) old mid new ss ts ls ms t same skips none = (
  λ g. elim g [
    | inl n ↦ t.0 (subst (λ (w : WindowView). LineNext w.unread) (sym same) n)
    | inr p ↦ none p.0 p.1
  ],
  t.1 ∙ same,
  skips,
  t.2,
)
adds_plain (Err e) old mid new ss ts ls ms t same skips none = tt

-- what is next in all the bytes that are to come is next in a full window
pub front_of : (text more unread rest : List ℕ) → length text ≤ length unread → unread ++ rest ≡ text ++ more → unread ≡ text ++ drop (length text) unread
front_of text more unread rest h e =
    let taken : take (length text) unread ≡ text = sym (take-append-le (length text) unread rest h) ∙ ap (take (length text)) e ∙ take_at text more (length text) refl in
    sym (take-append-drop (length text) unread) ∙ ap (λ (ys : List ℕ). ys ++ drop (length text) unread) taken

pub full_line : (unread rest : List ℕ) → 200 ≤ length unread → LineNext (unread ++ rest) → LineNext unread
full_line unread rest h n =
    let short = line_length n.0 n.2.0 in
    (n.0, drop (length (line_text n.0)) unread, (n.2.0, front_of (line_text n.0) n.1 unread rest (omega arith) n.2.1))

pub full_skip : (unread rest : List ℕ) → 200 ≤ length unread → SkipNext (unread ++ rest) → SkipNext unread
full_skip unread rest h n =
    let short = skip_length n.0 n.2.0 in
    (n.0, drop (length (skip_text n.0)) unread, (n.2.0, front_of (skip_text n.0) n.1 unread rest (omega arith) n.2.1))

pub full_goes_on : (ls : List Line) (w : WindowView) (left : Option (List ℕ)) (bytes : List ℕ) → IsFilled w 200 → Pending w left bytes → GoesOn ls bytes → GoesOn ls w.unread
full_goes_on ls w left bytes (inl long) p g =
    elim (subst (GoesOn ls) p.whole g) [
      | inl n ↦ inl (full_line w.unread p.rest long n)
      | inr n ↦ inr (n.0, full_skip w.unread p.rest long n.1)
    ]
full_goes_on ls w left bytes (inr over) p g =
    subst (GoesOn ls) (p.whole ∙ ap (λ (ys : List ℕ). w.unread ++ ys) (p.none over) ∙ append-nil w.unread) g

pub none_left : (l m : List ℕ) (b : Bool) → l ≡ m → b ≡ (length l == 0) → b ≡ true → length m ≡ 0
none_left l m b e t h = let z = eqb-true (length l) 0 (sym t ∙ h) in omega (arith, ap (λ (x : List ℕ). length x) e)

pub some_left : (l m : List ℕ) (b : Bool) → l ≡ m → b ≡ (length l == 0) → b ≡ false → 0 < length m
some_left l m b e t h = let z = ap (λ (x : List ℕ). length x) e in grind (arith, nat_tests)

-- a window without bytes, once it is full, is the end
pub ended_here : (ss : List (ℕ × Skip)) (ls : List Line) (w : WindowView) (left : Option (List ℕ)) (bytes rest : List ℕ) → IsFilled w 200 → length w.unread ≡ 0 → bytes ≡ log_text ss ls ++ rest → Pending w left rest → (bytes ≡ log_text ss ls) × (left ≡ Some [])
ended_here ss ls w left bytes rest (inl long) e text p = absurd (omega arith)
ended_here ss ls w left bytes rest (inr over) e text p =
    let none = p.none over in
    let nothing : rest ≡ [] = empty _ (omega (arith, ap (λ (l : List ℕ). length l) p.whole, length-append w.unread p.rest, ap (λ (l : List ℕ). length l) none)) in
    (text ∙ ap (λ (ys : List ℕ). log_text ss ls ++ ys) nothing ∙ append-nil (log_text ss ls), p.told ∙ ap (λ (ys : List ℕ). Some ys) none)

-- a window with bytes isn't
pub not_ended : (w : WindowView) (left : Option (List ℕ)) (rest : List ℕ) → 0 < length w.unread → Pending w left rest → rest ≢ []
not_ended w left rest some p e = absurd (omega (arith, ap (λ (l : List ℕ). length l) (sym p.whole ∙ e), length-append w.unread p.rest))

-- a line more was read
pub reached_more : (old new : WindowView) (ss ts : List (ℕ × Skip)) (ls ms : List Line) (left : Option (List ℕ)) (bytes rest : List ℕ) → TakesOne old new ss ls ts ms → bytes ≡ log_text ss ls ++ rest → Pending old left rest → Reached ts ms new left bytes
reached_more old new ss ts ls ms left bytes rest t text p =
    let split : rest ≡ t.text ++ (new.unread ++ p.rest) = p.whole ∙ ap (λ (ys : List ℕ). ys ++ p.rest) t.used ∙ append_assoc t.text new.unread p.rest in
    record {
      rest = new.unread ++ p.rest;
      text = text ∙ ap (λ (ys : List ℕ). log_text ss ls ++ ys) split ∙ sym (append_assoc (log_text ss ls) t.text (new.unread ++ p.rest)) ∙ ap (λ (ys : List ℕ). ys ++ (new.unread ++ p.rest)) (sym t.more);
      pending = record { rest = p.rest; told = p.told; whole = refl; none = λ over. p.none (sym t.over ∙ over) };
    }

-- no line is next
pub strays_here : (ss ts : List (ℕ × Skip)) (ls ms : List Line) (w : WindowView) (left : Option (List ℕ)) (bytes rest : List ℕ) → IsFilled w 200 → 0 < length w.unread → (GoesOn ls w.unread → ⊥) → ts ≡ ss → ms ≡ ls → bytes ≡ log_text ss ls ++ rest → Pending w left rest → Strays ts ms bytes
strays_here ss ts ls ms w left bytes rest full some out es el text p = record {
  rest = rest;
  text = text ∙ ap (λ (l : List (ℕ × Skip)). log_text l ls ++ rest) (sym es) ∙ ap (λ (l : List Line). log_text ts l ++ rest) (sym el);
  more = not_ended w left rest some p;
  outside = λ g. out (full_goes_on ls w left rest full p (subst (λ (l : List Line). GoesOn l rest) el g));
}

-- the line after these is bad
pub bad_here : (number : ℕ) (ss ts : List (ℕ × Skip)) (ls ms : List Line) (bytes : List ℕ) → IsLog ss ls → number ≡ 1 + line_count ss ls → number ≤ most_lines + 1 → ts ≡ ss → ms ≡ ls → Strays ts ms bytes → IsFirstBad number bytes
bad_here number ss ts ls ms bytes log next within es el s =
    let a = ap (λ (l : List (ℕ × Skip)). length l) es in
    let b = ap (λ (l : List Line). length l) el in
    inr (
      ts,
      ms,
      s.rest,
      record {
        numbers = subst (λ (l : List (ℕ × Skip)). IsLog l ms) (sym es) (subst (λ (l : List Line). IsLog ss l) (sym el) log);
        front = s.text;
        more = s.more;
        next = omega arith;
        within = omega arith;
        outside = inl s.outside;
      },
    )

-- a line wasn't read
pub body_not : (why : LogRefusal) (number : ℕ) (ss ts : List (ℕ × Skip)) (ls ms : List Line) (w : WindowView) (left : Option (List ℕ)) (bytes : List ℕ) → IsLog ss ls → number ≡ 1 + line_count ss ls
    → number ≤ most_lines + 1 → Grows (Err why) number ss ls ts ms → Finds (Err why) ts ms w left bytes → Bodies (Err why) ts ms left bytes
body_not (BadLine bad) number ss ts ls ms w left bytes log next within grows finds =
    subst (λ n. IsFirstBad n bytes) (sym grows.0) (bad_here number ss ts ls ms bytes log next within grows.1 grows.2 finds)
body_not ReadFault number ss ts ls ms w left bytes log next within grows finds = tt
body_not Memory number ss ts ls ms w left bytes log next within grows finds = tt

-- the line after the last that a log may have
pub past_here : (ss : List (ℕ × Skip)) (ls : List Line) (w : WindowView) (left : Option (List ℕ)) (bytes : List ℕ) → IsLog ss ls → line_count ss ls ≡ most_lines → 0 < length w.unread → (r : Reached ss ls w left bytes) → IsFirstBad (most_lines + 1) bytes
past_here ss ls w left bytes log count some r =
    inr (
      ss,
      ls,
      r.rest,
      record {
        numbers = log;
        front = r.text;
        more = not_ended w left r.rest some r.pending;
        next = omega arith;
        within = omega arith;
        outside = inr count;
      },
    )

-- the head
pub no_head : (w : WindowView) (left : Option (List ℕ)) (bytes : List ℕ) → IsFilled w 200 → None ≡ after_word head_text w.unread → Pending w left bytes → (rest : List ℕ) → bytes ≡ head_text ++ rest → ⊥
no_head w left bytes (inl long) none p rest e =
    let front = front_of head_text rest w.unread p.rest (omega arith) (sym p.whole ∙ e) in
    let there = after_word_there head_text (drop 11 w.unread) in
    let same = ap (after_word head_text) front in
    cc
no_head w left bytes (inr over) none p rest e =
    let all = p.whole ∙ ap (λ (ys : List ℕ). w.unread ++ ys) (p.none over) ∙ append-nil w.unread in
    let there = after_word_there head_text rest in
    let same = ap (after_word head_text) (sym all ∙ e) in
    cc

pub head_here : (w new : WindowView) (left : Option (List ℕ)) (bytes rest : List ℕ) → Some rest ≡ after_word head_text w.unread → new ≡ passed_over 11 w → Pending w left bytes → (r : List ℕ) × ((bytes ≡ head_text ++ r) × Pending new left r)
head_here w new left bytes rest some is p =
    let at = after_word_takes head_text w.unread rest (sym some) in
    let tail = ap (drop 11) at in
    let unread : new.unread ≡ rest = ap (λ (z : WindowView). z.unread) is ∙ tail in (
      rest ++ p.rest,
      (
        p.whole ∙ ap (λ (ys : List ℕ). ys ++ p.rest) at,
        record { rest = p.rest; told = p.told; whole = ap (λ (ys : List ℕ). ys ++ p.rest) (sym unread); none = λ over. p.none (sym (ap (λ (z : WindowView). z.over) is) ∙ over) },
      ),
    )

-- a new window
pub window_begins : (room : ℕ) (w : WindowView) (left : Option (List ℕ)) (bytes : List ℕ) → w ≡ new_window room → left ≡ Some bytes → Pending w left bytes
window_begins room w left bytes e told = subst (λ (v : WindowView). Pending v left bytes) (sym e) (pending_new room left bytes told)

pub start_reached : (w : WindowView) (left : Option (List ℕ)) (bytes : List ℕ) → (r : List ℕ) × ((bytes ≡ head_text ++ r) × Pending w left r) → Reached [] [] w left bytes
start_reached w left bytes h = record { rest = h.0; text = h.1.0; pending = h.1.1 }

-- what was refused before the body
pub head_reads : {L : Type 0} (skips : L → List (ℕ × Skip)) (lines : L → List Line) (why : LogRefusal) (w : WindowView) (left : Option (List ℕ)) (bytes : List ℕ) → Heads (Err why) w left bytes → Reads skips lines (Err why) bytes left
head_reads skips lines (BadLine number) w left bytes h = inl h
head_reads skips lines ReadFault w left bytes h = tt
head_reads skips lines Memory w left bytes h = tt

pub body_reads : {L : Type 0} (skips : L → List (ℕ × Skip)) (lines : L → List Line) (why : LogRefusal) (ss : List (ℕ × Skip)) (ls : List Line) (left : Option (List ℕ)) (bytes : List ℕ) → Bodies (Err why) ss ls left bytes → Reads skips lines (Err why) bytes left
body_reads skips lines (BadLine number) ss ls left bytes h = h
body_reads skips lines ReadFault ss ls left bytes h = tt
body_reads skips lines Memory ss ls left bytes h = tt

-- what was printed is read back
pub reads_back : {L : Type 0} (skips : L → List (ℕ × Skip)) (lines : L → List Line) (r : Result L LogRefusal) (ss : List (ℕ × Skip)) (ls : List Line) (left : Option (List ℕ)) → IsLog ss ls → line_count ss ls ≤ most_lines
    → Reads skips lines r (log_text ss ls) left → IsRead skips lines r → ReadsBack skips lines r ss ls
reads_back skips lines (Ok log) ss ls left w limit h i = one_log (skips log) ss (lines log) ls i.0 w h.0
reads_back skips lines (Err (BadLine number)) ss ls left w limit h i = none_bad number ss ls w limit h
reads_back skips lines (Err ReadFault) ss ls left w limit h i = tt
reads_back skips lines (Err Memory) ss ls left w limit h i = tt
