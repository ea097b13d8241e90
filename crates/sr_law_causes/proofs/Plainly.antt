-- Of a lawful list: a version is given only when nothing holds it, and each packet has its one line and its one answer.
use Rattle.std.proofs.Common.{◌≡◌, ℕ, ◌+◌, ◌<◌, ◌≤◌, ◌==◌, ◌&&◌, ◌||◌, not, nat_lt, Bool, true, false, cond, List, [], ◌∷◌, ◌++◌, length, take, drop, reverse, get_or, count_by, Option, None, Some, if◌then◌else◌, refl, sym, ap, ◌∙◌, subst, arith}
use Rattle.std.proofs.lemmas.Bool.{and_parts, eqb-true, eq-eqb, or_parts, not-true, true≢false}
use Rattle.std.proofs.lemmas.Bool.Decides.{nat_tests}
use Rattle.std.proofs.lemmas.List.{length-reverse, length-take, reverse-append, take-append-drop}
use Rattle.std.proofs.lemmas.List.Folds.{list_any-append}
use Rattle.std.proofs.lemmas.List.Sums.{sum_by-append, sum_by-cons}
use Rattle.std.proofs.lemmas.Option.{get_or_from_slice_get, slice_get_within}
use Rattle.std.specs.List.{AllByRecursion, list_all, list_any}
use Rattle.std.specs.Option.{option_or}
use Rattle.std.specs.Prelude.{option_to_list}
use Rattle.sr_base.proofs.Sameness.{same_key-true}
use Rattle.sr_base.specs.Key.{KeyView, same_key}
use Rattle.sr_base.specs.declared.kind.Kind.TheVariants.{Opener, Carry, Ending}
use Rattle.sr_base.specs.declared.packet.Packet.{Packet}
use Rattle.sr_law.proofs.Clauses.{meets}
use Rattle.sr_law.proofs.Newest.{newest_more}
use Rattle.sr_law.proofs.Told.{count_more}
use Rattle.sr_law.specs.Final.{all_held_answered, answers, answers_rightly, held_is_answered, is_answered, is_as_often, meets_final, packet_by, packets_of, same_packet, same_packets}
use Rattle.sr_law.specs.Full.{held_count}
use Rattle.sr_law.specs.Given.{has_version, last_given}
use Rattle.sr_law.specs.Number.{holds_version, is_held_open, is_in_use, meets_number, opened_with}
use Rattle.sr_law.specs.Opening.{opened, opened_by, opening, retires}
use Rattle.sr_law.specs.Setup.{SetupView}
use Rattle.sr_law.specs.Ticks.{key_of, lines_before}
use Rattle.sr_law.specs.declared.line.Line.{Line}
use Rattle.sr_law.specs.declared.opening.Opening.{Opening}
use Rattle.sr_law.specs.declared.verdict.Verdict.{Verdict}
use Rattle.sr_law_causes.specs.Laws.{PacketsAreFinal, VersionsAreGivenFree}
use Rattle.sr_law_causes.specs.Plain.{AreOnce, EachHasOneLine, HeldHaveOneAnswer, IsAnswered, IsFree, tells_of}
use Rattle.sr_law.specs.declared.line.Line.TheVariants as line
use Rattle.sr_law.specs.declared.verdict.Verdict.TheVariants as verdict

-- ---- versions

or_left : (a b : Bool) → a ≡ true → (a || b) ≡ true
or_left true b h = refl
or_left false b h = cc

or_right : (a b : Bool) → b ≡ true → (a || b) ≡ true
or_right true b h = refl
or_right false b h = h

module _ (test : Option KeyView → Bool) (key : KeyView) (passes : test (Some key) ≡ true) where
  same_passes : (other : KeyView) (out : ℕ) (v : Verdict) (o : Opening) → (if same_key other key then opened out v else None) ≡ Some o → test (Some other) ≡ true
  same_passes other out v o e = at (same_key other key) refl e
    where
      at : (b : Bool) → same_key other key ≡ b → (if b then opened out v else None) ≡ Some o → test (Some other) ≡ true
      at true s e = subst (λ k. test (Some k) ≡ true) (sym (same_key-true other key s)) passes
      at false s e = cc

  own_passes : (l : Line) (o : Opening) → opened_by l key ≡ Some o → test (key_of l) ≡ true
  own_passes (line.Packet number entered out pipe other Opener v) o e = same_passes other out v o e
  own_passes (line.Packet number entered out pipe other Carry v) o e = cc
  own_passes (line.Packet number entered out pipe other Ending v) o e = cc
  own_passes (line.Answer out pipe nth other v) o e = same_passes other out v o e
  own_passes l o e = cc

  -- an open connection has a line
  has_line : (lines : List Line) (o : Opening) → opening lines key ≡ Some o → list_any (λ l. test (key_of l)) lines ≡ true
  has_line [] o e = cc
  has_line (l ∷ rest) o e = at (retires l key) (opening rest key) refl (has_line rest) e
    where
      at : (b : Bool) (older : Option Opening) → opening rest key ≡ older
          → ((p : Opening) → opening rest key ≡ Some p → list_any (λ l. test (key_of l)) rest ≡ true)
          → (if b then None else option_or older (opened_by l key)) ≡ Some o
          → (test (key_of l) || list_any (λ l. test (key_of l)) rest) ≡ true
      at true older is more e = cc
      at false (Some older) is more e = or_right (test (key_of l)) _ (more older is)
      at false None is more e = or_left (test (key_of l)) _ (own_passes l o e)

free_of : (before : List Line) (vip version : ℕ) → is_in_use before vip version ≡ false → IsFree before vip version
free_of before vip version e =
    let parts = or_parts (has_version (last_given before vip) version) (is_held_open before vip version) e in record {
      last = λ giving is same. true≢false (sym (eq-eqb giving.version version same) ∙ subst (λ o. has_version o version ≡ false) is parts.0);
      held = λ key o own is same. true≢false (sym (found key o own is same) ∙ parts.1);
    }
  where
    found : (key : KeyView) (o : Opening) → key.vip ≡ vip → opening before key ≡ Some o → o.version ≡ version → is_held_open before vip version ≡ true
    found key o own is same =
        has_line (holds_version before vip version) key (holds key o own is same) before o is
      where
        holds : (key : KeyView) (o : Opening) → key.vip ≡ vip → opening before key ≡ Some o → o.version ≡ version
            → ((key.vip == vip) && opened_with version (opening before key)) ≡ true
        holds key o own is same = rw (is, eq-eqb key.vip vip own, eq-eqb o.version version same) refl

late_number : (setup : SetupView) (before : List Line) (out vip version pool : ℕ) → length setup.pools ≤ length before
    → meets_number setup before (line.Given out vip version pool) ≡ true → is_in_use before vip version ≡ false
unfolding meets_number
late_number setup before out vip version pool late m =
    let not_first : nat_lt (length before) (length setup.pools) ≡ false = grind (arith, nat_tests, late) in
    let here : (nat_lt version setup.shape.versions && not (is_in_use before vip version)) ≡ true =
    subst (λ b. (b || (nat_lt version setup.shape.versions && not (is_in_use before vip version))) ≡ true) not_first m in
    not-true (is_in_use before vip version) (and_parts _ _ here).1

pub versions_free : VersionsAreGivenFree
versions_free setup endings lines met i out vip version pool late at =
    let before = lines_before i lines in
    let within : i < length lines = slice_get_within lines i (line.Given out vip version pool) at in
    let long : length before ≡ i = length-reverse (take i lines) ∙ (length-take i lines ∙ omega (arith, within)) in
    let m = meets setup endings before (line.Given out vip version pool) (met i (line.Given out vip version pool) at) in
    free_of before vip version (late_number setup before out vip version pool (omega (arith, long, late)) m.number)

-- ---- the other way round

count_reverse : (test : Line → Bool) (lines : List Line) → count_by test (reverse lines) ≡ count_by test lines
count_reverse test [] = refl
count_reverse test (l ∷ rest) =
    let turned = ap (count_by test) (reverse-append (l ∷ []) rest) in
    let parted = sum_by-append (λ l. cond {A = ℕ} (test l) 1 0) (reverse rest) (l ∷ []) in
    let alone = sum_by-cons (λ l. cond {A = ℕ} (test l) 1 0) l [] in
    let whole = sum_by-cons (λ l. cond {A = ℕ} (test l) 1 0) l rest in
    omega (arith, turned, parted, alone, whole, count_reverse test rest)

last_first : (a b : Bool) → (a || (b || false)) ≡ (b || a)
last_first true true = refl
last_first true false = refl
last_first false true = refl
last_first false false = refl

any_reverse : (test : Line → Bool) (lines : List Line) → list_any test (reverse lines) ≡ list_any test lines
any_reverse test [] = refl
any_reverse test (l ∷ rest) =
    ap (list_any test) (reverse-append (l ∷ []) rest)
    ∙ (list_any-append test (reverse rest) (l ∷ [])
    ∙ (last_first (list_any test (reverse rest)) (test l) ∙ ap (λ b. test l || b) (any_reverse test rest)))

-- ---- packets

one_told : (packet : Packet) (o : Option Packet) → count_by (same_packet packet) (option_to_list o) ≡ cond (elim o as (λ o. Bool) [
  | None ↦ false
  | Some told ↦ same_packet packet told
]) 1 0
one_told packet None = refl
one_told packet (Some told) = sum_by-cons (λ p. cond {A = ℕ} (same_packet packet p) 1 0) told [] ∙ omega arith

told_count : (packet : Packet) (lines : List Line) → count_by (same_packet packet) (packets_of lines) ≡ count_by (tells_of packet) lines
told_count packet [] = refl
told_count packet (l ∷ rest) =
    let more = count_more (same_packet packet) l rest in
    let one = one_told packet (packet_by l) in
    let whole = sum_by-cons (λ l. cond {A = ℕ} (tells_of packet l) 1 0) l rest in
    omega (arith, more, one, whole, told_count packet rest)

module _ (setup : SetupView) (lines : List Line) where
  abbrev all : List Line
  all = reverse lines

  abbrev Parts : Type 0
  Parts = (same_packets (packets_of all) setup.packets ≡ true) × (all_held_answered all all ≡ true)

  parts_of : meets_final setup all ≡ true → Parts
  unfolding meets_final
  parts_of m =
      let held = (and_parts _ _ m).0 in
      ((and_parts _ _ (and_parts _ _ held).0).1, (and_parts _ _ held).1)

  each_one : (packets : List Packet) → list_all (is_as_often (packets_of all) setup.packets) packets ≡ true
      → AllByRecursion (λ packet. count_by (same_packet packet) setup.packets ≡ 1) packets
      → EachHasOneLine packets lines
  unfolding is_as_often
  each_one [] h once = tt
  each_one (packet ∷ rest) h once =
      let parts = and_parts (count_by (same_packet packet) (packets_of all) == count_by (same_packet packet) setup.packets)
      (list_all (is_as_often (packets_of all) setup.packets) rest) h in
      let same = eqb-true (count_by (same_packet packet) (packets_of all)) (count_by (same_packet packet) setup.packets) parts.0 in
      (omega (arith, same, once.0, told_count packet all, count_reverse (tells_of packet) lines), each_one rest parts.1 once.1)

  pub one_line : meets_final setup all ≡ true → AreOnce setup.packets → EachHasOneLine setup.packets lines
  one_line m once = each_one setup.packets (and_parts _ _ (parts_of m).0).1 once

  -- ---- answers

  later_answered : (xs ys : List Line) → all_held_answered all (xs ++ ys) ≡ true → all_held_answered all ys ≡ true
  later_answered [] ys h = h
  later_answered (x ∷ xs) ys h = later_answered xs ys (and_parts _ _ h).1

  answered : (pipe nth : ℕ) (key : KeyView) (entered : ℕ) → is_answered all pipe nth key entered ≡ true → IsAnswered lines pipe nth key entered
  unfolding is_answered
  answered pipe nth key entered h =
      let parts = and_parts (count_by (answers pipe nth) all == 1) (list_any (answers_rightly pipe nth key entered) all) h in record {
        once = sym (count_reverse (answers pipe nth) lines) ∙ eqb-true (count_by (answers pipe nth) all) 1 parts.0;
        own = sym (any_reverse (answers_rightly pipe nth key entered) lines) ∙ parts.1;
      }

  pub one_answer : meets_final setup all ≡ true → HeldHaveOneAnswer lines
  one_answer m i number entered out pipe key kind why at =
      let d = line.Packet number entered out pipe key kind (verdict.Held why) in
      let within : i < length lines = slice_get_within lines i d at in
      let parted : all ≡ reverse (drop (i + 1) lines) ++ reverse (take (i + 1) lines) =
      ap reverse (sym (take-append-drop (i + 1) lines)) ∙ reverse-append (take (i + 1) lines) (drop (i + 1) lines) in
      let first = later_answered (reverse (drop (i + 1) lines)) (reverse (take (i + 1) lines)) (subst (λ ls. all_held_answered all ls ≡ true) parted (parts_of m).1) in
      let here : all_held_answered all (get_or lines i d ∷ lines_before i lines) ≡ true = subst (λ ls. all_held_answered all ls ≡ true) (newest_more lines i d within) first in
      let own : held_is_answered all d (lines_before i lines) ≡ true =
      subst (λ l. held_is_answered all l (lines_before i lines) ≡ true) (get_or_from_slice_get lines i d d at) (and_parts _ _ here).0 in
      answered pipe (1 + held_count pipe (lines_before i lines)) key entered own

pub final_lines : PacketsAreFinal
final_lines setup lines lawful = (one_line setup lines lawful.1, one_answer setup lines lawful.1)
