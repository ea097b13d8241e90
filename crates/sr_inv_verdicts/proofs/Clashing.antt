-- An opener that finds a word speaking to its key may be held: the place was reserved for a key that it clashes with, and wasn't cleared since.
use Rattle.std.proofs.Common.{◌≡◌, ℕ, ◌<◌, ◌&&◌, ◌||◌, ◌==◌, not, nat_lt, Bool, true, false, List, [], ◌∷◌, if◌then◌else◌, Some, None, Option, option_map, sym, refl, ap, ◌∙◌, arith}
use Rattle.std.proofs.lemmas.Bool.Decides.{nat_tests}
use Rattle.std.proofs.lemmas.Option.{same_Some}
use Rattle.std.specs.List.{list_any}
use Rattle.sr_base.proofs.Sameness.{same_key-sym, same_place-true}
use Rattle.sr_base.specs.Key.{KeyView, same_key}
use Rattle.sr_base.specs.Layout.{LayoutView}
use Rattle.sr_base.specs.Place.{same_place}
use Rattle.sr_base.specs.declared.place.Place.{Place}
use Rattle.sr_base.specs.declared.place.Place.TheVariants.{Row, Slot}
use Rattle.sr_base.specs.declared.shape.Shape.{Shape}
use Rattle.sr_hash.specs.Clash.{clashes}
use Rattle.sr_hash.specs.Uses.{bucket_of, is_place_of}
use Rattle.sr_inv_facts.specs.InCauses.{AllMeet}
use Rattle.sr_inv_facts.specs.InTicks.{AllOutBefore}
use Rattle.sr_inv_order.proofs.Rising.{and_false, and_true, not_false, or_false}
use Rattle.sr_inv_verdicts.proofs.MoreLines.{any_more, or_second}
use Rattle.sr_law.specs.Held.{clears_between, is_between, matches_entry, may_clash, reserves_against}
use Rattle.sr_law.specs.Order.{meets_order}
use Rattle.sr_law.specs.Retire.{EndingPacket}
use Rattle.sr_law.specs.Rising.{after_last, rises}
use Rattle.sr_law.specs.Setup.{SetupView}
use Rattle.sr_law.specs.Taken.{now_placed, taken, taken_after}
use Rattle.sr_law.specs.Ticks.{out_of}
use Rattle.sr_law.specs.declared.line.Line.{Line}
use Rattle.sr_law.specs.declared.taking.Taking.{Taking}
use Rattle.sr_machine.specs.Reads.{stands_for}
use Rattle.sr_law.specs.declared.line.Line.TheVariants as line

-- ---- lines in order fall from the newest on

abbrev pub Descends : List Line → Type 0
Descends [] = Unit {0}
Descends (l ∷ before) = AllOutBefore (out_of l) before × Descends before

parts : (a b : Bool) → (a && b) ≡ true → (a ≡ true) × (b ≡ true)
parts true b e = (refl, e)
parts false b e = cc

lower_all : (low high : ℕ) → low < high → (lines : List Line) → AllOutBefore low lines → AllOutBefore high lines
lower_all low high h [] a = tt
lower_all low high h (l ∷ rest) a = (omega (arith, a.0, h), lower_all low high h rest a.1)

ordered_last : (setup : SetupView) (before : List Line) (l : Line) → meets_order setup before l ≡ true → after_last before l ≡ true
unfolding meets_order rises
ordered_last setup before l h = (parts _ _ (parts _ _ (parts _ _ (parts _ _ (parts _ _ (parts _ _ (parts _ _ h).0).0).0).1).0).0).0

pub descends : (setup : SetupView) (endings : List EndingPacket) (lines : List Line) → AllMeet setup endings lines → Descends lines
descends setup endings [] a = tt
descends setup endings (l ∷ []) a = (tt, tt)
descends setup endings (l ∷ m ∷ before) a =
    let rest = descends setup endings (m ∷ before) a.1 in
    let low : out_of m < out_of l = let t = ordered_last setup (m ∷ before) l a.0.order in grind (arith, nat_tests) in
    ((low, lower_all (out_of m) (out_of l) low before rest.0), rest)

-- ---- a place that is taken by the lines

-- the line reserved this place for an entry that this key matches, and the entry wasn't cleared before the tick
abbrev Reserves : Shape → List Line → KeyView → ℕ → Place → Line → Bool
Reserves shape all c start place (line.Reserved out key where_to) =
    same_place where_to place && (matches_entry shape c key where_to && not (list_any (clears_between key where_to out start) all))
Reserves shape all c start place l = false

-- a line that clears no such place changes nothing
clears_other : (key : KeyView) (at place : Place) (low high : ℕ) (x : Line) → same_place at place ≡ true
    → ((out : ℕ) (own : KeyView) (where_to : Place) → x ≡ line.Cleared out own where_to → same_place where_to place ≡ false)
    → clears_between key at low high x ≡ false
clears_other key at place low high (line.Cleared out own where_to) same other =
    let here : at ≡ place = same_place-true at place same in
    let apart : same_place where_to at ≡ false = ap (same_place where_to) here ∙ other out own where_to refl in
    and_false (same_key own key && same_place where_to at) (is_between low high out) (two (same_key own key) (same_place where_to at) apart)
  where
    two : (a b : Bool) → b ≡ false → (a && b) ≡ false
    two true b e = e
    two false b e = refl
clears_other key at place low high x same other = refl

reserves_more : (shape : Shape) (x : Line) (all : List Line) (c : KeyView) (start : ℕ) (place : Place)
    → ((out : ℕ) (own : KeyView) (where_to : Place) → x ≡ line.Cleared out own where_to → same_place where_to place ≡ false) → (l : Line)
    → Reserves shape all c start place l ≡ true → Reserves shape (x ∷ all) c start place l ≡ true
reserves_more shape x all c start place other (line.Reserved out key where_to) h =
    let two = parts (same_place where_to place) _ h in
    and_true (same_place where_to place) _ two.0
    (ap (λ b. matches_entry shape c key where_to && not (b || list_any (clears_between key where_to out start) all)) (clears_other key where_to place out start x two.0 other) ∙ two.1)
reserves_more shape x all c start place other l h = cc

-- what is out before a Reserved line clears nothing after it
none_clears : (key : KeyView) (place : Place) (out start : ℕ) (lines : List Line) → AllOutBefore out lines
    → list_any (clears_between key place out start) lines ≡ false
none_clears key place out start [] a = refl
none_clears key place out start (l ∷ rest) a =
    or_false (clears_between key place out start l) (list_any (clears_between key place out start) rest) (at l a.0) (none_clears key place out start rest a.1)
  where
    two : (a b : Bool) → b ≡ false → (a && b) ≡ false
    two true b e = e
    two false b e = refl

    at : (m : Line) → out_of m < out → clears_between key place out start m ≡ false
    at (line.Cleared o own where_to) low =
        two (same_key own key && same_place where_to place) (is_between out start o) (and_false (nat_lt out o) (nat_lt o start) (grind (arith, nat_tests)))
    at m low = refl

taken_reserves : (shape : Shape) (c : KeyView) (start : ℕ) (place : Place) (lines : List Line) (t : Taking) → Descends lines
    → taken lines place ≡ Some t → matches_entry shape c t.key place ≡ true
    → list_any (Reserves shape lines c start place) lines ≡ true
taken_reserves shape c start place [] t d e m = cc
taken_reserves shape c start place (x ∷ before) t d e m =
    at x d.0 e (λ t. taken_reserves shape c start place before t d.1)
  where
    -- the line doesn't clear the place: it stays as it was
    older : (y : Line) → ((out : ℕ) (own : KeyView) (where_to : Place) → y ≡ line.Cleared out own where_to → same_place where_to place ≡ false)
        → list_any (Reserves shape before c start place) before ≡ true
        → list_any (Reserves shape (y ∷ before) c start place) (y ∷ before) ≡ true
    older y other h =
        or_second (Reserves shape (y ∷ before) c start place y) (list_any (Reserves shape (y ∷ before) c start place) before)
        (any_more (Reserves shape before c start place) (Reserves shape (y ∷ before) c start place) (reserves_more shape y before c start place other) before h)

    reserved : (out : ℕ) (key : KeyView) (where_to : Place) (b : Bool) → same_place where_to place ≡ b → AllOutBefore out before
        → (if b then Some (record { key = key; placed = false }) else taken before place) ≡ Some t
        → ((t : Taking) → taken before place ≡ Some t → matches_entry shape c t.key place ≡ true → list_any (Reserves shape before c start place) before ≡ true)
        → list_any (Reserves shape (line.Reserved out key where_to ∷ before) c start place) (line.Reserved out key where_to ∷ before) ≡ true
    reserved out key where_to true q a g more =
        let own : key ≡ t.key = ap (λ z. z.key) (same_Some (record { key = key; placed = false }) t g) in
        let here : where_to ≡ place = same_place-true where_to place q in
        let matches : matches_entry shape c key where_to ≡ true =
        ap (λ k. matches_entry shape c k where_to) own ∙ (ap (matches_entry shape c t.key) here ∙ m) in
        let now : Reserves shape (line.Reserved out key where_to ∷ before) c start place (line.Reserved out key where_to) ≡ true =
        and_true (same_place where_to place) _ q
        (and_true (matches_entry shape c key where_to) _ matches (not_false (list_any (clears_between key where_to out start) before) (none_clears key where_to out start before a))) in
        ap (λ b. b || list_any (Reserves shape (line.Reserved out key where_to ∷ before) c start place) before) now
    reserved out key where_to false q a g more = older (line.Reserved out key where_to) (λ o k w r. cc) (more t g m)

    placed : (out : ℕ) (key : KeyView) (where_to : Place) (b : Bool)
        → (if b then option_map now_placed (taken before place) else taken before place) ≡ Some t
        → ((t : Taking) → taken before place ≡ Some t → matches_entry shape c t.key place ≡ true → list_any (Reserves shape before c start place) before ≡ true)
        → list_any (Reserves shape (line.Placed out key where_to ∷ before) c start place) (line.Placed out key where_to ∷ before) ≡ true
    placed out key where_to true g more = was (taken before place) refl g
      where
        was : (o : Option Taking) → taken before place ≡ o → option_map now_placed o ≡ Some t
            → list_any (Reserves shape (line.Placed out key where_to ∷ before) c start place) (line.Placed out key where_to ∷ before) ≡ true
        was None q r = cc
        was (Some w) q r =
            let own : w.key ≡ t.key = ap (λ z. z.key) (same_Some (now_placed w) t r) in
            older (line.Placed out key where_to) (λ o k z y. cc) (more w q (ap (λ k. matches_entry shape c k place) own ∙ m))
    placed out key where_to false g more = older (line.Placed out key where_to) (λ o k w r. cc) (more t g m)

    cleared : (out : ℕ) (key : KeyView) (where_to : Place) (b : Bool) → same_place where_to place ≡ b
        → (if b then None else taken before place) ≡ Some t
        → ((t : Taking) → taken before place ≡ Some t → matches_entry shape c t.key place ≡ true → list_any (Reserves shape before c start place) before ≡ true)
        → list_any (Reserves shape (line.Cleared out key where_to ∷ before) c start place) (line.Cleared out key where_to ∷ before) ≡ true
    cleared out key where_to true q g more = cc
    cleared out key where_to false q g more =
        older (line.Cleared out key where_to) (λ o k w r. ap (λ z. same_place z place) (sym (place_of r)) ∙ q) (more t g m)
      where
        place_of : {o : ℕ} {k : KeyView} {w : Place} → line.Cleared out key where_to ≡ line.Cleared o k w → where_to ≡ w
        place_of r = cc

    at : (y : Line) → AllOutBefore (out_of y) before → taken_after y place (taken before place) ≡ Some t
        → ((t : Taking) → taken before place ≡ Some t → matches_entry shape c t.key place ≡ true → list_any (Reserves shape before c start place) before ≡ true)
        → list_any (Reserves shape (y ∷ before) c start place) (y ∷ before) ≡ true
    at (line.Reserved out key where_to) a g more = reserved out key where_to (same_place where_to place) refl a g more
    at (line.Placed out key where_to) a g more = placed out key where_to (same_place where_to place) g more
    at (line.Cleared out key where_to) a g more = cleared out key where_to (same_place where_to place) refl g more
    at y a g more = older y (λ o k w r. cc) (more t g m)

-- a key that matches the entry of a place that is taken may clash, whenever its packet entered
pub taken_clash : (shape : Shape) (c : KeyView) (start : ℕ) (place : Place) (lines : List Line) (t : Taking) → Descends lines
    → taken lines place ≡ Some t → matches_entry shape c t.key place ≡ true
    → may_clash shape lines c start ≡ true
taken_clash shape c start place lines t d e m =
    any_more (Reserves shape lines c start place) (reserves_against shape lines c start) one lines (taken_reserves shape c start place lines t d e m)
  where
    one : (l : Line) → Reserves shape lines c start place l ≡ true → reserves_against shape lines c start l ≡ true
    one (line.Reserved out key where_to) h = (parts (same_place where_to place) _ h).1
    one l h = cc

-- ---- what a key matches

-- two keys of one place, of which the one's entry there is taken for the other's
pub stands_matches : (l : LayoutView) (place : Place) (key c : KeyView) → is_place_of l.shape key place ≡ true → is_place_of l.shape c place ≡ true
    → stands_for l place key c ≡ true
    → matches_entry l.shape c key place ≡ true
stands_matches l (Row row) key c a b h = same_key-sym key c ∙ h
stands_matches l (Slot way bucket cell) key c a b h =
    let own = parts _ _ (parts _ _ a).0 in
    let other = parts _ _ (parts _ _ b).0 in
    let tells = parts _ _ h in
    let mine : bucket ≡ bucket_of way key l.shape.buckets = alike bucket (bucket_of way key l.shape.buckets) own.1 in
    let its : bucket ≡ bucket_of way c l.shape.buckets = alike bucket (bucket_of way c l.shape.buckets) other.1 in
    and_true ((way == 1) || (way == 2)) (clashes l.shape way key c) own.0
    (and_true (key.vip == c.vip) _ tells.0
    (and_true (bucket_of way key l.shape.buckets == bucket_of way c l.shape.buckets) _ (same (bucket_of way key l.shape.buckets) (bucket_of way c l.shape.buckets) (sym mine ∙ its)) tells.1))
  where
    alike : (n m : ℕ) → (n == m) ≡ true → n ≡ m
    alike n m e = grind (arith, nat_tests)

    same : (n m : ℕ) → n ≡ m → (n == m) ≡ true
    same n m e = grind (arith, nat_tests)
