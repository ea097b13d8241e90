-- A place that is taken and placed by the lines is one where a Placed line of its key stands.
use Rattle.std.proofs.Common.{◌≡◌, ℕ, suc, ◌&&◌, ◌||◌, inl, inr, not, is_none, nat_lt, Bool, true, false, List, [], ◌∷◌, length, Some, None, Option, option_map, if◌then◌else◌, sym, refl, ap, ◌∙◌, true≢false, arith}
use Rattle.std.proofs.lemmas.Bool.{and_parts}
use Rattle.std.proofs.lemmas.Bool.Decides.{nat_tests}
use Rattle.std.proofs.lemmas.Option.{same_Some}
use Rattle.std.specs.List.{list_any}
use Rattle.sr_base.proofs.Sameness.{same_key-true, same_key-self, same_place-self, same_place-true}
use Rattle.sr_base.specs.Key.{KeyView, same_key}
use Rattle.sr_base.specs.Place.{same_place}
use Rattle.sr_base.specs.declared.place.Place.{Place}
use Rattle.sr_inv_facts.specs.InCauses.{AllMeet}
use Rattle.sr_inv_facts.specs.Readings.{In}
use Rattle.sr_inv_quiet.proofs.SweepLines.{order_parts}
use Rattle.sr_inv_settled.specs.Used.{stood}
use Rattle.sr_law.specs.Retire.{EndingPacket}
use Rattle.sr_law.specs.Settled.{standing}
use Rattle.sr_law.specs.Setup.{SetupView}
use Rattle.sr_law.specs.Taken.{keeps_places, may_place, now_placed, taken}
use Rattle.sr_law.specs.declared.line.Line.{Line}
use Rattle.sr_law.specs.declared.taking.Taking.{Taking}
use Rattle.sr_law.specs.declared.line.Line.TheVariants as line

-- the place is none of these
abbrev pub IsNoneOf : Place → List Place → Type 0
IsNoneOf place cleared = list_any (same_place place) cleared ≡ false

-- the key has the place, and was placed there
abbrev pub HasPlaced : List Line → Place → KeyView → Type 0
HasPlaced lines place key = taken lines place ≡ Some (record { key = key; placed = true })

-- two places are one or aren't, in either order
turned : (a b : Place) → same_place a b ≡ false → same_place b a ≡ false
turned a b q = at (same_place b a) refl
  where
    at : (t : Bool) → same_place b a ≡ t → same_place b a ≡ false
    at false r = r
    at true r =
        absurd (true≢false (sym (same_place-self b) ∙ (ap (λ z. same_place z b) (same_place-true b a r) ∙ q)))

module _ (setup : SetupView) (endings : List EndingPacket) where
  -- the key of a Placed line has its place
  own_key : (before : List Line) (key : KeyView) (o : Option Taking) (has : KeyView) → may_place key o ≡ true
      → option_map now_placed o ≡ Some (record { key = has; placed = true })
      → has ≡ key
  own_key before key None has m e = cc
  own_key before key (Some t) has m e =
      let is : record { key = t.key; placed = true } ≡ record { key = has; placed = true } =
      same_Some (record { key = t.key; placed = true }) (record { key = has; placed = true }) e in
      sym (ap (λ z. z.key) is) ∙ same_key-true t.key key (and_parts (same_key t.key key) (not t.placed) m).0

  pub stands : (lines : List Line) → AllMeet setup endings lines → (place : Place) (key : KeyView) (cleared : List Place)
      → HasPlaced lines place key
      → IsNoneOf place cleared
      → nat_lt 0 (length (standing key cleared lines)) ≡ true
  unfolding keeps_places
  stands [] m place key cleared e n = cc
  stands (line.Reserved out of at ∷ before) m place key cleared e n =
      by (same_place at place) (λ h. stands before m.1 place key cleared h n) e
    where
      by : (b : Bool) → (HasPlaced before place key → nat_lt 0 (length (standing key cleared before)) ≡ true)
          → (if b then Some (record { key = of; placed = false }) else taken before place) ≡ Some (record { key = key; placed = true })
          → nat_lt 0 (length (standing key cleared before)) ≡ true
      by true more h =
          let is : record { key = of; placed = false } ≡ record { key = key; placed = true } =
          same_Some (record { key = of; placed = false }) (record { key = key; placed = true }) h in
          absurd (true≢false (sym (ap (λ z. z.placed) is)))
      by false more h = more h
  stands (line.Placed out of at ∷ before) m place key cleared e n =
      by (same_place at place) refl (λ h. stands before m.1 place key cleared h n) e
    where
      rest : List ℕ
      rest = standing key cleared before

      some : (n : ℕ) → nat_lt 0 (suc n) ≡ true
      some n = grind (arith, nat_tests)

      here : (b : Bool) → b ≡ true → nat_lt 0 (length (if b then out ∷ rest else rest)) ≡ true
      here true q = some (length rest)
      here false q = cc

      more : (b : Bool) → nat_lt 0 (length rest) ≡ true → nat_lt 0 (length (if b then out ∷ rest else rest)) ≡ true
      more true q = some (length rest)
      more false q = q

      by : (b : Bool) → same_place at place ≡ b → (HasPlaced before place key → nat_lt 0 (length rest) ≡ true)
          → (if b then option_map now_placed (taken before place) else taken before place) ≡ Some (record { key = key; placed = true })
          → nat_lt 0 (length (if same_key of key && not (list_any (same_place at) cleared) then out ∷ rest else rest)) ≡ true
      by true q further h =
          let same : at ≡ place = same_place-true at place q in
          let may : may_place of (taken before place) ≡ true =
          ap (λ z. may_place of (taken before z)) (sym same) ∙ (order_parts setup endings before (line.Placed out of at) m.0).1 in
          let own : key ≡ of = own_key before of (taken before place) key may h in
          let one : same_key of key ≡ true = ap (same_key of) own ∙ same_key-self of in
          let free : list_any (same_place at) cleared ≡ false = ap (λ z. list_any (same_place z) cleared) same ∙ n in
          here (same_key of key && not (list_any (same_place at) cleared)) (both (same_key of key) (list_any (same_place at) cleared) one free)
        where
          both : (a b : Bool) → a ≡ true → b ≡ false → (a && not b) ≡ true
          both true false a b = refl
          both true true a b = cc
          both false b a c = cc
      by false q further h = more (same_key of key && not (list_any (same_place at) cleared)) (further h)
  stands (line.Cleared out of at ∷ before) m place key cleared e n =
      by (same_place at place) refl (λ g h. stands before m.1 place key (at ∷ cleared) h g) e
    where
      by : (b : Bool) → same_place at place ≡ b
          → (IsNoneOf place (at ∷ cleared) → HasPlaced before place key → nat_lt 0 (length (standing key (at ∷ cleared) before)) ≡ true)
          → (if b then None else taken before place) ≡ Some (record { key = key; placed = true })
          → nat_lt 0 (length (standing key (at ∷ cleared) before)) ≡ true
      by true q further h = cc
      by false q further h = further (ap (λ b. b || list_any (same_place place) cleared) (turned at place q) ∙ n) h
  stands (l ∷ before) m place key cleared e n = stands before m.1 place key cleared e n

  -- a Placed line that stands, stands at a place that the key has, as the last one there
  pub record StandsAs (lines : List Line) (key : KeyView) (cleared : List Place) (tick : ℕ) : Type 0 where
    pub place : Place
    pub has : HasPlaced lines place key
    pub last : stood lines place ≡ Some tick
    pub none : IsNoneOf place cleared

  pub stands_as : (lines : List Line) → AllMeet setup endings lines → (key : KeyView) (cleared : List Place) (tick : ℕ)
      → In tick (standing key cleared lines)
      → StandsAs lines key cleared tick
  unfolding keeps_places
  stands_as [] m key cleared tick h = absurd h
  stands_as (line.Reserved out of at ∷ before) m key cleared tick h = more (stands_as before m.1 key cleared tick h)
    where
      free : is_none (taken before at) ≡ true
      free = (order_parts setup endings before (line.Reserved out of at) m.0).1

      more : StandsAs before key cleared tick → StandsAs (line.Reserved out of at ∷ before) key cleared tick
      more s = record { place = s.place; has = at_place (same_place at s.place) refl; last = s.last; none = s.none }
        where
          at_place : (b : Bool) → same_place at s.place ≡ b
              → (if b then Some (record { key = of; placed = false }) else taken before s.place) ≡ Some (record { key = key; placed = true })
          at_place false q = s.has
          at_place true q =
              let some : is_none (taken before at) ≡ false =
              ap (λ z. is_none (taken before z)) (same_place-true at s.place q) ∙ ap is_none s.has in
              absurd (true≢false (sym free ∙ some))
  stands_as (line.Placed out of at ∷ before) m key cleared tick h =
      by (same_key of key) (list_any (same_place at) cleared) refl refl h (λ g. older (stands_as before m.1 key cleared tick g))
    where
      may : may_place of (taken before at) ≡ true
      may = (order_parts setup endings before (line.Placed out of at) m.0).1

      -- the place of an earlier one is another
      older : StandsAs before key cleared tick → StandsAs (line.Placed out of at ∷ before) key cleared tick
      older s = two (same_place at s.place) refl
        where
          placed : (o : Option Taking) → o ≡ Some (record { key = key; placed = true }) → may_place of o ≡ true → ⊥
          placed None q g = cc
          placed (Some t) q g =
              let is : t ≡ record { key = key; placed = true } = same_Some t (record { key = key; placed = true }) q in
              let not_so : not t.placed ≡ true = (and_parts (same_key t.key of) (not t.placed) g).1 in
              absurd (true≢false (sym not_so ∙ ap (λ z. not z.placed) is))

          two : (b : Bool) → same_place at s.place ≡ b → StandsAs (line.Placed out of at ∷ before) key cleared tick
          two true q =
              absurd (placed (taken before s.place) s.has (ap (λ z. may_place of (taken before z)) (sym (same_place-true at s.place q)) ∙ may))
          two false q = record {
            place = s.place;
            has = ap (λ b. if b then option_map now_placed (taken before s.place) else taken before s.place) q ∙ s.has;
            last = ap (λ b. if b then Some out else stood before s.place) q ∙ s.last;
            none = s.none;
          }

      -- this one
      own : (o : Option Taking) → may_place of o ≡ true → option_map now_placed o ≡ Some (record { key = of; placed = true })
      own None g = cc
      own (Some t) g =
          ap (λ k. Some (record { key = k; placed = true })) (same_key-true t.key of (and_parts (same_key t.key of) (not t.placed) g).0)

      here : same_key of key ≡ true → IsNoneOf at cleared → tick ≡ out → StandsAs (line.Placed out of at ∷ before) key cleared tick
      here k n e = record {
        place = at;
        has = ap (λ b. if b then option_map now_placed (taken before at) else taken before at) (same_place-self at)
            ∙ (own (taken before at) may ∙ ap (λ z. Some (record { key = z; placed = true })) (same_key-true of key k));
        last = ap (λ b. if b then Some out else stood before at) (same_place-self at) ∙ ap Some (sym e);
        none = n;
      }

      by : (a b : Bool) → same_key of key ≡ a → list_any (same_place at) cleared ≡ b
          → In tick (if a && not b then out ∷ standing key cleared before else standing key cleared before)
          → (In tick (standing key cleared before) → StandsAs (line.Placed out of at ∷ before) key cleared tick)
          → StandsAs (line.Placed out of at ∷ before) key cleared tick
      by true false q r (inl e) more = here q r e
      by true false q r (inr g) more = more g
      by true true q r g more = more g
      by false b q r g more = more g
  stands_as (line.Cleared out of at ∷ before) m key cleared tick h = more (stands_as before m.1 key (at ∷ cleared) tick h)
    where
      or_none : (a b : Bool) → (a || b) ≡ false → (a ≡ false) × (b ≡ false)
      or_none false b e = (refl, e)
      or_none true b e = cc

      more : StandsAs before key (at ∷ cleared) tick → StandsAs (line.Cleared out of at ∷ before) key cleared tick
      more s =
          let parts = or_none (same_place s.place at) (list_any (same_place s.place) cleared) s.none in
          let apart : same_place at s.place ≡ false = turned s.place at parts.0 in
          record {
            place = s.place;
            has = ap (λ b. if b then None else taken before s.place) apart ∙ s.has;
            last = ap (λ b. if b then None else stood before s.place) apart ∙ s.last;
            none = parts.1;
          }
  stands_as (l ∷ before) m key cleared tick h =
      let s = stands_as before m.1 key cleared tick h in record { place = s.place; has = s.has; last = s.last; none = s.none }
