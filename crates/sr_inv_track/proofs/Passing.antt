-- Where a packet goes by the places that it is still to look at.
use Rattle.std.proofs.Common.{◌≡◌, ℕ, Bool, true, false, ◌&&◌, ◌||◌, map, arith, ◌⊎◌, ◌≢◌, List, [], ◌∷◌, ◌++◌, ◌==◌, sym, refl, ap, ◌∙◌, subst, inl, inr}
use Rattle.std.proofs.lemmas.Bool.{and_parts}
use Rattle.std.specs.List.{AllByRecursion, list_all}
use Rattle.sr_base.specs.Key.{KeyView}
use Rattle.sr_base.specs.Layout.{LayoutView}
use Rattle.sr_base.specs.declared.kind.Kind.TheVariants.{Opener}
use Rattle.sr_base.specs.declared.place.Place.{Place}
use Rattle.sr_base.specs.declared.place.Place.TheVariants.{Row, Slot}
use Rattle.sr_base.specs.declared.vip_word.Phase.{Phase}
use Rattle.sr_base.specs.declared.vip_word.Phase.TheVariants.{Steady, Recording, Holding, Transit}
use Rattle.sr_inv_facts.specs.InShape.{LegFits}
use Rattle.sr_inv_facts.specs.OnTrack.{GoesBit, GoesBits, GoesBy, GoesMissed, GoesPlaces, GoesSaid, HeldIf}
use Rattle.sr_inv_facts.specs.Readings.{In, IsEnd, Speaks, is_set_in}
use Rattle.std.proofs.lemmas.Bool.Decides.{nat_tests}
use Rattle.sr_base.specs.declared.shape.Shape.{Shape}
use Rattle.sr_hash.specs.Uses.{bucket_of, is_place_of}
use Rattle.sr_inv_facts.proofs.Lists.{all_in, all_more, in_end}
use Rattle.sr_shadow.specs.Entry.{is_slot}
use Rattle.sr_shadow.specs.Plan.{key_rows, key_slots, slots_in, slots_of}
use Rattle.sr_machine.specs.Reads.{says}
use Rattle.sr_machine.specs.Stages.{is_opener, key_places}
use Rattle.sr_machine.specs.declared.flight.Flight.{Flight}
use Rattle.sr_machine.specs.declared.leg.Leg.{Leg}
use Rattle.sr_machine.specs.declared.leg.Leg.TheVariants.{Look, Hit, Filter, Chosen, Judged}
use Rattle.sr_machine.specs.declared.said.Said.{Said}
use Rattle.sr_machine.specs.declared.said.Said.TheVariants as said

-- ---- openers are held

pub held_of : (b : Bool) (P : Type 0) → P → HeldIf b P
held_of true P h = tt
held_of false P h = h

pub held_then : (b : Bool) (P Q : Type 0) → (P → Q) → HeldIf b P → HeldIf b Q
held_then true P Q f h = tt
held_then false P Q f h = f h

pub said_then : (b : Bool) (n : ℕ) (t : Said) (P Q : Type 0) → (P → Q) → GoesSaid b n t P → GoesSaid b n t Q
said_then b n said.Nothing P Q f h = f h
said_then b n said.Reserved P Q f h = held_then b P Q f h
said_then b n (said.Live m) P Q f h = h

said_held : (n : ℕ) (t : Said) (P : Type 0) → Speaks t → GoesSaid true n t P
said_held n said.Nothing P s = absurd s
said_held n said.Reserved P s = tt
said_held n (said.Live m) P s = tt

-- what lets an opener go on lets it go by, whatever a place says
said_opener : (n : ℕ) (t : Said) (P : Type 0) → P → GoesSaid true n t P
said_opener n said.Nothing P h = h
said_opener n said.Reserved P h = tt
said_opener n (said.Live m) P h = tt

-- ---- the same places with other words

module _ (l : LayoutView) (f : Flight) (n : ℕ) where
  -- each place lets through what it did
  pub places_then : (w after : Place → ℕ) (bits now : ℕ → ℕ) (looks : List Place)
      → ((place : Place) (P : Type 0) → In place looks → GoesSaid (is_opener f.packet.kind) n (says l place f.packet.key (w place)) P
      → GoesSaid (is_opener f.packet.kind) n (says l place f.packet.key (after place)) P)
      → (GoesMissed l bits f n f.vip.phase → GoesMissed l now f n f.vip.phase)
      → GoesPlaces l w bits f n looks → GoesPlaces l after now f n looks
  places_then w after bits now [] turn missed h = missed h
  places_then w after bits now (place ∷ rest) turn missed h =
      turn place (GoesPlaces l after now f n rest) (inl refl)
      (said_then (is_opener f.packet.kind) n (says l place f.packet.key (w place)) (GoesPlaces l w bits f n rest) (GoesPlaces l after now f n rest)
      (places_then w after bits now rest (λ p P i. turn p P (inr i)) missed) h)

  -- a leg that looks at no place goes where it went
  pub words_go : (w after : Place → ℕ) (bits : ℕ → ℕ) (leg : Leg)
      → ((place : Place) (rest : List Place) → leg ≡ Look place rest → GoesPlaces l w bits f n (place ∷ rest) → GoesPlaces l after bits f n (place ∷ rest))
      → GoesBy l w bits n f leg → GoesBy l after bits n f leg
  words_go w after bits (Look place rest) turn h = turn place rest refl h
  words_go w after bits (Hit place m) turn h = h
  words_go w after bits (Filter bit rest) turn h = h
  words_go w after bits (Chosen m load) turn h = h
  words_go w after bits (Judged v last) turn h = h

  -- one that didn't load Transit doesn't care for the filter
  missed_else : (bits now : ℕ → ℕ) (p : Phase) → p ≢ Transit → GoesMissed l bits f n p → GoesMissed l now f n p
  missed_else bits now Steady apart h = h
  missed_else bits now Recording apart h = h
  missed_else bits now Holding apart h = h
  missed_else bits now Transit apart h = absurd (apart refl)

  pub bits_go : (w : Place → ℕ) (bits now : ℕ → ℕ) (leg : Leg) → f.vip.phase ≢ Transit → LegFits l f leg → GoesBy l w bits n f leg
      → GoesBy l w now n f leg
  bits_go w bits now (Look place rest) apart fits h =
      places_then w w bits now (place ∷ rest) (λ p P i g. g) (missed_else bits now f.vip.phase apart) h
  bits_go w bits now (Hit place m) apart fits h = h
  bits_go w bits now (Filter bit rest) apart fits h = absurd (apart fits.transit)
  bits_go w bits now (Chosen m load) apart fits h = h
  bits_go w bits now (Judged v last) apart fits h = h

  -- ---- an opener

  module _ (w : Place → ℕ) (bits : ℕ → ℕ) (o : f.packet.kind ≡ Opener) where
    is_one : is_opener f.packet.kind ≡ true
    is_one = ap is_opener o

    said_one : (t : Said) (P : Type 0) → GoesSaid true n t P → GoesSaid (is_opener f.packet.kind) n t P
    said_one t P h = subst (λ b. GoesSaid b n t P) (sym is_one) h

    -- goes where it would go if nothing was found
    pub opener_goes : (looks : List Place) → GoesMissed l bits f n f.vip.phase → GoesPlaces l w bits f n looks
    opener_goes [] h = h
    opener_goes (place ∷ rest) h =
        said_one (says l place f.packet.key (w place)) (GoesPlaces l w bits f n rest)
        (said_opener n (says l place f.packet.key (w place)) (GoesPlaces l w bits f n rest) (opener_goes rest h))

    -- is held where some place speaks to its key
    pub opener_found : (looks : List Place) (at : Place) → In at looks → Speaks (says l at f.packet.key (w at)) → GoesPlaces l w bits f n looks
    opener_found [] at i s = absurd i
    opener_found (place ∷ rest) at (inl same) s =
        said_one (says l place f.packet.key (w place)) (GoesPlaces l w bits f n rest)
        (said_held n (says l place f.packet.key (w place)) (GoesPlaces l w bits f n rest) (subst (λ z. Speaks (says l z f.packet.key (w z))) same s))
    opener_found (place ∷ rest) at (inr i) s =
        said_one (says l place f.packet.key (w place)) (GoesPlaces l w bits f n rest)
        (said_opener n (says l place f.packet.key (w place)) (GoesPlaces l w bits f n rest) (opener_found rest at i s))

    -- by the filter it goes by the next version, or is held
    pub opener_bits : (places : List ℕ) → f.vip.next ≡ n → GoesBits bits f n places
    opener_bits [] h = subst (λ b. HeldIf b (f.vip.cur ≡ n)) (sym is_one) tt
    opener_bits (bit ∷ rest) h = by (is_set_in bits bit) (opener_bits rest h)
      where
        by : (b : Bool) → GoesBits bits f n rest → GoesBit b (GoesBits bits f n rest) f n
        by true more = more
        by false more = h

  -- ---- the filter's places

  module _ (bits : ℕ → ℕ) where
    -- each is set, and it goes by the current version
    pub set_goes : (places : List ℕ) → list_all (is_set_in bits) places ≡ true → f.vip.cur ≡ n → GoesBits bits f n places
    set_goes [] a h = held_of (is_opener f.packet.kind) (f.vip.cur ≡ n) h
    set_goes (bit ∷ rest) a h =
        let parts = and_parts (is_set_in bits bit) (list_all (is_set_in bits) rest) a in
        subst (λ b. GoesBit b (GoesBits bits f n rest) f n) (sym parts.0) (set_goes rest parts.1 h)

    -- one is clear, and it goes by the next
    pub clear_goes : (places : List ℕ) → list_all (is_set_in bits) places ≡ false → f.vip.next ≡ n → GoesBits bits f n places
    clear_goes [] a h = cc
    clear_goes (bit ∷ rest) a h = by (is_set_in bits bit) a (λ b. clear_goes rest b h)
      where
        by : (b : Bool) → (b && list_all (is_set_in bits) rest) ≡ false → (list_all (is_set_in bits) rest ≡ false → GoesBits bits f n rest)
            → GoesBit b (GoesBits bits f n rest) f n
        by true a more = more a
        by false a more = h

  -- ---- places that say the version

  module _ (w : Place → ℕ) (bits : ℕ → ℕ) where
    abbrev Says : Place → Said
    Says place = says l place f.packet.key (w place)

    said_found : (place : Place) (rest : List Place) (t : Said) → Says place ≡ t → (Says place ≡ said.Live n → GoesSaid (is_opener f.packet.kind) n t (GoesPlaces l w bits f n rest))
        → (GoesPlaces l w bits f n rest ⊎ (Says place ≡ said.Live n))
        → ((m : ℕ) → Says place ≡ said.Live m → m ≡ n) → GoesSaid (is_opener f.packet.kind) n t (GoesPlaces l w bits f n rest)
    said_found place rest t q here (inr e) all = here e
    said_found place rest said.Nothing q here (inl h) all = h
    said_found place rest said.Reserved q here (inl h) all = held_of (is_opener f.packet.kind) (GoesPlaces l w bits f n rest) h
    said_found place rest (said.Live m) q here (inl h) all = held_of (is_opener f.packet.kind) (m ≡ n) (all m q)

    said_here : (place : Place) (rest : List Place) → Says place ≡ said.Live n → GoesSaid (is_opener f.packet.kind) n (Says place) (GoesPlaces l w bits f n rest)
    said_here place rest e =
        subst (λ t. GoesSaid (is_opener f.packet.kind) n t (GoesPlaces l w bits f n rest)) (sym e) (held_of (is_opener f.packet.kind) (n ≡ n) refl)

    -- one place says it, and each that says a version says this one
    pub found_goes : (looks : List Place) (at : Place) → In at looks → Says at ≡ said.Live n
        → ((place : Place) (m : ℕ) → In place looks → Says place ≡ said.Live m → m ≡ n) → GoesPlaces l w bits f n looks
    found_goes [] at i e all = absurd i
    found_goes (place ∷ rest) at (inl same) e all = said_here place rest (subst (λ z. Says z ≡ said.Live n) same e)
    found_goes (place ∷ rest) at (inr i) e all =
        said_found place rest (Says place) refl (said_here place rest) (inl (found_goes rest at i e (λ p m j. all p m (inr j)))) (λ m q. all place m (inl refl) q)

-- ---- rows are looked at before slots

abbrev pub NoRow : List Place → Type 0
NoRow looks = (row : ℕ) → In (Row row) looks → ⊥

abbrev pub RowsLead : List Place → Type 0
RowsLead [] = Unit {0}
RowsLead (Row row ∷ rest) = RowsLead rest
RowsLead (Slot way bucket cell ∷ rest) = NoRow rest × RowsLead rest

lead_rest : (place : Place) (rest : List Place) → RowsLead (place ∷ rest) → RowsLead rest
lead_rest (Row row) rest h = h
lead_rest (Slot way bucket cell) rest h = h.1

lead_back : (front looks : List Place) → RowsLead (front ++ looks) → RowsLead looks
lead_back [] looks h = h
lead_back (place ∷ front) looks h = lead_back front looks (lead_rest place (front ++ looks) h)

no_rows : (looks : List Place) → AllByRecursion (λ p. is_slot p ≡ true) looks → NoRow looks
no_rows [] a row i = i
no_rows (place ∷ rest) a row (inl e) = let t : is_slot (Row row) ≡ true = ap is_slot e ∙ a.0 in cc t
no_rows (place ∷ rest) a row (inr i) = no_rows rest a.1 row i

slots_lead : (looks : List Place) → AllByRecursion (λ p. is_slot p ≡ true) looks → RowsLead looks
slots_lead [] a = tt
slots_lead (Row row ∷ rest) a = absurd cc
slots_lead (Slot way bucket cell ∷ rest) a = (no_rows rest a.1, slots_lead rest a.1)

-- so it is in each end of a key's places
pub end_leads : (l : LayoutView) (key : KeyView) (looks : List Place) → IsEnd looks (key_places l key) → RowsLead looks
end_leads l key looks e =
    lead_back e.0 looks (subst RowsLead e.1 (slots_lead (key_slots l.shape key) (refl, (refl, (refl, (refl, (refl, (refl, (refl, (refl, tt))))))))))

module _ (l : LayoutView) (f : Flight) (n : ℕ) (w : Place → ℕ) (bits : ℕ → ℕ) where
  -- a row says it, and each row that says a version says this one
  pub row_goes : (looks : List Place) (row : ℕ) → RowsLead looks → In (Row row) looks → Says l f n w bits (Row row) ≡ said.Live n
      → ((other m : ℕ) → In (Row other) looks → Says l f n w bits (Row other) ≡ said.Live m → m ≡ n) → GoesPlaces l w bits f n looks
  row_goes [] row h i e all = absurd i
  row_goes (place ∷ rest) row h (inl same) e all =
      said_here l f n w bits place rest (subst (λ z. Says l f n w bits z ≡ said.Live n) same e)
  row_goes (Slot way bucket cell ∷ rest) row h (inr i) e all = absurd (h.0 row i)
  row_goes (Row other ∷ rest) row h (inr i) e all =
      said_found l f n w bits (Row other) rest (Says l f n w bits (Row other)) refl (said_here l f n w bits (Row other) rest)
      (inl (row_goes rest row h i e (λ p m j. all p m (inr j)))) (λ m q. all other m (inl refl) q)

-- ---- a place that is looked at is one of the key's

slots_own : (shape : Shape) (way : ℕ) (key : KeyView) → ((way == 1) || (way == 2)) ≡ true
    → AllByRecursion (λ p. is_place_of shape key p ≡ true) (slots_in way (bucket_of way key shape.buckets))
slots_own shape way key h = (grind (arith, nat_tests), (grind (arith, nat_tests), (grind (arith, nat_tests), (grind (arith, nat_tests), tt))))

rows_own : (shape : Shape) (key : KeyView) → AllByRecursion (λ p. is_place_of shape key p ≡ true) (map Row (key_rows shape key))
rows_own shape key = (grind (arith, nat_tests), (grind (arith, nat_tests), (grind (arith, nat_tests), (grind (arith, nat_tests), tt))))

places_own : (l : LayoutView) (key : KeyView) → AllByRecursion (λ p. is_place_of l.shape key p ≡ true) (key_places l key)
places_own l key =
    all_more (λ p. is_place_of l.shape key p ≡ true) (map Row (key_rows l.shape key)) (key_slots l.shape key) (rows_own l.shape key)
    (all_more (λ p. is_place_of l.shape key p ≡ true) (slots_of l.shape 1 key) (slots_of l.shape 2 key) (slots_own l.shape 1 key refl) (slots_own l.shape 2 key refl))

pub looked_own : (l : LayoutView) (key : KeyView) (looks : List Place) (place : Place) → IsEnd looks (key_places l key) → In place looks
    → is_place_of l.shape key place ≡ true
looked_own l key looks place e i =
    all_in (λ p. is_place_of l.shape key p ≡ true) (key_places l key) place (places_own l key) (in_end place looks (key_places l key) e i)
