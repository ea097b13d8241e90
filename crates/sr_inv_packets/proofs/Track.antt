-- Where a packet goes whose key has a version.
use Rattle.std.proofs.Common.{◌≡◌, ℕ, Bool, true, false, ◌⊎◌, ◌&&◌, List, [], ◌∷◌, ◌++◌, if◌then◌else◌, sym, refl, ◌∙◌, subst, inl, inr}
use Rattle.std.proofs.lemmas.Bool.{and_parts}
use Rattle.std.specs.List.{AllByRecursion, list_all}
use Rattle.sr_base.specs.Layout.{LayoutView}
use Rattle.sr_base.specs.declared.kind.Kind.{Kind}
use Rattle.sr_base.specs.declared.kind.Kind.TheVariants.{Opener, Carry, Ending}
use Rattle.sr_base.specs.declared.place.Place.{Place}
use Rattle.sr_base.specs.declared.vip_word.Phase.{Phase}
use Rattle.sr_base.specs.declared.vip_word.Phase.TheVariants.{Steady, Recording, Holding, Transit}
use Rattle.sr_inv_facts.proofs.Lists.{all_in, all_then}
use Rattle.sr_inv_facts.specs.Flying.{OnLeg}
use Rattle.sr_inv_facts.specs.InFlight.{LegHolds, LegSet, RestSet}
use Rattle.sr_inv_facts.specs.InShape.{LastFits, LegFits, MayBeOut, MayReport, StageFits}
use Rattle.sr_inv_facts.specs.Invariant.{Invariant}
use Rattle.sr_inv_facts.specs.OnTrack.{GoesBit, GoesBits, GoesBy, GoesMissed, GoesPlaces, GoesSaid, GoesVerdict, HeldIf, IsKnown, IsOnDuty}
use Rattle.sr_inv_facts.specs.Readings.{In, IsEnd, Speaks, SpeaksLive, bit_words, entry_words, is_set_in, ring_words}
use Rattle.sr_inv_packets.specs.Track.{FindsLive, GoesOn, HoldsAt, IfLive, NoneLive, PacketsOnTrack, SomeSpeaks, given_at, has_chosen, is_held, is_in_filter, said_to, will_be_held, will_find, will_miss}
use Rattle.sr_law.specs.declared.verdict.Verdict.{Verdict}
use Rattle.sr_machine.specs.Core.{Core, printed}
use Rattle.sr_machine.specs.Stages.{is_opener, is_to, key_bits}
use Rattle.sr_machine.specs.declared.flight.Flight.{Flight}
use Rattle.sr_machine.specs.declared.leg.Last.{Last}
use Rattle.sr_machine.specs.declared.leg.Leg.{Leg}
use Rattle.sr_machine.specs.declared.leg.Leg.TheVariants.{Look, Hit, Filter, Chosen, Judged}
use Rattle.sr_machine.specs.declared.said.Said.{Said}
use Rattle.sr_machine.specs.declared.stage.Stage.{Stage}
use Rattle.sr_machine.specs.declared.stage.Stage.TheVariants.{Fly}
use Rattle.sr_law.specs.declared.verdict.Verdict.TheVariants as verdict
use Rattle.sr_machine.specs.declared.leg.Last.TheVariants as last
use Rattle.sr_machine.specs.declared.said.Said.TheVariants as said

-- ---- lists of places of the filter

all_pass : (test : ℕ → Bool) (xs : List ℕ) → AllByRecursion (λ x. test x ≡ true) xs → list_all test xs ≡ true
all_pass test [] a = refl
all_pass test (x ∷ xs) a = at (test x) (list_all test xs) a.0 (all_pass test xs a.1)
  where
    at : (b c : Bool) → b ≡ true → c ≡ true → (b && c) ≡ true
    at true true p q = refl
    at true false p q = cc
    at false c p q = cc

passes_all : (test : ℕ → Bool) (xs : List ℕ) → list_all test xs ≡ true → AllByRecursion (λ x. test x ≡ true) xs
passes_all test [] e = tt
passes_all test (x ∷ xs) e = let p = and_parts (test x) (list_all test xs) e in (p.0, passes_all test xs p.1)

pass_end : (test : ℕ → Bool) (front xs : List ℕ) → list_all test (front ++ xs) ≡ true → list_all test xs ≡ true
pass_end test [] xs e = e
pass_end test (x ∷ front) xs e = pass_end test front xs (and_parts (test x) (list_all test (front ++ xs)) e).1

-- where each of a list is set or in its end, the list is set as far as its end is
end_tells : (test : ℕ → Bool) (whole rest : List ℕ) → AllByRecursion (λ x. In x rest ⊎ (test x ≡ true)) whole → IsEnd rest whole
    → list_all test whole ≡ list_all test rest
end_tells test whole rest each end = at (list_all test rest) refl (list_all test whole) refl
  where
    one : list_all test rest ≡ true → (x : ℕ) → In x rest ⊎ (test x ≡ true) → test x ≡ true
    one e x (inl h) = all_in (λ x. test x ≡ true) rest x (passes_all test rest e) h
    one e x (inr h) = h

    up : list_all test rest ≡ true → list_all test whole ≡ true
    up e = all_pass test whole (all_then (λ x. In x rest ⊎ (test x ≡ true)) (λ x. test x ≡ true) (one e) whole each)

    down : list_all test whole ≡ true → list_all test rest ≡ true
    down e = pass_end test end.0 rest (subst (λ xs. list_all test xs ≡ true) end.1 e)

    at : (b : Bool) → list_all test rest ≡ b → (c : Bool) → list_all test whole ≡ c → list_all test whole ≡ list_all test rest
    at true p c q = up p ∙ sym p
    at false p true q = q ∙ sym (down q)
    at false p false q = q ∙ sym p

-- ---- openers and others

opener_is : (k : Kind) → is_opener k ≡ true → k ≡ Opener
opener_is Opener e = refl
opener_is Carry e = cc
opener_is Ending e = cc

not_held : (b : Bool) (P : Type 0) → b ≡ false → HeldIf b P → P
not_held true P e h = cc
not_held false P e h = h

not_both : (b : Bool) → b ≡ false → b ≡ true → ⊥
not_both true p q = cc
not_both false p q = cc

-- ---- a verdict

no_place : (l : LayoutView) (f : Flight) (at : Last) (k : Kind) → f.packet.kind ≡ k → LastFits l f verdict.NoPlace at → ⊥
no_place l f last.Ring Opener e h = subst (λ k. MayReport k verdict.NoPlace) e h
no_place l f last.Ring Carry e h = subst (λ k. MayReport k verdict.NoPlace) e h
no_place l f last.Ring Ending e h = subst (λ k. MayReport k verdict.NoPlace) e h
no_place l f (last.Mark bit rest) k e h = at h.sent
  where
    at : is_to verdict.NoPlace ≡ true → ⊥
    at g = cc
no_place l f last.Push Opener e h = subst (λ k. MayReport k verdict.NoPlace) e h
no_place l f last.Push Carry e h = subst (λ k. MayReport k verdict.NoPlace) e h
no_place l f last.Push Ending e h = subst (λ k. MayReport k verdict.NoPlace) e h
no_place l f last.Out Opener e h = subst (λ k. MayBeOut k verdict.NoPlace) e h
no_place l f last.Out Carry e h = subst (λ k. MayBeOut k verdict.NoPlace) e h
no_place l f last.Out Ending e h = subst (λ k. MayBeOut k verdict.NoPlace) e h

module _ (s : Core) (n : ℕ) (f : Flight) where
  abbrev set : ℕ → Bool
  set = is_set_in (bit_words s.words)

  -- ---- the filter

  -- a packet is held by it, or goes by what it tells
  abbrev Told : Bool → Type 0
  Told marked = ((is_opener f.packet.kind ≡ true) × (marked ≡ true)) ⊎ ((if marked then f.vip.cur else f.vip.next) ≡ n)

  told_first : (bit : ℕ) (rest : List ℕ) → (GoesBits (bit_words s.words) f n rest → Told (list_all set rest))
      → GoesBits (bit_words s.words) f n (bit ∷ rest) → Told (list_all set (bit ∷ rest))
  told_first bit rest more h = at (set bit) h
    where
      at : (b : Bool) → GoesBit b (GoesBits (bit_words s.words) f n rest) f n → Told (b && list_all set rest)
      at true h = more h
      at false h = inr h

  told : (rest : List ℕ) → GoesBits (bit_words s.words) f n rest → Told (list_all set rest)
  told [] h = at (is_opener f.packet.kind) refl h
    where
      at : (b : Bool) → is_opener f.packet.kind ≡ b → HeldIf b (f.vip.cur ≡ n) → Told true
      at true q h = inl (q, refl)
      at false q h = inr h
  told (bit ∷ rest) h = told_first bit rest (told rest) h

  -- ---- a miss

  abbrev Missed : Phase → Bool → Type 0
  Missed p marked = ((is_opener f.packet.kind ≡ true) × HoldsAt p marked) ⊎ (given_at p f.vip.cur f.vip.next marked ≡ n)

  missed : (p : Phase) → GoesMissed s.config.layout (bit_words s.words) f n p → Missed p (is_in_filter s f)
  missed Steady h = inr h
  missed Recording h = inr h
  missed Holding h = at (is_opener f.packet.kind) refl h
    where
      at : (b : Bool) → is_opener f.packet.kind ≡ b → HeldIf b (f.vip.cur ≡ n) → Missed Holding (is_in_filter s f)
      at true q h = inl (q, tt)
      at false q h = inr h
  missed Transit h = told (key_bits s.config.layout f.packet.key) h

  -- ---- places

  abbrev Goes : List Place → Type 0
  Goes = GoesPlaces s.config.layout (entry_words s.words) (bit_words s.words) f n

  abbrev Misses : Type 0
  Misses = GoesMissed s.config.layout (bit_words s.words) f n f.vip.phase

  silent : (t : Said) → t ≡ said.Nothing → SpeaksLive t → ⊥
  silent t e h = subst SpeaksLive e h

  reserved_silent : (t : Said) → t ≡ said.Reserved → SpeaksLive t → ⊥
  reserved_silent t e h = subst SpeaksLive e h

  -- an opener is held where one speaks
  abbrev OpenerFinds : List Place → Type 0
  OpenerFinds places = SomeSpeaks s f.packet.key places ⊎ (NoneLive s f.packet.key places × Misses)

  opener_places : (places : List Place) → Goes places → OpenerFinds places
  opener_places [] h = inr (tt, h)
  opener_places (place ∷ rest) h = at (said_to s f.packet.key place) refl h (opener_places rest)
    where
      further : said_to s f.packet.key place ≡ said.Nothing → OpenerFinds rest → OpenerFinds (place ∷ rest)
      further e (inl x) = inl (x.0, inr x.1, x.2)
      further e (inr x) = inr ((silent (said_to s f.packet.key place) e, x.0), x.1)

      at : (t : Said) → said_to s f.packet.key place ≡ t → GoesSaid (is_opener f.packet.kind) n t (Goes rest) → (Goes rest → OpenerFinds rest)
          → OpenerFinds (place ∷ rest)
      at said.Nothing e h more = further e (more h)
      at said.Reserved e h more = inl (place, inl refl, subst Speaks (sym e) tt)
      at (said.Live m) e h more = inl (place, inl refl, subst Speaks (sym e) tt)

  -- another packet finds the version
  abbrev OtherFinds : List Place → Type 0
  OtherFinds places = FindsLive s f.packet.key n places ⊎ (NoneLive s f.packet.key places × Misses)

  other_places : is_opener f.packet.kind ≡ false → (places : List Place) → Goes places → OtherFinds places
  other_places o [] h = inr (tt, h)
  other_places o (place ∷ rest) h = at (said_to s f.packet.key place) refl h (other_places o rest)
    where
      further : (t : Said) → said_to s f.packet.key place ≡ t → (SpeaksLive t → ⊥) → (FindsLive s f.packet.key n rest → IfLive t n (FindsLive s f.packet.key n rest))
          → OtherFinds rest → OtherFinds (place ∷ rest)
      further t e quiet turn (inl x) = inl (subst (λ z. IfLive z n (FindsLive s f.packet.key n rest)) (sym e) (turn x))
      further t e quiet turn (inr x) = inr ((λ h. quiet (subst SpeaksLive e h), x.0), x.1)

      at : (t : Said) → said_to s f.packet.key place ≡ t → GoesSaid (is_opener f.packet.kind) n t (Goes rest) → (Goes rest → OtherFinds rest)
          → OtherFinds (place ∷ rest)
      at said.Nothing e h more = further said.Nothing e (λ h. h) (λ x. x) (more h)
      at said.Reserved e h more =
          further said.Reserved e (λ h. h) (λ x. x) (more (not_held (is_opener f.packet.kind) (Goes rest) o h))
      at (said.Live m) e h more =
          inl (subst (λ z. IfLive z n (FindsLive s f.packet.key n rest)) (sym e) (not_held (is_opener f.packet.kind) (m ≡ n) o h))

  -- ---- how far it has come

  look : (place : Place) (rest : List Place) → Goes (place ∷ rest) → GoesOn s n f (Look place rest)
  look place rest h = at (is_opener f.packet.kind) refl
    where
      opens : is_opener f.packet.kind ≡ true → OpenerFinds (place ∷ rest) → GoesOn s n f (Look place rest)
      opens o (inl x) = will_be_held (opener_is f.packet.kind o) (inl x)
      opens o (inr (none, m)) = by (missed f.vip.phase m)
        where
          by : Missed f.vip.phase (is_in_filter s f) → GoesOn s n f (Look place rest)
          by (inl x) = will_be_held (opener_is f.packet.kind o) (inr x.1)
          by (inr x) = will_miss (none, x)

      goes : is_opener f.packet.kind ≡ false → OtherFinds (place ∷ rest) → GoesOn s n f (Look place rest)
      goes o (inl x) = will_find x
      goes o (inr (none, m)) = by (missed f.vip.phase m)
        where
          by : Missed f.vip.phase (is_in_filter s f) → GoesOn s n f (Look place rest)
          by (inl x) = absurd (not_both (is_opener f.packet.kind) o x.0)
          by (inr x) = will_miss (none, x)

      at : (b : Bool) → is_opener f.packet.kind ≡ b → GoesOn s n f (Look place rest)
      at true o = opens o (opener_places (place ∷ rest) h)
      at false o = goes o (other_places o (place ∷ rest) h)

  hit : (place : Place) (version : ℕ) → HeldIf (is_opener f.packet.kind) (version ≡ n) → GoesOn s n f (Hit place version)
  hit place version h = at (is_opener f.packet.kind) refl h
    where
      at : (b : Bool) → is_opener f.packet.kind ≡ b → HeldIf b (version ≡ n) → GoesOn s n f (Hit place version)
      at true o h = will_be_held (opener_is f.packet.kind o) tt
      at false o h = has_chosen h

  filters : (bit : ℕ) (rest : List ℕ) → f.vip.phase ≡ Transit → IsEnd (bit ∷ rest) (key_bits s.config.layout f.packet.key)
      → RestSet s.config.layout (bit_words s.words) f.packet.key (bit ∷ rest) → GoesBits (bit_words s.words) f n (bit ∷ rest)
      → GoesOn s n f (Filter bit rest)
  filters bit rest t end each h = at (subst Told (sym same) (told (bit ∷ rest) h))
    where
      same : is_in_filter s f ≡ list_all set (bit ∷ rest)
      same = end_tells set (key_bits s.config.layout f.packet.key) (bit ∷ rest) each end

      at : Told (is_in_filter s f) → GoesOn s n f (Filter bit rest)
      at (inl x) = will_be_held (opener_is f.packet.kind x.0) (subst (λ p. HoldsAt p (is_in_filter s f)) (sym t) x.1)
      at (inr x) = will_miss (subst (λ p. given_at p f.vip.cur f.vip.next (is_in_filter s f) ≡ n) (sym t) x)

  judged : (v : Verdict) (at : Last) → LastFits s.config.layout f v at → GoesVerdict n v → GoesOn s n f (Judged v at)
  judged (verdict.To server version pool) at fits h = has_chosen h
  judged (verdict.Down server version pool) at fits h = has_chosen h
  judged (verdict.Held why) at fits h = is_held tt
  judged verdict.Full at fits h = is_held tt
  judged verdict.NoPlace at fits h = absurd (no_place s.config.layout f at f.packet.kind refl fits)

  goes_on : (leg : Leg) → LegFits s.config.layout f leg → LegSet s.config.layout (bit_words s.words) f leg
      → GoesBy s.config.layout (entry_words s.words) (bit_words s.words) n f leg → GoesOn s n f leg
  goes_on (Look place rest) fits each h = look place rest h
  goes_on (Hit place version) fits each h = hit place version h
  goes_on (Filter bit rest) fits each h = filters bit rest fits.transit fits.end each h
  goes_on (Chosen version load) fits each h = has_chosen h
  goes_on (Judged v at) fits each h = judged v at fits.1 h

module _ (s : Core) (i : Invariant s) (p pushed : ℕ) where
  abbrev Known : Flight → Leg → (Flight → Leg → ℕ → Type 0) → Type 0
  Known f leg P =
      (n : ℕ) → IsKnown s.config.layout (ring_words s.words) s.controller.book.entries f.packet.key n → IsOnDuty (printed s) f → P f leg n

  on_stage : (stage : Stage) → StageFits s.config.layout stage
      → OnLeg stage (LegHolds s.config (bit_words s.words) s.controller.named s.controller.numbers s.controller.rings s.controller.job p pushed)
      → OnLeg stage (λ f leg. Known f leg (λ f leg n. GoesBy s.config.layout (entry_words s.words) (bit_words s.words) n f leg))
      → OnLeg stage (λ f leg. Known f leg (λ f leg n. GoesOn s n f leg))
  on_stage (Fly f leg) fits holds track = λ n known duty. goes_on s n f leg fits.1 holds.set (track n known duty)
  on_stage stage fits holds track = tt

pub on_track : PacketsOnTrack
on_track s i p v q =
    on_stage s i p v.pushed v.stage (i.shape.pipes.stage p v q) (i.flight.legs p v q) (i.track.track.track p v q)
