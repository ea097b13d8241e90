-- A packet's cause stands when a line comes that is out after the packet entered, and isn't of its pipe.
use Rattle.std.proofs.Common.{◌≡◌, ℕ, ◌+◌, ◌<◌, ◌≢◌, ◌&&◌, ◌||◌, ◌==◌, not, nat_le, nat_lt, Bool, true, false, List, [], ◌∷◌, if◌then◌else◌, refl, ap, ◌∙◌, arith}
use Rattle.std.proofs.lemmas.Bool.Decides.{nat_tests}
use Rattle.std.specs.List.{list_any}
use Rattle.sr_base.specs.Key.{KeyView, same_key}
use Rattle.sr_base.specs.Place.{same_place}
use Rattle.sr_base.specs.declared.kind.Kind.{Kind}
use Rattle.sr_base.specs.declared.kind.Kind.TheVariants.{Opener, Carry, Ending}
use Rattle.sr_base.specs.declared.place.Place.{Place}
use Rattle.sr_base.specs.declared.shape.Shape.{Shape}
use Rattle.sr_inv_facts.specs.Flying.{IfOpener}
use Rattle.sr_inv_facts.specs.InCauses.{LegCaused, VerdictCaused}
use Rattle.sr_inv_order.proofs.Rising.{and_false, or_false}
use Rattle.sr_law.specs.Full.{answers_before, held_count, is_held_in, may_be_full, may_push, words_since}
use Rattle.sr_law.specs.Held.{clears_between, is_between, matches_entry, may_clash, reserves_against}
use Rattle.sr_law.specs.TakenDown.{is_down, is_known_down, takes_down, takes_down_before}
use Rattle.sr_law.specs.Ticks.{is_controller, out_of}
use Rattle.sr_law.specs.declared.line.Line.{Line}
use Rattle.sr_law.specs.declared.verdict.Verdict.{Verdict}
use Rattle.sr_machine.specs.declared.flight.Flight.{Flight}
use Rattle.sr_machine.specs.declared.leg.Leg.{Leg}
use Rattle.sr_machine.specs.declared.leg.Leg.TheVariants.{Look, Hit, Filter, Chosen, Judged}
use Rattle.sr_law.specs.declared.line.Line.TheVariants as line
use Rattle.sr_law.specs.declared.verdict.Verdict.TheVariants as verdict
use Rattle.sr_law.specs.declared.verdict.HeldBy.TheVariants as by

-- the line is not of a packet of this pipe
abbrev pub IsOther : ℕ → Line → Type 0
IsOther p (line.Packet number entered out pipe key kind v) = pipe ≢ p
IsOther p l = Unit {0}

pub or_second : (a b : Bool) → b ≡ true → (a || b) ≡ true
or_second true b h = refl
or_second false b h = h

pub any_more : (f g : Line → Bool) → ((l : Line) → f l ≡ true → g l ≡ true) → (lines : List Line) → list_any f lines ≡ true
    → list_any g lines ≡ true
any_more f g h [] e = cc
any_more f g h (l ∷ rest) e = at (f l) refl e (any_more f g h rest)
  where
    now : (b : Bool) → b ≡ true → (b || list_any g rest) ≡ true
    now true t = refl
    now false t = cc

    at : (b : Bool) → f l ≡ b → (b || list_any f rest) ≡ true → (list_any f rest ≡ true → list_any g rest ≡ true)
        → (g l || list_any g rest) ≡ true
    at true q t more = now (g l) (h l q)
    at false q t more = or_second (g l) (list_any g rest) (more t)

module _ (x : Line) (lines : List Line) (entered : ℕ) (late : entered < out_of x) where
  past : nat_lt (out_of x) entered ≡ false
  past = grind (arith, nat_tests)

  known_more : (server : ℕ) → is_known_down lines server entered ≡ false → is_known_down (x ∷ lines) server entered ≡ false
  known_more server h =
      or_false ((is_controller x && nat_lt (out_of x) entered) && list_any (takes_down_before server entered) lines) (is_known_down lines server entered)
      (and_false (is_controller x && nat_lt (out_of x) entered) (list_any (takes_down_before server entered) lines) (at (is_controller x) (nat_lt (out_of x) entered) past)) h
    where
      at : (a b : Bool) → b ≡ false → (a && b) ≡ false
      at true b e = e
      at false b e = refl

  down_more : (server : ℕ) → is_down lines server ≡ true → is_down (x ∷ lines) server ≡ true
  down_more server h = or_second (takes_down server x) (is_down lines server) h

  -- it clears nothing before the packet entered
  clears_none : (key : KeyView) (place : Place) (low : ℕ) → clears_between key place low entered x ≡ false
  clears_none key place low = at x past
    where
      two : (a b : Bool) → b ≡ false → (a && b) ≡ false
      two true b e = e
      two false b e = refl

      at : (m : Line) → nat_lt (out_of m) entered ≡ false → clears_between key place low entered m ≡ false
      at (line.Cleared out cleared where_to) p =
          two (same_key cleared key && same_place where_to place) (is_between low entered out) (two (nat_lt low out) (nat_lt out entered) p)
      at m p = refl

  clash_more : (shape : Shape) (c : KeyView) → may_clash shape lines c entered ≡ true → may_clash shape (x ∷ lines) c entered ≡ true
  clash_more shape c h =
      or_second (reserves_against shape (x ∷ lines) c entered x) (list_any (reserves_against shape (x ∷ lines) c entered) lines)
      (any_more (reserves_against shape lines c entered) (reserves_against shape (x ∷ lines) c entered) at lines h)
    where
      at : (m : Line) → reserves_against shape lines c entered m ≡ true → reserves_against shape (x ∷ lines) c entered m ≡ true
      at (line.Reserved out key place) h =
          ap (λ b. matches_entry shape c key place && not (b || list_any (clears_between key place out entered) lines)) (clears_none key place out) ∙ h
      at m h = h

  -- it answers nothing before the packet entered
  answers_none : (p n : ℕ) → answers_before p n entered x ≡ false
  answers_none p n = at x past
    where
      two : (a b : Bool) → b ≡ false → (a && b) ≡ false
      two true b e = e
      two false b e = refl

      at : (m : Line) → nat_lt (out_of m) entered ≡ false → answers_before p n entered m ≡ false
      at (line.Answer out pipe nth key v) q = two ((pipe == p) && (nth == n)) (nat_lt out entered) q
      at m q = refl

  since_same : (p : ℕ) (some : List Line) → words_since (x ∷ lines) p entered some ≡ words_since lines p entered some
  since_same p [] = refl
  since_same p (l ∷ before) =
      ap (λ b. if (is_held_in p l && (b || list_any (answers_before p (1 + held_count p before) entered) lines)) then 0 else ((if may_push p l then 1 else 0) + words_since (x ∷ lines) p entered before)) (answers_none p (1 + held_count p before))
      ∙ ap (λ n. if (is_held_in p l && list_any (answers_before p (1 + held_count p before) entered) lines) then 0 else ((if may_push p l then 1 else 0) + n)) (since_same p before)

  other_silent : (p : ℕ) (m : Line) → IsOther p m → (is_held_in p m ≡ false) × (may_push p m ≡ false)
  other_silent p (line.Packet number e out pipe key kind (verdict.Held why)) o =
      let apart : (pipe == p) ≡ false = grind (arith, nat_tests) in (apart, and_false (pipe == p) _ apart)
  other_silent p (line.Packet number e out pipe key kind (verdict.To server version pool)) o =
      let apart : (pipe == p) ≡ false = grind (arith, nat_tests) in (refl, and_false (pipe == p) _ apart)
  other_silent p (line.Packet number e out pipe key kind (verdict.Down server version pool)) o =
      let apart : (pipe == p) ≡ false = grind (arith, nat_tests) in (refl, and_false (pipe == p) _ apart)
  other_silent p (line.Packet number e out pipe key kind verdict.Full) o =
      let apart : (pipe == p) ≡ false = grind (arith, nat_tests) in (refl, and_false (pipe == p) _ apart)
  other_silent p (line.Packet number e out pipe key kind verdict.NoPlace) o =
      let apart : (pipe == p) ≡ false = grind (arith, nat_tests) in (refl, and_false (pipe == p) _ apart)
  other_silent p m o = (refl, refl)

  none_more : (n : ℕ) → 0 + n ≡ n
  none_more n = omega arith

  full_more : (shape : Shape) (p : ℕ) → IsOther p x → may_be_full shape lines p entered ≡ true → may_be_full shape (x ∷ lines) p entered ≡ true
  unfolding may_be_full
  full_more shape p o h =
      let silent = other_silent p x o in
      let same : words_since (x ∷ lines) p entered (x ∷ lines) ≡ words_since lines p entered lines =
      ap (λ b. if (b && list_any (answers_before p (1 + held_count p lines) entered) (x ∷ lines)) then 0 else ((if may_push p x then 1 else 0) + words_since (x ∷ lines) p entered lines)) silent.0
      ∙ (ap (λ b. (if b then 1 else 0) + words_since (x ∷ lines) p entered lines) silent.1 ∙ (none_more (words_since (x ∷ lines) p entered lines) ∙ since_same p lines)) in
      ap (λ n. nat_le shape.ring n) same ∙ h

  verdict_more : (shape : Shape) (p : ℕ) (key : KeyView) (v : Verdict) → IsOther p x → VerdictCaused shape lines p key entered v
      → VerdictCaused shape (x ∷ lines) p key entered v
  verdict_more shape p key (verdict.To server version pool) o h = known_more server h
  verdict_more shape p key (verdict.Down server version pool) o h = down_more server h
  verdict_more shape p key (verdict.Held by.Clash) o h = clash_more shape key h
  verdict_more shape p key (verdict.Held by.Hold) o h = h
  verdict_more shape p key (verdict.Held by.Transit) o h = h
  verdict_more shape p key verdict.Full o h = full_more shape p o h
  verdict_more shape p key verdict.NoPlace o h = h

  opener_more : (kind : Kind) (P Q : Type 0) → (P → Q) → IfOpener kind P → IfOpener kind Q
  opener_more Opener P Q h t = h t
  opener_more Carry P Q h t = tt
  opener_more Ending P Q h t = tt

-- the cause of a packet in flight
pub leg_more : (shape : Shape) (x : Line) (lines : List Line) (p : ℕ) (f : Flight) (leg : Leg) → f.entered < out_of x → IsOther p x
    → LegCaused shape lines p f leg
    → LegCaused shape (x ∷ lines) p f leg
leg_more shape x lines p f (Hit place version) late o h =
    opener_more x lines f.entered late f.packet.kind _ _ (clash_more x lines f.entered late shape f.packet.key) h
leg_more shape x lines p f (Judged v last) late o h = verdict_more x lines f.entered late shape p f.packet.key v o h
leg_more shape x lines p f (Look place rest) late o h = tt
leg_more shape x lines p f (Filter bit rest) late o h = tt
leg_more shape x lines p f (Chosen version load) late o h = tt
