-- A list of which no line breaks a clause so far falls from the newest line on; so the lines that can cross the next one are its newest.
use Rattle.std.proofs.Common.{◌≡◌, ℕ, ◌+◌, ◌<◌, ◌≤◌, Bool, true, false, not, ◌&&◌, ◌||◌, cond, List, [], ◌∷◌, length, None, refl, sym, ap, ◌∙◌, inl, inr, true≢false, arith}
use Rattle.std.specs.List.{list_any, take_while}
use Rattle.std.specs.Prelude.{nat_eq, nat_le, nat_lt}
use Rattle.std.proofs.lemmas.Bool.{and_parts, cases_Bool, ltb-true, leb-true, leb-false}
use Rattle.std.proofs.lemmas.Bool.Decides.{nat_tests}
use Rattle.std.proofs.lemmas.List.Sums.{take_while-cons}
use Rattle.sr_law.specs.declared.line.Line.{Line}
use Rattle.sr_law.specs.declared.line.Line.TheVariants.{Packet, Swept}
use Rattle.sr_law.specs.Groups.{keeps_groups}
use Rattle.sr_law.specs.Lawful.{broken, breach_at, first_broken}
use Rattle.sr_law.specs.Order.{meets_order, refuses_next}
use Rattle.sr_law.specs.Ranges.{in_range, if_below, vip_of, pipe_of, server_named, names_own_place}
use Rattle.sr_law.specs.Retire.{EndingPacket, last_sweep}
use Rattle.sr_law.specs.Rising.{after_last, has_two_ticks, is_in_time, share_tick, has_new_ticks, one_by_one, rises, was_controlling}
use Rattle.sr_law.specs.Setup.{SetupView}
use Rattle.sr_law.specs.Taken.{keeps_places}
use Rattle.sr_law.specs.Ticks.{out_of, start_of}
use Rattle.sr_law.proofs.Breaches.{first_parts, at_none}
use Rattle.sr_law.proofs.Clauses.{meets}
use Rattle.sr_audit.specs.Clashes.{KeepsPlaces}
use Rattle.sr_audit.specs.Used.{IsBegunFrom, SweepsRise, begun}
use Rattle.sr_audit.specs.Lately.{AreOut, Falls, is_in_way, crosses, is_late, crosses_lately}

-- a line that stands in order rises
in_order : (setup : SetupView) (before : List Line) (line : Line) → meets_order setup before line ≡ true → rises before line ≡ true
unfolding meets_order
in_order setup before line e =
    let groups = keeps_groups setup before line in
    let rising = rises before line in
    let ranged = in_range setup line in
    let placed = keeps_places before line in
    let a = and_parts (groups && rising && ranged && placed) (refuses_next before line) e in
    let b = and_parts (groups && rising && ranged) placed a.0 in
    let c = and_parts (groups && rising) ranged b.0 in
    (and_parts groups rising c.0).1

-- and so does one that breaks no clause
rises_of : (setup : SetupView) (endings : List EndingPacket) (before : List Line) (line : Line) → broken setup endings before line ≡ None → rises before line ≡ true
rises_of setup endings before line e =
    let m = meets setup endings before line e in
    in_order setup before line m.order

rise_parts : (before : List Line) (line : Line) → rises before line ≡ true → (after_last before line ≡ true) × (is_in_time line ≡ true)
unfolding rises
rise_parts before line e =
    let a = and_parts (after_last before line && is_in_time line && has_new_ticks before line) (one_by_one before line) e in
    let b = and_parts (after_last before line && is_in_time line) (has_new_ticks before line) a.0 in
    and_parts (after_last before line) (is_in_time line) b.0

in_time : (two : Bool) (start out : ℕ) → (nat_le 1 start && cond two (nat_lt start out) (nat_le start out)) ≡ true → start ≤ out
in_time true start out e =
    let h : start < out = ltb-true start out (and_parts (nat_le 1 start) (nat_lt start out) e).1 in
    omega arith
in_time false start out e = leb-true start out (and_parts (nat_le 1 start) (nat_le start out) e).1

-- what was out before a tick was out before a later one
pub wider : (before : List Line) (a b : ℕ) → a ≤ b → AreOut a before → AreOut b before
wider [] a b h out = tt
wider (line ∷ before) a b h out = (omega (arith, out.0, h), wider before a b h out.1)

out_more : (before : List Line) (line : Line) → Falls before → after_last before line ≡ true → AreOut (out_of line) before
out_more [] line falls e = tt
out_more (last ∷ before) line falls e =
    let h : out_of last < out_of line = ltb-true (out_of last) (out_of line) e in
    (h, wider before (out_of last) (out_of line) (omega arith) falls.1)

-- the lines before one that stands in order were out before it
pub out_in_order : (setup : SetupView) (before : List Line) (line : Line) → Falls before → meets_order setup before line ≡ true → AreOut (out_of line) before
out_in_order setup before line fall e = out_more before line fall (rise_parts before line (in_order setup before line e)).0

-- a list of which no line breaks a clause falls
pub falls : (setup : SetupView) (endings : List EndingPacket) (before : List Line) → first_broken setup endings before ≡ None → Falls before
unfolding first_broken
falls setup endings [] e = tt
falls setup endings (line ∷ before) e =
    let parts = first_parts (first_broken setup endings before) (breach_at (length before + 1) (broken setup endings before line)) e in
    let none = at_none (length before + 1) (broken setup endings before line) parts.1 in
    let rising = rise_parts before line (rises_of setup endings before line none) in
    let older = falls setup endings before parts.0 in
    (in_time (has_two_ticks line) (start_of line) (out_of line) rising.1, out_more before line older rising.0, older)

-- a line that breaks no clause keeps places, and names one of its key
places_of : (setup : SetupView) (endings : List EndingPacket) (before : List Line) (line : Line) → broken setup endings before line ≡ None
    → (keeps_places before line ≡ true) × (names_own_place setup.shape line ≡ true)
unfolding meets_order in_range
places_of setup endings before line e =
    let m = meets setup endings before line e in
    let groups = keeps_groups setup before line in
    let rising = rises before line in
    let ranged = in_range setup line in
    let placed = keeps_places before line in
    let a = and_parts (groups && rising && ranged && placed) (refuses_next before line) m.order in
    let b = and_parts (groups && rising && ranged) placed a.0 in
    let c = and_parts (groups && rising) ranged b.0 in
    let vips = if_below (length setup.pools) (vip_of line) in
    let pipes = if_below setup.shape.pipes (pipe_of line) in
    let servers = if_below setup.servers (server_named line) in
    (b.1, (and_parts (vips && pipes && servers) (names_own_place setup.shape line) c.1).1)

-- and so do those of a list of which no line breaks a clause
pub places_kept : (setup : SetupView) (endings : List EndingPacket) (before : List Line) → first_broken setup endings before ≡ None → KeepsPlaces setup.shape before
unfolding first_broken
places_kept setup endings [] e = tt
places_kept setup endings (line ∷ before) e =
    let parts = first_parts (first_broken setup endings before) (breach_at (length before + 1) (broken setup endings before line)) e in
    let none = at_none (length before + 1) (broken setup endings before line) parts.1 in
    let placed = places_of setup endings before line none in
    (placed.0, placed.1, places_kept setup endings before parts.0)

-- a sweep that crosses no line of the controller's began no sooner than the last one
or_second : (a b : Bool) → (a || b) ≡ false → b ≡ false
or_second true b e = absurd (true≢false e)
or_second false b e = e

or_first : (a b : Bool) → (a || b) ≡ false → a ≡ false
or_first true b e = e
or_first false b e = refl

not_true : (b : Bool) → not b ≡ true → b ≡ false
not_true true e = absurd (true≢false (sym e))
not_true false e = refl

begins_later : (before : List Line) (from : ℕ) → Falls before → list_any (was_controlling from) before ≡ false → begun (last_sweep before) ≤ from
begins_later [] from fall e = omega arith
begins_later (Swept number start to at_ms ∷ before) from fall e =
    let gone : to < from = leb-false from to (or_first (nat_le from to) (list_any (was_controlling from) before) e) in
    omega (arith, fall.0, gone)
begins_later (line ∷ before) from fall e = begins_later before from fall.2 (or_second (was_controlling from line) (list_any (was_controlling from) before) e)

begun_from : (before : List Line) (line : Line) → Falls before → rises before line ≡ true → IsBegunFrom (begun (last_sweep before)) line
unfolding rises
begun_from before (Swept number from to at_ms) fall e =
    let line : Line = Swept number from to at_ms in
    let a = and_parts (after_last before line && is_in_time line && has_new_ticks before line) (one_by_one before line) e in
    begins_later before from fall (not_true (list_any (was_controlling from) before) a.1)
begun_from before line fall e = tt

-- no sweep of a list of which no line breaks a clause began before the one before it did
pub sweeps_rise : (setup : SetupView) (endings : List EndingPacket) (before : List Line) → first_broken setup endings before ≡ None → SweepsRise before
unfolding first_broken
sweeps_rise setup endings [] e = tt
sweeps_rise setup endings (line ∷ before) e =
    let parts = first_parts (first_broken setup endings before) (breach_at (length before + 1) (broken setup endings before line)) e in
    let none = at_none (length before + 1) (broken setup endings before line) parts.1 in
    (begun_from before line (falls setup endings before parts.0) (rises_of setup endings before line none), sweeps_rise setup endings before parts.0)

-- ---- what was out before a line's start doesn't cross it

shares_none : (out start o s : ℕ) → start ≤ out → s ≤ o → o < start → ((nat_eq out o || nat_eq out s) || (nat_eq start o || nat_eq start s)) ≡ false
shares_none out start o s a b c = grind (arith, nat_tests)

late_none : (b : Bool) (start o : ℕ) → o < start → (b && nat_le start o) ≡ false
late_none b start o h = grind (arith, nat_tests)

way_none : (line earlier : Line) → out_of earlier < start_of line → is_in_way line earlier ≡ false
way_none (Packet number entered out pipe key kind verdict) (Packet n e o at k d v) h = late_none (nat_eq at pipe) entered o h
way_none (Packet number entered out pipe key kind verdict) earlier h = refl
way_none (Swept number from to at_ms) (Packet n e o at k d v) h = refl
way_none (Swept number from to at_ms) earlier h = late_none true from (out_of earlier) h
way_none line earlier h = refl

or_none : (a b : Bool) → a ≡ false → b ≡ false → (a || b) ≡ false
or_none a b p q = rw (p, q) refl

cross_none : (line : Line) (before : List Line) → start_of line ≤ out_of line → Falls before → AreOut (start_of line) before → list_any (crosses line) before ≡ false
cross_none line [] time fall out = refl
cross_none line (earlier ∷ before) time fall out =
    or_none (crosses line earlier) (list_any (crosses line) before)
    (or_none (share_tick line earlier) (is_in_way line earlier)
    (shares_none (out_of line) (start_of line) (out_of earlier) (start_of earlier) time fall.0 out.0)
    (way_none line earlier out.0))
    (cross_none line before time fall.2 out.1)

-- so only the newest do
lately : (line : Line) (before : List Line) → start_of line ≤ out_of line → Falls before → list_any (crosses line) before ≡ list_any (crosses line) (take_while (is_late line) before)
lately line [] time fall = refl
lately line (earlier ∷ before) time fall =
    let kept : Bool → Bool = λ b. list_any (crosses line) (cond b (earlier ∷ take_while (is_late line) before) []) in
    let parted : list_any (crosses line) (take_while (is_late line) (earlier ∷ before)) ≡ kept (is_late line earlier) =
    ap (list_any (crosses line)) (take_while-cons (is_late line) earlier before) in
    elim (cases_Bool (is_late line earlier)) [
      | inl t ↦ ap (λ b. crosses line earlier || b) (lately line before time fall.2) ∙ sym (parted ∙ ap kept t)
      | inr f ↦
          let gone : out_of earlier < start_of line = leb-false (start_of line) (out_of earlier) f in
          cross_none line (earlier ∷ before) time fall (gone, wider before (out_of earlier) (start_of line) (omega arith) fall.1) ∙ sym (parted ∙ ap kept f)
    ]

-- ---- the clause by what crosses

never : (before : List Line) → list_any (λ line. false) before ≡ false
never [] = refl
never (line ∷ before) = never before

one_way : (before : List Line) (line : Line) → one_by_one before line ≡ not (list_any (is_in_way line) before)
one_way before (Packet number entered out pipe key kind verdict) = refl
one_way before (Swept number from to at_ms) = refl
one_way before line = ap not (sym (never before))

or_four : (a b c d e : Bool) → (b || d) ≡ e → ((a || b) || (c || d)) ≡ ((a || c) || e)
or_four true b c d e h = refl
or_four false true true d e h = refl
or_four false false true d e h = refl
or_four false true false d e h = h
or_four false false false d e h = h

any_or : (p q : Line → Bool) (xs : List Line) → (list_any p xs || list_any q xs) ≡ list_any (λ x. p x || q x) xs
any_or p q [] = refl
any_or p q (x ∷ xs) = or_four (p x) (list_any p xs) (q x) (list_any q xs) (list_any (λ y. p y || q y) xs) (any_or p q xs)

by_tests : (after time shares way crossing : Bool) → (after ≡ true → time ≡ true → (shares || way) ≡ crossing) → ((after && time) && not shares && not way) ≡ (after && time && not crossing)
by_tests false time shares way crossing h = refl
by_tests true false shares way crossing h = refl
by_tests true true true way crossing h = ap not (h refl refl)
by_tests true true false way crossing h = ap not (h refl refl)

-- in a list that falls the ticks of a line rise where it comes after the last, in time, and nothing crosses it lately
pub rises_lately : (before : List Line) (line : Line) → Falls before → rises before line ≡ (after_last before line && is_in_time line && not (crosses_lately before line))
unfolding rises crosses_lately
rises_lately before line fall =
    let shares = list_any (share_tick line) before in
    let way = list_any (is_in_way line) before in
    let test : Bool → Bool = λ b. after_last before line && is_in_time line && not shares && b in
    ap test (one_way before line)
    ∙ by_tests (after_last before line) (is_in_time line) shares way (list_any (crosses line) (take_while (is_late line) before))
    (λ after time. any_or (share_tick line) (is_in_way line) before
    ∙ lately line before (in_time (has_two_ticks line) (start_of line) (out_of line) time) fall)
