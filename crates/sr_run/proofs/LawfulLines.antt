-- The lines of the command `one` are lawful: every connection has pool 1, each line names its choice, ticks rise, and each packet has its line.
use Rattle.std.proofs.Common.{◌≡◌, ℕ, zero, suc, ◌+◌, ◌<◌, ◌≤◌, Bool, true, false, cond, not, ◌||◌, ◌&&◌, ◌==◌, List, [], ◌∷◌, ◌++◌, length, take, reverse, Option, Some, None, refl, sym, ap, ◌∙◌, subst, append_assoc, append-nil, Ok, arith}
use Rattle.std.specs.Prelude.{slice_get, slice_index, nat_le, nat_lt, option_map, count_by}
use Rattle.std.specs.List.{range_with_len, list_any, list_all}
use Rattle.std.specs.Option.{option_or}
use Rattle.std.proofs.lemmas.List.{reverse-append}
use Rattle.std.proofs.lemmas.List.FromFn.{get_or-range_with_len, length-range_with_len}
use Rattle.std.proofs.lemmas.List.Sums.{sum_by-append, sum_by-cons}
use Rattle.std.proofs.lemmas.Bool.{eq-eqb, ne_eqb, and_from, lt-ltb, le-ltb, le-leb, lt-leb}
use Rattle.sr_base.specs.Key.{KeyView, same_key}
use Rattle.sr_base.specs.declared.kind.Kind.{Kind}
use Rattle.sr_base.specs.declared.kind.Kind.TheVariants.{Opener, Carry, Ending}
use Rattle.sr_base.specs.declared.packet.Packet.{Packet}
use Rattle.sr_hash.specs.Uses.{selected}
use Rattle.sr_law.specs.declared.line.Line.{Line}
use Rattle.sr_law.specs.declared.line.Line.TheVariants as lines
use Rattle.sr_law.specs.declared.opening.Opening.{Opening}
use Rattle.sr_law.specs.declared.verdict.Verdict.TheVariants.{To}
use Rattle.sr_law.specs.Cause.{meets_cause}
use Rattle.sr_law.specs.Final.{packets_of, same_packet, is_as_often, all_held_answered, answer_is_held, meets_final}
use Rattle.sr_law.specs.Given.{has_pool, last_given, last_version}
use Rattle.sr_law.specs.Groups.{keeps_groups}
use Rattle.sr_law.specs.Lawful.{broken, IsLawful, NoLineBreaks}
use Rattle.sr_law.specs.Newer.{last_switched, is_new_pool, meets_newer}
use Rattle.sr_law.specs.Number.{meets_number}
use Rattle.sr_law.specs.Opening.{opening, is_open, opened_by}
use Rattle.sr_law.specs.Order.{meets_order}
use Rattle.sr_law.specs.Pools.{pool_of, server_of, picked}
use Rattle.sr_law.specs.Ranges.{in_range}
use Rattle.sr_law.specs.Retire.{EndingPacket, endings_of, meets_retire}
use Rattle.sr_law.specs.Rising.{rises, share_tick, was_in_pipe, after_last}
use Rattle.sr_law.specs.Same.{keeps_pool}
use Rattle.sr_law.specs.Server.{meets_server, is_number}
use Rattle.sr_law.specs.Setup.{SetupView}
use Rattle.sr_law.specs.Taken.{keeps_places}
use Rattle.sr_law.specs.TakenDown.{is_known_down}
use Rattle.sr_law.specs.Ticks.{out_of, start_of}
use Rattle.sr_law.proofs.Clauses.{none_broken}
use Rattle.sr_law.proofs.Kept.{kept}
use Rattle.sr_law.proofs.Switches.{newer}
use Rattle.sr_frame.specs.declared.skip.Skip.{Skip}
use Rattle.sr_run.specs.One.{one_lines, one_pools, one_setup, one_text, opening_line, packet_line, packet_lines, one_packets, one_skips, printed, printed_in, PrintsLawful}
use Rattle.sr_capture.specs.Capture.{capture_of}
use Rattle.sr_capture.specs.Clock.{new_clock}
use Rattle.sr_capture.specs.Records.{Records}
use Rattle.sr_text.specs.LineText.{log_text}
use Rattle.sr_played.proofs.FrameVips.{AllFirstVip, packets_first}

-- ---- what is true of the lines so far, the newest first

-- every connection that is open has pool 1, which version 0 names
abbrev HasPoolOne : Option Opening → Type 0
HasPoolOne None = Unit {0}
HasPoolOne (Some o) = o.pool ≡ 1

-- all their ticks are below this one
abbrev AllEarlier : ℕ → List Line → Type 0
AllEarlier tick [] = Unit {0}
AllEarlier tick (line ∷ before) = (out_of line < tick) × (start_of line < tick) × AllEarlier tick before

record Printed (tick : ℕ) (before : List Line) (seen : List Packet) : Type 0 where
  some : 1 ≤ length before
  earlier : AllEarlier tick before
  given : last_given before 0 ≡ Some (record { version = 0; pool = 1 })
  version : last_version before 0 0 ≡ Some (record { version = 0; pool = 1 })
  opened : (c : KeyView) → HasPoolOne (opening before c)
  unswitched : (at : ℕ) → last_switched before 0 at ≡ None
  all_up : (server at : ℕ) → is_known_down before server at ≡ false
  none_held : (all : List Line) → all_held_answered all before ≡ true
  none_answered : (all : List Line) → list_all (answer_is_held all) before ≡ true
  packets : packets_of before ≡ seen

earlier_more : (tick later : ℕ) (before : List Line) → tick ≤ later → AllEarlier tick before → AllEarlier later before
earlier_more tick later [] le early = tt
earlier_more tick later (line ∷ before) le early = (omega arith, omega arith, earlier_more tick later before le early.2)

first_of : (a b : Option Opening) → HasPoolOne a → HasPoolOne b → HasPoolOne (option_or a b)
first_of None b first second = second
first_of (Some o) b first second = first

opens_if : (test : Bool) (o : Opening) → o.pool ≡ 1 → HasPoolOne (cond test (Some o) None)
opens_if true o is = is
opens_if false o is = tt

opens_by : (number tick server : ℕ) (key : KeyView) (kind : Kind) (c : KeyView) → HasPoolOne (opened_by (lines.Packet number tick (tick + 1) 0 key kind (To server 0 1)) c)
opens_by number tick server key Opener c = opens_if (same_key key c) _ refl
opens_by number tick server key Carry c = tt
opens_by number tick server key Ending c = tt

never : (b : Bool) → ((b && false) || false) ≡ false
never true = refl
never false = refl

and_no : (b : Bool) → (b && false) ≡ false
and_no true = refl
and_no false = refl

begins : Printed 2 (opening_line ∷ []) []
begins = record {
  some = omega arith;
  earlier = (omega arith, omega arith, tt);
  given = refl;
  version = refl;
  opened = λ c. tt;
  unswitched = λ at. refl;
  all_up = λ server at. never (nat_lt 1 at);
  none_held = λ all. refl;
  none_answered = λ all. refl;
  packets = refl;
}

one_more : (servers tick : ℕ) (packet : Packet) (before : List Line) (seen : List Packet) → Printed tick before seen → Printed (tick + 2) (packet_line servers tick packet ∷ before) (packet ∷ seen)
one_more servers tick packet before seen held = record {
  some = omega arith;
  earlier = (omega arith, omega arith, earlier_more tick (tick + 2) before (omega arith) held.earlier);
  given = held.given;
  version = held.version;
  opened = λ c. first_of (opening before c) _ (held.opened c) (opens_by packet.number tick (selected servers packet.key) packet.key packet.kind c);
  unswitched = held.unswitched;
  all_up = held.all_up;
  none_held = held.none_held;
  none_answered = held.none_answered;
  packets = ap (λ ps. packet ∷ ps) held.packets;
}

-- ---- a packet's line breaks no clause

or_true : (b : Bool) → (b || true) ≡ true
or_true true = refl
or_true false = refl

keeps_one : (o : Option Opening) (start : ℕ) → HasPoolOne o → keeps_pool o start 1 ≡ true
keeps_one None start one = refl
keeps_one (Some o) start one = ap (λ b. nat_le start o.out || b) (eq-eqb 1 o.pool (sym one)) ∙ or_true (nat_le start o.out)

-- the pool of all the servers gives the server that the hash picks
picks : (servers : ℕ) (key : KeyView) → selected servers key < servers → picked (range_with_len 0 servers) key ≡ selected servers key
picks servers key below =
    ap (λ n. slice_index (range_with_len 0 servers) (selected n key)) (length-range_with_len 0 servers)
    ∙ get_or-range_with_len 0 servers (selected servers key) 0 below ∙ omega arith

right_server : (servers : ℕ) (key : KeyView) → key.vip ≡ 0 → selected servers key < servers → is_number (server_of (one_pools servers) 1 key) (selected servers key) ≡ true
right_server servers key first below =
    ap (λ vip. is_number (option_map (λ pool. picked pool key) (pool_of (one_pools servers) vip 1)) (selected servers key)) first
    ∙ eq-eqb (picked (range_with_len 0 servers) key) (selected servers key) (picks servers key below)

meets_all_servers : (servers tick : ℕ) (packet : Packet) (before : List Line) (seen : List Packet) → Printed tick before seen → packet.key.vip ≡ 0 → selected servers packet.key < servers → meets_server (one_pools servers) before (packet_line servers tick packet) ≡ true
meets_all_servers servers tick packet before seen held first below =
    and_from _ _ (ap (λ v. has_pool (last_version before v 0) 1) first ∙ ap (λ o. has_pool o 1) held.version) (right_server servers packet.key first below)

-- two numbers of which neither is one of two earlier ones
none_shared : (tick out start : ℕ) → out < tick → start < tick → (((tick + 1 == out) || (tick + 1 == start)) || ((tick == out) || (tick == start))) ≡ false
none_shared tick out start a b =
    rw (ne_eqb (tick + 1) out (λ e. absurd (omega arith)), ne_eqb (tick + 1) start (λ e. absurd (omega arith)), ne_eqb tick out (λ e. absurd (omega arith)), ne_eqb tick start (λ e. absurd (omega arith))) refl

new_ticks : (servers tick : ℕ) (packet : Packet) (before : List Line) → AllEarlier tick before → list_any (share_tick (packet_line servers tick packet)) before ≡ false
new_ticks servers tick packet [] early = refl
new_ticks servers tick packet (line ∷ before) early =
    rw (none_shared tick (out_of line) (start_of line) early.0 early.1) (new_ticks servers tick packet before early.2)

in_pipe_before : (tick : ℕ) (line : Line) → out_of line < tick → was_in_pipe 0 tick line ≡ false
in_pipe_before tick (lines.Packet number entered out at key kind verdict) early = rw (lt-leb tick out early) (and_no (at == 0))
in_pipe_before tick line early = refl

one_at_a_time : (tick : ℕ) (before : List Line) → AllEarlier tick before → list_any (was_in_pipe 0 tick) before ≡ false
one_at_a_time tick [] early = refl
one_at_a_time tick (line ∷ before) early = rw (in_pipe_before tick line early.0) (one_at_a_time tick before early.2)

comes_after : (servers tick : ℕ) (packet : Packet) (before : List Line) → AllEarlier tick before → after_last before (packet_line servers tick packet) ≡ true
comes_after servers tick packet [] early = refl
comes_after servers tick packet (line ∷ before) early = lt-ltb (out_of line) (tick + 1) (omega arith)

rises_on : (servers tick : ℕ) (packet : Packet) (before : List Line) → 1 ≤ tick → AllEarlier tick before → rises before (packet_line servers tick packet) ≡ true
unfolding rises
rises_on servers tick packet before one early =
    rw (comes_after servers tick packet before early, le-leb 1 tick one, lt-ltb tick (tick + 1) (omega arith), new_ticks servers tick packet before early, one_at_a_time tick before early) refl

groups_kept : (servers tick : ℕ) (packet : Packet) (packets : List Packet) (before : List Line) → 1 ≤ length before → keeps_groups (one_setup servers packets) before (packet_line servers tick packet) ≡ true
unfolding keeps_groups
groups_kept servers tick packet packets before some = rw (le-ltb (length before) 1 some) refl

ranges_kept : (servers tick : ℕ) (packet : Packet) (packets : List Packet) → packet.key.vip ≡ 0 → selected servers packet.key < servers → in_range (one_setup servers packets) (packet_line servers tick packet) ≡ true
unfolding in_range
ranges_kept servers tick packet packets first below =
    let vip : nat_lt packet.key.vip 1 ≡ true = ap (λ v. nat_lt v 1) first in
    let server : nat_lt (selected servers packet.key) servers ≡ true = lt-ltb (selected servers packet.key) servers below in
    and_from _ _ (and_from _ _ (and_from _ _ vip refl) server) refl

order_kept : (servers tick : ℕ) (packet : Packet) (packets : List Packet) (before : List Line) (seen : List Packet) → 1 ≤ tick → Printed tick before seen → packet.key.vip ≡ 0 → selected servers packet.key < servers → meets_order (one_setup servers packets) before (packet_line servers tick packet) ≡ true
unfolding meets_order keeps_places
order_kept servers tick packet packets before seen one held first below =
    rw (groups_kept servers tick packet packets before held.some, rises_on servers tick packet before one held.earlier, ranges_kept servers tick packet packets first below) refl

new_pool : (before : List Line) (start : ℕ) (o : Option Opening) → last_switched before 0 start ≡ None → last_given before 0 ≡ Some (record { version = 0; pool = 1 }) → HasPoolOne o → is_new_pool before 0 start o ≡ true
new_pool before start None unswitched given one = refl
new_pool before start (Some o) unswitched given one = rw (unswitched, given, one) refl

newer_kept : (servers tick : ℕ) (packet : Packet) (before : List Line) (seen : List Packet) → Printed tick before seen → packet.key.vip ≡ 0 → meets_newer before (packet_line servers tick packet) ≡ true
unfolding meets_newer
newer_kept servers tick packet before seen held first =
    let o = opened_by (packet_line servers tick packet) packet.key in
    let fresh : is_new_pool before packet.key.vip tick o ≡ true =
    ap (λ v. is_new_pool before v tick o) first
    ∙ new_pool before tick o (held.unswitched tick) held.given (opens_by packet.number tick (selected servers packet.key) packet.key packet.kind packet.key) in
    ap (λ b. is_open before packet.key || b) fresh ∙ or_true (is_open before packet.key)

cause_kept : (servers tick : ℕ) (packet : Packet) (packets : List Packet) (before : List Line) (seen : List Packet) → Printed tick before seen → meets_cause (one_setup servers packets) before (packet_line servers tick packet) ≡ true
unfolding meets_cause
cause_kept servers tick packet packets before seen held = ap not (held.all_up (selected servers packet.key) tick)

retire_kept : (servers tick : ℕ) (packet : Packet) (packets : List Packet) (endings : List EndingPacket) (before : List Line) → meets_retire (one_setup servers packets) endings before (packet_line servers tick packet) ≡ true
unfolding meets_retire
retire_kept servers tick packet packets endings before = refl

number_kept : (servers tick : ℕ) (packet : Packet) (packets : List Packet) (before : List Line) → meets_number (one_setup servers packets) before (packet_line servers tick packet) ≡ true
unfolding meets_number
number_kept servers tick packet packets before = refl

packet_breaks_none : (servers tick : ℕ) (packet : Packet) (packets : List Packet) (endings : List EndingPacket) (before : List Line) (seen : List Packet) → 1 ≤ tick → Printed tick before seen → packet.key.vip ≡ 0 → selected servers packet.key < servers → broken (one_setup servers packets) endings before (packet_line servers tick packet) ≡ None
packet_breaks_none servers tick packet packets endings before seen one held first below =
    none_broken (one_setup servers packets) endings before (packet_line servers tick packet) (record {
      order = order_kept servers tick packet packets before seen one held first below;
      server = meets_all_servers servers tick packet before seen held first below;
      same = keeps_one (opening before packet.key) tick (held.opened packet.key);
      newer = newer_kept servers tick packet before seen held first;
      number = number_kept servers tick packet packets before;
      cause = cause_kept servers tick packet packets before seen held;
      retire = retire_kept servers tick packet packets endings before;
    })

opening_breaks_none : (servers : ℕ) (packets : List Packet) (endings : List EndingPacket) → broken (one_setup servers packets) endings [] opening_line ≡ None
unfolding broken meets_order keeps_groups rises in_range keeps_places meets_newer meets_number meets_cause meets_retire
opening_breaks_none servers packets endings = refl

-- ---- all lines

-- each of these lines breaks none, one after the other
abbrev NoneBreaks : SetupView → List EndingPacket → List Line → List Line → Type 0
NoneBreaks setup endings before [] = Unit {0}
NoneBreaks setup endings before (line ∷ rest) = (broken setup endings before line ≡ None) × NoneBreaks setup endings (line ∷ before) rest

packets_break_none : (servers tick : ℕ) (packets all : List Packet) (endings : List EndingPacket) (before : List Line) (seen : List Packet) → 1 ≤ tick → Printed tick before seen → AllFirstVip packets → ((key : KeyView) → selected servers key < servers)
    → NoneBreaks (one_setup servers all) endings before (packet_lines servers tick packets)
packets_break_none servers tick [] all endings before seen one held first below = tt
packets_break_none servers tick (packet ∷ packets) all endings before seen one held first below = (
  packet_breaks_none servers tick packet all endings before seen one held first.0 (below packet.key),
  packets_break_none servers (tick + 2) packets all endings (packet_line servers tick packet ∷ before) (packet ∷ seen) (omega arith) (one_more servers tick packet before seen held) first.1 below,
)

-- from the lines one after the other to the lines by their positions
by_position : (setup : SetupView) (endings : List EndingPacket) (before rest : List Line) (i : ℕ) (line : Line) → NoneBreaks setup endings before rest → slice_get rest i ≡ Some line → broken setup endings (reverse (take i rest) ++ before) line ≡ None
by_position setup endings before [] i line all at = absurd cc
by_position setup endings before (l ∷ rest) zero line all at = let same : l ≡ line = cc in subst (λ k. broken setup endings before k ≡ None) same all.0
by_position setup endings before (l ∷ rest) (suc i) line all at =
    subst (λ b. broken setup endings b line ≡ None) (sym (ap (λ r. r ++ before) (reverse-append (l ∷ []) (take i rest)) ∙ append_assoc (reverse (take i rest)) (l ∷ []) before))
    (by_position setup endings (l ∷ before) rest i line all.1 at)

none_breaks : (servers : ℕ) (packets : List Packet) (endings : List EndingPacket) → 1 ≤ servers → AllFirstVip packets → NoLineBreaks (one_setup servers packets) endings (one_lines servers packets)
none_breaks servers packets endings some first i line at =
    let setup = one_setup servers packets in
    let all : NoneBreaks setup endings [] (one_lines servers packets) =
    (opening_breaks_none servers packets endings, packets_break_none servers 2 packets packets endings (opening_line ∷ []) [] (omega arith) begins first (λ key. omega arith)) in
    subst (λ b. broken setup endings b line ≡ None) (append-nil (reverse (take i (one_lines servers packets)))) (by_position setup endings [] (one_lines servers packets) i line all at)

-- what is true of the lines so far is true of all of them
all_printed : (servers tick : ℕ) (packets : List Packet) (before : List Line) (seen : List Packet) → Printed tick before seen → (last : ℕ) × Printed last (reverse (packet_lines servers tick packets) ++ before) (reverse packets ++ seen)
all_printed servers tick [] before seen held = (tick, held)
all_printed servers tick (packet ∷ packets) before seen held =
    let line = packet_line servers tick packet in
    let rest = packet_lines servers (tick + 2) packets in
    let e : reverse (line ∷ rest) ++ before ≡ reverse rest ++ (line ∷ before) = ap (λ r. r ++ before) (reverse-append (line ∷ []) rest) ∙ append_assoc (reverse rest) (line ∷ []) before in
    let f : reverse (packet ∷ packets) ++ seen ≡ reverse packets ++ (packet ∷ seen) = ap (λ r. r ++ seen) (reverse-append (packet ∷ []) packets) ∙ append_assoc (reverse packets) (packet ∷ []) seen in
    let (last, all) = all_printed servers (tick + 2) packets (line ∷ before) (packet ∷ seen) (one_more servers tick packet before seen held) in
    (last, rw (e, f) all)

-- ---- each packet has its line

count_reverse : (test : Packet → Bool) (xs : List Packet) → count_by test (reverse xs) ≡ count_by test xs
count_reverse test [] = refl
count_reverse test (x ∷ xs) =
    let f : Packet → ℕ = λ y. cond (test y) 1 0 in
    let a : count_by test (reverse (x ∷ xs)) ≡ count_by test (reverse xs ++ x ∷ []) = ap (count_by test) (reverse-append (x ∷ []) xs) in
    let b : count_by test (reverse xs ++ x ∷ []) ≡ count_by test (reverse xs) + count_by test (x ∷ []) = sum_by-append f (reverse xs) (x ∷ []) in
    let c : count_by test (x ∷ []) ≡ f x + 0 = sum_by-cons f x [] in
    let d : count_by test (x ∷ xs) ≡ f x + count_by test xs = sum_by-cons f x xs in
    let e : count_by test (reverse xs) ≡ count_by test xs = count_reverse test xs in
    a ∙ omega arith

as_often : (xs ys : List Packet) (p : Packet) → xs ≡ reverse ys → is_as_often xs ys p ≡ true
unfolding is_as_often
as_often xs ys p e = eq-eqb (count_by (same_packet p) xs) (count_by (same_packet p) ys) (ap (count_by (same_packet p)) e ∙ count_reverse (same_packet p) ys)

all_as_often : (xs ys zs : List Packet) → xs ≡ reverse ys → list_all (is_as_often xs ys) zs ≡ true
all_as_often xs ys [] e = refl
all_as_often xs ys (z ∷ zs) e = rw (as_often xs ys z e) (all_as_often xs ys zs e)

final_met : (servers last : ℕ) (packets : List Packet) (all : List Line) → Printed last all (reverse packets) → meets_final (one_setup servers packets) all ≡ true
unfolding meets_final
final_met servers last packets all held =
    rw (le-leb 1 (length all) held.some, all_as_often (packets_of all) packets (packets_of all) held.packets, all_as_often (packets_of all) packets packets held.packets, held.none_held all, held.none_answered all) refl

-- the lines of the command are lawful for its setup
pub one_is_lawful : (servers : ℕ) (packets : List Packet) → 1 ≤ servers → AllFirstVip packets → IsLawful (one_setup servers packets) (one_lines servers packets)
one_is_lawful servers packets some first =
    let (last, held) = all_printed servers 2 packets (opening_line ∷ []) [] begins in
    let rest = packet_lines servers 2 packets in
    let e : reverse (one_lines servers packets) ≡ reverse rest ++ (opening_line ∷ []) = reverse-append (opening_line ∷ []) rest in (
      none_breaks servers packets (endings_of (reverse (one_lines servers packets))) some first,
      final_met servers last packets (reverse (one_lines servers packets)) (rw (e, sym (append-nil (reverse packets))) held),
    )

-- what is printed is the text of the lines
text_of_lines : (servers : ℕ) (skips : List (ℕ × Skip)) (packets : List Packet) → one_text servers skips packets ≡ log_text skips (one_lines servers packets)
unfolding one_text
text_of_lines servers skips packets = refl

-- of each capture whose header isn't refused
pub prints_lawful : (vip : ℕ × ℕ) (servers : ℕ) (bytes : List ℕ) (records : Records) → 1 ≤ servers → capture_of bytes ≡ Ok records → PrintsLawful vip servers bytes
unfolding printed
prints_lawful vip servers bytes records some captured =
    let packets = one_packets vip records in
    let lawful = one_is_lawful servers packets some (packets_first vip new_clock 1 records.frames) in (
      records,
      captured,
      record {
        lines = one_lines servers packets;
        printed = ap (λ r. printed_in r vip servers) captured ∙ text_of_lines servers (one_skips vip records) packets;
        lawful = lawful;
        kept = kept (one_setup servers packets) (endings_of (reverse (one_lines servers packets))) (one_lines servers packets) lawful.0;
        newer = newer (one_setup servers packets) (endings_of (reverse (one_lines servers packets))) (one_lines servers packets) lawful.0;
      },
    )
