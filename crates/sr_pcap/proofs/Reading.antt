-- What stands in a window, and what it says of the bytes that are still to be read through it.
use Rattle.std.proofs.Common.{◌≡◌, ℕ, ◌+◌, ◌-◌, ◌^◌, ◌<◌, ◌≤◌, min, List, [], ◌++◌, length, take, drop, Option, Some, None, Result, Ok, Err, inl, inr, refl, sym, ap, ◌∙◌, subst, append-nil, arith}
use Rattle.std.proofs.lemmas.Bool.{cond-true, cond-false, lt-ltb, le-ltb, ne_eqb}
use Rattle.std.proofs.lemmas.List.{length-drop, length-take-le, drop-append-le, take-append-le, drop-take}
use Rattle.sr_io.specs.Window.{WindowView, Pending, IsFilled, passed}
use Rattle.sr_io.proofs.Reading.{pending_long, pending_front, pending_pass, pending_all}
use Rattle.sr_pcap.specs.declared.begin_refusal.BeginRefusal.{BeginRefusal}
use Rattle.sr_pcap.specs.declared.begin_refusal.BeginRefusal.TheVariants as begin
use Rattle.sr_pcap.specs.declared.format.Format.{Format}
use Rattle.sr_pcap.specs.declared.next.Next.{Next}
use Rattle.sr_pcap.specs.declared.next.Next.TheVariants.{Whole, End, Truncated, ReadFault, TooLong}
use Rattle.sr_pcap.specs.declared.record_header.RecordHeader.{RecordHeader}
use Rattle.sr_pcap.specs.Format.{IsJudgedIn, format_of, header_of, milliseconds, captured_length, most_captured}
use Rattle.sr_pcap.specs.Next.{next_sized, next_at}
use Rattle.sr_pcap.specs.Reader.{ReaderView, TakesRecord, Stops, Looks, Found, Answers, Begins, Steps, ended_by, offset_after}
use Rattle.sr_pcap.specs.RecordHeader.{HeaderOf, Spells}

-- too few bytes for a header
pub header_cut : (xs : List ℕ) → length xs < 24 → header_of xs ≡ Err (begin.Truncated 0)
unfolding header_of
header_cut xs few = cond-true _ _ _ (lt-ltb (length xs) 24 few)

-- a whole header
pub header_whole : (xs header : List ℕ) → 24 ≤ length xs → header ≡ take 24 xs → header_of xs ≡ format_of header
unfolding header_of
header_whole xs header enough same = cond-false _ _ _ (le-ltb (length xs) 24 enough) ∙ ap format_of (sym same)

-- a window that has a whole header, or all that comes
pub header_pending : (w : WindowView) (left : Option (List ℕ)) (xs : List ℕ) → IsFilled w 24 → Pending w left xs → header_of w.unread ≡ header_of xs
header_pending w left xs (inl enough) p =
    header_whole w.unread (take 24 w.unread) enough refl
    ∙ sym (header_whole xs (take 24 w.unread) (omega (arith, pending_long w left xs p)) (sym (pending_front w left xs 24 enough p)))
header_pending w left xs (inr over) p =
    ap header_of (sym (p.whole ∙ ap (λ (ys : List ℕ). w.unread ++ ys) (p.none over) ∙ append-nil w.unread))

-- a header was refused
pub begins_not : (why : BeginRefusal) (w : WindowView) (xs : List ℕ) (left : Option (List ℕ)) → header_of w.unread ≡ Err why → IsJudgedIn (Err why) (length w.unread) → IsFilled w 24
    → Pending w left xs → Begins (Err why) xs left
begins_not (begin.Truncated offset) w xs left e judged filled p = (sym (header_pending w left xs filled p) ∙ e, (pending_all w left xs 24 filled judged.1 p).1)
begins_not begin.ReadFault w xs left e judged filled p = tt
begins_not begin.Magic w xs left e judged filled p = sym (header_pending w left xs filled p) ∙ e
begins_not begin.Major w xs left e judged filled p = sym (header_pending w left xs filled p) ∙ e
begins_not begin.LinkType w xs left e judged filled p = sym (header_pending w left xs filled p) ∙ e
begins_not begin.Memory w xs left e judged filled p = tt

-- no byte is left
pub next_none : (format : Format) (offset : ℕ) (xs : List ℕ) → length xs ≡ 0 → next_at format offset xs ≡ End
unfolding next_at
next_none format offset xs none = rw (none) refl

-- too few bytes for a record's header
pub next_cut : (format : Format) (offset n : ℕ) (xs : List ℕ) → length xs ≡ n → (n ≡ 0 → ⊥) → n < 16 → next_at format offset xs ≡ Truncated offset
unfolding next_at
next_cut format offset n xs e some few =
    cond-false _ _ _ (ne_eqb (length xs) 0 (λ none. some (sym e ∙ none)))
    ∙ cond-true _ _ _ (lt-ltb (length xs) 16 (omega arith))

-- a whole header of a record
next_headed : (format : Format) (offset : ℕ) (xs header : List ℕ) → 16 ≤ length xs → header ≡ take 16 xs
    → next_at format offset xs ≡ next_sized (milliseconds format header) (captured_length format header) offset xs
unfolding next_at
next_headed format offset xs header enough same =
    cond-false _ _ _ (ne_eqb (length xs) 0 (λ none. omega arith))
    ∙ cond-false _ _ _ (le-ltb (length xs) 16 enough)
    ∙ ap (λ (ys : List ℕ). next_sized (milliseconds format ys) (captured_length format ys) offset xs) (sym same)

-- a record with more captured bytes than any has
pub next_long : (format : Format) (offset : ℕ) (xs header : List ℕ) → 16 ≤ length xs → header ≡ take 16 xs → most_captured < captured_length format header
    → next_at format offset xs ≡ TooLong offset (captured_length format header)
unfolding next_sized
next_long format offset xs header enough same long =
    next_headed format offset xs header enough same ∙ cond-true _ _ _ (lt-ltb most_captured (captured_length format header) long)

-- too few bytes for its captured ones
pub next_short : (format : Format) (offset : ℕ) (xs header : List ℕ) → 16 ≤ length xs → header ≡ take 16 xs → captured_length format header ≤ most_captured
    → length (drop 16 xs) < captured_length format header → next_at format offset xs ≡ Truncated offset
unfolding next_sized
next_short format offset xs header enough same fits few =
    next_headed format offset xs header enough same
    ∙ cond-false _ _ _ (le-ltb most_captured (captured_length format header) fits)
    ∙ cond-true _ _ _ (lt-ltb (length xs) (16 + captured_length format header) (omega (arith, length-drop 16 xs)))

-- a whole record
pub next_whole : (format : Format) (offset : ℕ) (xs header : List ℕ) → 16 ≤ length xs → header ≡ take 16 xs → captured_length format header ≤ most_captured
    → captured_length format header ≤ length (drop 16 xs) → next_at format offset xs ≡ Whole (milliseconds format header) offset
unfolding next_sized
next_whole format offset xs header enough same fits all =
    next_headed format offset xs header enough same
    ∙ cond-false _ _ _ (le-ltb most_captured (captured_length format header) fits)
    ∙ cond-false _ _ _ (le-ltb (length xs) (16 + captured_length format header) (omega (arith, length-drop 16 xs)))

-- no record comes next that isn't too long, as far as a header can say
pub stops_header : (why : Next) (format : Format) (offset : ℕ) (w : WindowView) (xs : List ℕ) (left : Option (List ℕ)) → HeaderOf (Err why) format offset w.unread → IsFilled w 16 → Pending w left xs
    → Stops why format offset xs left
stops_header (Whole ms at) format offset w xs left h filled p = absurd h
stops_header End format offset w xs left h filled p =
    let all = pending_all w left xs 16 filled (omega arith) p in
    (next_none format offset xs (ap length all.0 ∙ h), all.1)
stops_header (Truncated at) format offset w xs left h filled p =
    let all = pending_all w left xs 16 filled h.2 p in
    let long : length xs ≡ length w.unread = ap length all.0 in
    let some = h.1 in
    (next_cut format offset (length w.unread) xs long (λ none. omega arith) h.2 ∙ ap (λ n. Truncated n) (sym h.0), all.1)
stops_header ReadFault format offset w xs left h filled p = absurd h
stops_header (TooLong at size) format offset w xs left h filled p =
    let header = take 16 w.unread in
    let over : most_captured < captured_length format header = subst (λ n. most_captured < n) h.2 h.3 in
    next_long format offset xs header (omega (arith, h.1, pending_long w left xs p)) (sym (pending_front w left xs 16 h.1 p)) over
    ∙ ap (λ n. TooLong offset n) (sym h.2) ∙ ap (λ n. TooLong n size) (sym h.0)

-- a header is there, and too few bytes behind it
pub stops_short : (header : RecordHeader) (format : Format) (offset : ℕ) (first second : WindowView) (xs : List ℕ) (before left : Option (List ℕ)) → Spells header format first.unread
    → Pending first before xs → IsFilled second (16 + header.size) → length second.unread < 16 + header.size → Pending second left xs → Stops (Truncated offset) format offset xs left
stops_short header format offset first second xs before left spells p filled few q =
    let all = pending_all second left xs (16 + header.size) filled few q in
    let enough : 16 ≤ length xs = omega (arith, spells.whole, pending_long first before xs p) in
    let size = spells.size in
    let within = spells.few in
    (next_short format offset xs (take 16 first.unread) enough (sym (pending_front first before xs 16 spells.whole p)) (omega arith) (omega (arith, length-drop 16 xs, ap length all.0)), all.1)

-- a whole record is there
pub looks_whole : (header : RecordHeader) (format : Format) (offset : ℕ) (first second : WindowView) (xs : List ℕ) (before left : Option (List ℕ)) → Spells header format first.unread
    → Pending first before xs → 16 + header.size ≤ length second.unread → Pending second left xs → Looks (Ok header) format offset xs left
looks_whole header format offset first second xs before left spells p whole q =
    let front = pending_front first before xs 16 spells.whole p in
    let long = pending_long second left xs q in
    let size = spells.size in
    let within = spells.few in (
      next_whole format offset xs (take 16 first.unread) (omega arith) (sym front) (omega arith) (omega (arith, length-drop 16 xs)) ∙ ap (λ (t : ℕ). Whole t offset) (sym spells.ms),
      spells.size ∙ ap (captured_length format) (sym front),
    )

-- and it was used
pub takes_record : (header : RecordHeader) (format : Format) (offset : ℕ) (w : WindowView) (xs : List ℕ) (left : Option (List ℕ)) (reader : ReaderView) → Looks (Ok header) format offset xs left
    → 16 + header.size ≤ length w.unread → Pending w left xs → reader.bytes ≡ take header.size (drop 16 w.unread) → reader.window ≡ passed (16 + header.size) w
    → TakesRecord header.ms offset format offset xs reader left
takes_record header format offset w xs left reader looks there p bytes window =
    let long = length-drop 16 w.unread in
    let size : length reader.bytes ≡ header.size = ap length bytes ∙ length-take-le header.size (drop 16 w.unread) (omega arith) in
    let behind : drop 16 xs ≡ drop 16 w.unread ++ p.rest = ap (drop 16) p.whole ∙ drop-append-le 16 w.unread p.rest (omega arith) in
    let front : take header.size (drop 16 xs) ≡ take header.size (drop 16 w.unread) = ap (take header.size) behind ∙ take-append-le header.size (drop 16 w.unread) p.rest (omega arith) in
    record {
      next = looks.0;
      frame = bytes ∙ sym front ∙ ap (λ (n : ℕ). take n (drop 16 xs)) looks.1;
      size = size ∙ looks.1;
      within = omega (arith, pending_long w left xs p);
      rest =
          let passed_by = pending_pass w left xs (16 + header.size) there p in
          let there_now : Pending reader.window left (drop (16 + header.size) xs) = subst (λ (v : WindowView). Pending v left (drop (16 + header.size) xs)) (sym window) passed_by in
          subst (λ (n : ℕ). Pending reader.window left (drop (16 + n) xs)) looks.1 there_now;
    }

-- the answer of a reader that ends
pub answers_stop : (why : Next) (format : Format) (offset : ℕ) (xs : List ℕ) (reader : ReaderView) (left : Option (List ℕ)) → Stops why format offset xs left → Pending reader.window left xs
    → Answers why format offset xs reader left
answers_stop (Whole ms at) format offset xs reader left stops p = absurd stops
answers_stop End format offset xs reader left stops p = (stops, p)
answers_stop (Truncated at) format offset xs reader left stops p = (stops, p)
answers_stop ReadFault format offset xs reader left stops p = p
answers_stop (TooLong at size) format offset xs reader left stops p = (stops, p)

pub steps_stop : (why : Next) (window : WindowView) (old new : ReaderView) → Found (Err why) old.offset window → new ≡ ended_by old new.window why → Steps why old new
steps_stop (Whole ms at) window old new found e = absurd found
steps_stop End window old new found e = e
steps_stop (Truncated at) window old new found e = (found, e)
steps_stop ReadFault window old new found e = e
steps_stop (TooLong at size) window old new found e = (found.0, found.1, e)

-- a reader that has used a record
pub record_taken : (format : Format) (offset after size : ℕ) (w v : WindowView) (ended : Option Next) → ended ≡ None → 16 + size ≤ length w.unread → v ≡ passed (16 + size) w
    → after ≡ min (offset + (16 + size)) (2 ^ 64 - 1)
    → ◌≡◌ {A = ReaderView} (record { format = format; offset = after; bytes = drop (length v.used - size) v.used; window = v; ended = ended })
    (record { format = format; offset = offset_after offset (length (take size (drop 16 w.unread))); bytes = take size (drop 16 w.unread); window = passed (16 + size) w; ended = None })
record_taken format offset after size w v ended going there used at =
    let long : length (take (16 + size) w.unread) ≡ 16 + size = length-take-le (16 + size) w.unread there in
    let first : length (take (16 + size) w.unread) - size ≡ 16 = omega arith in
    let few : size ≤ length (drop 16 w.unread) = omega (arith, length-drop 16 w.unread) in
    let bytes : drop (length (take (16 + size) w.unread) - size) (take (16 + size) w.unread) ≡ take size (drop 16 w.unread) =
    ap (λ n. drop n (take (16 + size) w.unread)) first ∙ drop-take 16 size w.unread in
    let count : size ≡ length (take size (drop 16 w.unread)) = sym (length-take-le size (drop 16 w.unread) few) in
    ap (λ (u : WindowView). record { format = format; offset = after; bytes = drop (length u.used - size) u.used; window = u; ended = ended }) used
    ∙ ap (λ (ys : List ℕ). record { format = format; offset = after; bytes = ys; window = passed (16 + size) w; ended = ended }) bytes
    ∙ ap (λ (n : ℕ). record { format = format; offset = n; bytes = take size (drop 16 w.unread); window = passed (16 + size) w; ended = ended }) (at ∙ ap (λ n. offset_after offset n) count)
    ∙ ap (λ (e : Option Next). record { format = format; offset = offset_after offset (length (take size (drop 16 w.unread))); bytes = take size (drop 16 w.unread); window = passed (16 + size) w; ended = e }) going
