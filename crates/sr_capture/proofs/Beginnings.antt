-- Where the records of a capture begin.
use Rattle.std.proofs.Common.{◌≡◌, ◌⊎◌, inl, inr, ℕ, ◌==◌, ◌<◌, ◌≤◌, nat_lt, Bool, true, false, cond, List, [], ◌++◌, length, take, drop, Option, None, Result, Ok, Err, refl, sym, ap, subst, ◌∙◌, append-nil, arith}
use Rattle.std.proofs.lemmas.Bool.{cond-true, cond-false, lt-ltb, le-ltb}
use Rattle.byteorder.specs.Endian.{big_number}
use Rattle.sr_io.specs.Window.{WindowView, Pending, IsFilled}
use Rattle.sr_io.proofs.Reading.{pending_long, pending_front}
use Rattle.sr_pcap.specs.declared.begin_refusal.BeginRefusal.{BeginRefusal}
use Rattle.sr_pcap.specs.declared.begin_refusal.BeginRefusal.TheVariants as begin
use Rattle.sr_pcap.specs.declared.format.Format.{Format}
use Rattle.sr_pcap.specs.Format.{header_of}
use Rattle.sr_pcap.specs.Reader.{ReaderView, Begins as ClassicBegins}
use Rattle.sr_pcapng.specs.Next.{front_place}
use Rattle.sr_pcapng.specs.Reader.{ReaderView as NgView}
use Rattle.sr_capture.specs.declared.capture_reader.CaptureReader.TheVariants as reader
use Rattle.sr_capture.specs.Capture.{Start, begin_of, behind_header, is_pcapng}
use Rattle.sr_capture.specs.Reader.{Begins, Stands}
use Rattle.sr_capture.specs.Records.{Classic, Ng}

-- too few bytes for a first field
short : (xs : List ℕ) → length xs < 4 → is_pcapng xs ≡ false
unfolding is_pcapng
short xs few = cond-true _ _ _ (lt-ltb (length xs) 4 few)

-- the first four bytes decide
long : (xs first : List ℕ) → 4 ≤ length xs → first ≡ take 4 xs → is_pcapng xs ≡ (big_number 4 first == 0x0a0d0d0a)
unfolding is_pcapng
long xs first enough same = cond-false _ _ _ (le-ltb (length xs) 4 enough) ∙ ap (λ (ys : List ℕ). big_number 4 ys == 0x0a0d0d0a) (sym same)

-- a window that has four bytes, or all that come, tells the form
pub pcapng_filled : (w : WindowView) (left : Option (List ℕ)) (xs : List ℕ) → IsFilled w 4 → Pending w left xs → is_pcapng w.unread ≡ is_pcapng xs
pcapng_filled w left xs (inl enough) p =
    long w.unread (take 4 w.unread) enough refl ∙ sym (long xs (take 4 w.unread) (omega (arith, pending_long w left xs p)) (sym (pending_front w left xs 4 enough p)))
pcapng_filled w left xs (inr over) p = ap is_pcapng (sym (p.whole ∙ ap (λ (ys : List ℕ). w.unread ++ ys) (p.none over) ∙ append-nil w.unread))

begin_ng : (xs : List ℕ) → is_pcapng xs ≡ true → begin_of xs ≡ Ok (record { place = Ng front_place; rest = xs })
unfolding begin_of
begin_ng xs ng = cond-true _ _ _ ng

begin_classic : (xs : List ℕ) (header : Result Format BeginRefusal) → is_pcapng xs ≡ false → header_of xs ≡ header → begin_of xs ≡ behind_header header xs
unfolding begin_of
begin_classic xs header classic e = cond-false _ _ _ classic ∙ ap (λ (h : Result Format BeginRefusal). behind_header h xs) e

-- a pcapng capture
pub stands_ng : (r : NgView) (w : WindowView) (xs : List ℕ) (left : Option (List ℕ)) → is_pcapng xs ≡ true → r ≡ record { place = front_place; bytes = []; window = w; ended = None } → Pending w left xs
    → Stands xs (reader.Ng r) left
stands_ng r w xs left ng e p = record {
  rest = xs;
  begins = begin_ng xs ng ∙ ap (λ (v : NgView). Ok (record { place = Ng v.place; rest = xs })) (sym e);
  pending = subst (λ (v : NgView). Pending v.window left xs) (sym e) p;
}

-- a classic capture
pub stands_classic : (r : ReaderView) (xs : List ℕ) (left : Option (List ℕ)) → is_pcapng xs ≡ false → r.offset ≡ 24 → ClassicBegins (Ok r) xs left → Stands xs (reader.Classic r) left
stands_classic r xs left classic at begun = record {
  rest = drop 24 xs;
  begins = begin_classic xs (Ok r.format) classic begun.0 ∙ ap (λ n. Ok (record { place = Classic r.format n; rest = drop 24 xs })) (sym at);
  pending = begun.1;
}

-- a classic capture whose header is refused
pub begins_not : (why : BeginRefusal) (xs : List ℕ) (left : Option (List ℕ)) → is_pcapng xs ≡ false → ClassicBegins (Err why) xs left → Begins (Err why) xs left
begins_not (begin.Truncated offset) xs left classic begun = begin_classic xs _ classic begun.0
begins_not begin.ReadFault xs left classic begun = tt
begins_not begin.Magic xs left classic begun = begin_classic xs _ classic begun
begins_not begin.Major xs left classic begun = begin_classic xs _ classic begun
begins_not begin.LinkType xs left classic begun = begin_classic xs _ classic begun
begins_not begin.Memory xs left classic begun = tt
