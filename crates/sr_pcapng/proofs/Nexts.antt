-- What comes next where a block was read.
use Rattle.std.proofs.Common.{◌≡◌, ◌⊎◌, inl, inr, ℕ, zero, suc, ◌+◌, List, [], length, Option, Some, None, Result, Ok, Err, option_map, take, refl, sym, ap, subst, ◌∙◌, arith}
use Rattle.std.proofs.lemmas.Bool.{cond-false, ne_eqb}
use Rattle.sr_pcapng.specs.declared.stop.Stop.{Stop}
use Rattle.sr_pcapng.specs.declared.stop.Stop.TheVariants.{End, Truncated, ReadFault, TooLong, Block, Magic, Major, TooMany}
use Rattle.sr_pcapng.specs.declared.ng_next.NgNext.{NgNext}
use Rattle.sr_pcapng.specs.declared.packet_head.PacketHead.{PacketHead}
use Rattle.sr_pcapng.specs.Block.{Packet, Whole, block_at}
use Rattle.sr_pcapng.specs.Front.{SectionView}
use Rattle.sr_pcapng.specs.Next.{Arrival, at_end, next_from}
use Rattle.sr_pcapng.specs.Reader.{ReaderView, Arrives, Answers, Ends, HasEnded, PassesOver, Steps, next_at}
use Rattle.sr_pcapng.specs.Stop.{said}
use Rattle.sr_pcapng.proofs.Blocks.{err_then}

-- no byte is left
pub next_none : (room offset : ℕ) (section : SectionView) (xs : List ℕ) → length xs ≡ 0 → next_from room offset section xs ≡ Err (at_end section offset)
unfolding next_from
next_none zero offset section xs none = rw (none) refl
next_none (suc room) offset section xs none = rw (none) refl

-- no more block may come
pub next_full : (room offset : ℕ) (section : SectionView) (xs : List ℕ) → room ≡ 0 → (length xs ≡ 0 → ⊥) → next_from room offset section xs ≡ Err (TooMany offset)
unfolding next_from
next_full zero offset section xs none some = cond-false _ _ _ (ne_eqb (length xs) 0 some)
next_full (suc room) offset section xs none some = absurd (omega arith)

err_at : (less offset : ℕ) (section : SectionView) (xs : List ℕ) (why : Stop) → (length xs ≡ 0 → ⊥) → block_at section offset xs ≡ Err why
    → next_from (suc less) offset section xs ≡ Err why
unfolding next_from
err_at less offset section xs why some e = cond-false _ _ _ (ne_eqb (length xs) 0 some) ∙ rw (e) refl

-- a block breaks the format, or is cut
pub next_err : (room less offset : ℕ) (section : SectionView) (xs : List ℕ) (why : Stop) → room ≡ suc less → (length xs ≡ 0 → ⊥) → block_at section offset xs ≡ Err why
    → next_from room offset section xs ≡ Err why
next_err room less offset section xs why r some e = ap (λ (n : ℕ). next_from n offset section xs) r ∙ err_at less offset section xs why some e

packet_at : (less offset size : ℕ) (section after : SectionView) (xs rest : List ℕ) (packet : Packet) → (length xs ≡ 0 → ⊥)
    → block_at section offset xs ≡ Ok (record { packet = Some packet; section = after; size = size; rest = rest })
    → next_from (suc less) offset section xs
    ≡ Ok (record { packet = packet; offset = offset; place = record { room = less; offset = offset + size; section = after }; rest = rest })
unfolding next_from
packet_at less offset size section after xs rest packet some e = cond-false _ _ _ (ne_eqb (length xs) 0 some) ∙ rw (e) refl

-- a block carries a packet
pub next_packet : (room less offset size : ℕ) (section after : SectionView) (xs rest bytes filled : List ℕ) (head : PacketHead) (packet : Option PacketHead) → room ≡ suc less → (length xs ≡ 0 → ⊥)
    → packet ≡ Some head → bytes ≡ filled
    → block_at section offset xs
    ≡ Ok (record { packet = option_map (λ h. record { head = h; bytes = take h.captured filled }) packet; section = after; size = size; rest = rest })
    → next_from room offset section xs
    ≡ Ok (record {
      packet = record { head = head; bytes = take head.captured bytes };
      offset = offset;
      place = record { room = less; offset = offset + size; section = after };
      rest = rest;
    })
next_packet room less offset size section after xs rest bytes filled head packet r some p b e =
    let there = e ∙ ap (λ (q : Option PacketHead). Ok (record { packet = option_map (λ h. record { head = h; bytes = take h.captured filled }) q; section = after; size = size; rest = rest })) p in
    ap (λ (n : ℕ). next_from n offset section xs) r
    ∙ packet_at less offset size section after xs rest (record { head = head; bytes = take head.captured filled }) some there
    ∙ ap (λ (ys : List ℕ). Ok (record {
      packet = record { head = head; bytes = take head.captured ys };
      offset = offset;
      place = record { room = less; offset = offset + size; section = after };
      rest = rest;
    })) (sym b)

pass_at : (less offset size : ℕ) (section after : SectionView) (xs rest : List ℕ) → (length xs ≡ 0 → ⊥)
    → block_at section offset xs ≡ Ok (record { packet = None; section = after; size = size; rest = rest })
    → next_from (suc less) offset section xs ≡ next_from less (offset + size) after rest
unfolding next_from
pass_at less offset size section after xs rest some e = cond-false _ _ _ (ne_eqb (length xs) 0 some) ∙ rw (e) refl

-- a block carries none
pub next_pass : (room less offset size : ℕ) (section after : SectionView) (xs rest filled : List ℕ) (packet : Option PacketHead) → room ≡ suc less → (length xs ≡ 0 → ⊥) → packet ≡ None
    → block_at section offset xs
    ≡ Ok (record { packet = option_map (λ h. record { head = h; bytes = take h.captured filled }) packet; section = after; size = size; rest = rest })
    → next_from room offset section xs ≡ next_from less (offset + size) after rest
next_pass room less offset size section after xs rest filled packet r some p e =
    let there = e ∙ ap (λ (q : Option PacketHead). Ok (record { packet = option_map (λ h. record { head = h; bytes = take h.captured filled }) q; section = after; size = size; rest = rest })) p in
    ap (λ (n : ℕ). next_from n offset section xs) r ∙ pass_at less offset size section after xs rest some there

-- an error of a block is no end
pub sound_end : (why : Stop) (definition : Result Whole Stop) → (why ≡ ReadFault) ⊎ (definition ≡ Err why) → (definition ≡ Err why → why ≡ End → ⊥) → why ≡ End → ⊥
sound_end why definition (inl fault) sound end = cc (fault, end)
sound_end why definition (inr e) sound end = sound e end

-- an error that was passed on
pub steps_err : (why : Stop) (r : Result (Option PacketHead) Stop) (old : ReaderView) (xs : List ℕ) (new : ReaderView) (left : Option (List ℕ)) → r ≡ Err why
    → (why ≡ ReadFault) ⊎ (next_at old.place xs ≡ Err why) → (why ≡ End → ⊥) → Steps r old xs new left
steps_err why r old xs new left e f more = subst (λ z. Steps z old xs new left) (sym e) (f, λ ends. absurd (more ends))

-- blocks without a packet were passed over, and then a packet came
pub arrives_after : (ms link at from : ℕ) (first last : Result Arrival Stop) (reader : ReaderView) (left : Option (List ℕ)) → at ≡ from → first ≡ last → Arrives ms link at last reader left
    → Arrives ms link from first reader left
arrives_after ms link at from first last reader left o e a = record {
  captured = a.captured;
  rest = a.rest;
  told = a.told;
  same =
      e ∙ a.same
      ∙ ap (λ (n : ℕ). Ok (record {
        packet = record { head = record { ms = ms; link = link; captured = a.captured }; bytes = reader.bytes };
        offset = n;
        place = reader.place;
        rest = a.rest;
      })) o;
}

-- blocks without a packet were passed over, and then another
pub passes_after : (old middle new : ReaderView) (xs : List ℕ) (before left : Option (List ℕ)) → (p : PassesOver old xs middle before) → PassesOver middle p.rest new left → PassesOver old xs new left
passes_after old middle new xs before left p q = record { rest = q.rest; told = q.told; same = p.same ∙ q.same }

-- no packet came
pub answers_err : (why : Stop) (definition : Result Arrival Stop) (reader : ReaderView) (left : Option (List ℕ)) → (why ≡ ReadFault) ⊎ (definition ≡ Err why) → (why ≡ End → left ≡ Some [])
    → Answers (said why) definition reader left
answers_err End definition reader left (inr e) none = (e, none refl)
answers_err (Truncated at) definition reader left (inr e) none = e
answers_err ReadFault definition reader left f none = tt
answers_err (TooLong at size) definition reader left (inr e) none = e
answers_err (Block at) definition reader left (inr e) none = e
answers_err Magic definition reader left (inr e) none = e
answers_err Major definition reader left (inr e) none = e
answers_err (TooMany at) definition reader left (inr e) none = e
answers_err End definition reader left (inl f) none = absurd (cc f)
answers_err (Truncated at) definition reader left (inl f) none = absurd (cc f)
answers_err (TooLong at size) definition reader left (inl f) none = absurd (cc f)
answers_err (Block at) definition reader left (inl f) none = absurd (cc f)
answers_err Magic definition reader left (inl f) none = absurd (cc f)
answers_err Major definition reader left (inl f) none = absurd (cc f)
answers_err (TooMany at) definition reader left (inl f) none = absurd (cc f)

pub ends_with : (why : Stop) (reader : ReaderView) → HasEnded (said why) reader → Ends (said why) reader
ends_with End reader e = e
ends_with (Truncated at) reader e = e
ends_with ReadFault reader e = e
ends_with (TooLong at size) reader e = e
ends_with (Block at) reader e = e
ends_with Magic reader e = e
ends_with Major reader e = e
ends_with (TooMany at) reader e = e

-- the same of what is said
pub answers_said : (why : NgNext) (stop : Stop) (first last : Result Arrival Stop) (reader : ReaderView) (left : Option (List ℕ)) → why ≡ said stop → first ≡ last
    → ((stop ≡ ReadFault) ⊎ (last ≡ Err stop)) × (stop ≡ End → left ≡ Some []) → Answers why first reader left
answers_said why stop first last reader left e same f =
    subst (λ n. Answers n first reader left) (sym e) (answers_err stop first reader left (err_then stop last first f.0 (λ g. same ∙ g)) f.1)

pub ends_said : (why : NgNext) (stop : Stop) (reader : ReaderView) → why ≡ said stop → reader.ended ≡ Some why → reader.bytes ≡ [] → Ends why reader
ends_said why stop reader e ended none = subst (λ n. Ends n reader) (sym e) (ends_with stop reader (ended ∙ ap (λ (n : NgNext). Some n) e, none))
