-- What the parts of a block that were read say of the whole block.
use Rattle.std.proofs.Common.{◌≡◌, ◌⊎◌, inl, inr, ℕ, ◌-◌, ◌<◌, ◌≤◌, List, [], take, drop, length, Option, Some, None, Result, Ok, Err, sym, ap, subst, ◌∙◌, arith}
use Rattle.std.specs.Option.{unwrap_or}
use Rattle.std.proofs.lemmas.Bool.{cond-true, cond-false, lt-ltb, le-ltb}
use Rattle.std.proofs.lemmas.List.{take_all, length-drop}
use Rattle.sr_pcapng.specs.declared.endian.Endian.{Endian}
use Rattle.sr_pcapng.specs.declared.front.Front.{Front}
use Rattle.sr_pcapng.specs.declared.stop.Stop.{Stop}
use Rattle.sr_pcapng.specs.declared.stop.Stop.TheVariants.{ReadFault, Truncated}
use Rattle.sr_pcapng.specs.declared.packet_head.PacketHead.{PacketHead}
use Rattle.sr_pcapng.specs.Block.{last_fault, unless, closed, whole, section_with, section_block, with_interface, interface_with, interface_block, packet_with_head, packet_block, other_block, block_with, block_at}
use Rattle.sr_pcapng.specs.Endian.{number}
use Rattle.sr_pcapng.specs.Front.{SectionView, endian_of, front_of, header_of, packet_of}
use Rattle.sr_pcapng.specs.Options.{Walked, walk}
use Rattle.sr_pcapng.specs.Reading.{Gives}

-- an error that was passed on
pub gives_err : {A B : Type 0} (view : A → List ℕ → B) (why : Stop) (r : Result A Stop) (definition : Result B Stop) (left : List ℕ → Type 0) → r ≡ Err why
    → (why ≡ ReadFault) ⊎ (definition ≡ Err why) → Gives view r definition left
gives_err view why r definition left e f = subst (λ z. Gives view z definition left) (sym e) f

-- an error of a part is one of the whole
pub err_then : {A B : Type 0} (why : Stop) (part : Result A Stop) (all : Result B Stop) → (why ≡ ReadFault) ⊎ (part ≡ Err why) → (part ≡ Err why → all ≡ Err why)
    → (why ≡ ReadFault) ⊎ (all ≡ Err why)
err_then why part all (inl fault) go = inl fault
err_then why part all (inr e) go = inr (go e)

-- ---- the end of a block

pub closed_err : (endian : Endian) (offset size more : ℕ) (xs last : List ℕ) (why : Stop) → last ≡ take 4 (drop more xs) → last_fault endian offset size last ≡ Some why
    → closed endian offset size more xs ≡ Err why
unfolding closed
closed_err endian offset size more xs last why same e =
    ap (λ (f : Option Stop). unless f (drop 4 (drop more xs))) (ap (last_fault endian offset size) (sym same) ∙ e)

pub closed_ok : (endian : Endian) (offset size more : ℕ) (xs last : List ℕ) → last ≡ take 4 (drop more xs) → last_fault endian offset size last ≡ None
    → closed endian offset size more xs ≡ Ok (drop 4 (drop more xs))
unfolding closed
closed_ok endian offset size more xs last same e =
    ap (λ (f : Option Stop). unless f (drop 4 (drop more xs))) (ap (last_fault endian offset size) (sym same) ∙ e)

-- ---- any other block

pub other_gives : {A : Type 0} (r : Result A Stop) (section : SectionView) (endian : Endian) (offset size : ℕ) (xs : List ℕ) (left : List ℕ → Type 0) → endian ≡ endian_of section
    → Gives (λ _ rest. rest) r (closed endian offset size (size - 12) xs) left
    → Gives (λ _ rest. record { packet = None; section = section; size = size; rest = rest }) r (other_block section offset size xs) left
unfolding other_block
other_gives (Ok value) section endian offset size xs left e f = record {
  rest = f.rest;
  told = f.told;
  same = ap (λ (n : Endian). whole None section size (closed n offset size (size - 12) xs)) (sym e) ∙ ap (whole None section size) f.same;
}
other_gives (Err why) section endian offset size xs left e (inl fault) = inl fault
other_gives (Err why) section endian offset size xs left e (inr f) =
    inr (ap (λ (n : Endian). whole None section size (closed n offset size (size - 12) xs)) (sym e) ∙ ap (whole None section size) f)

-- ---- a section header

pub section_err : (offset : ℕ) (size xs : List ℕ) (why : Stop) → header_of offset size (take 16 xs) ≡ Err why → section_block offset size xs ≡ Err why
unfolding section_block
section_err offset size xs why e = ap (λ (z : Result (Endian × ℕ) Stop). section_with offset z (drop 16 xs)) e

section_closed : (offset : ℕ) (size xs : List ℕ) (h : Endian × ℕ) → header_of offset size (take 16 xs) ≡ Ok h
    → section_block offset size xs ≡ whole None (record { endian = Some h.0; interfaces = [] }) h.1 (closed h.0 offset h.1 (h.1 - 28) (drop 16 xs))
unfolding section_block
section_closed offset size xs h e = ap (λ (z : Result (Endian × ℕ) Stop). section_with offset z (drop 16 xs)) e

pub section_not_closed : (offset : ℕ) (size xs : List ℕ) (h : Endian × ℕ) (why : Stop) → header_of offset size (take 16 xs) ≡ Ok h
    → closed h.0 offset h.1 (h.1 - 28) (drop 16 xs) ≡ Err why → section_block offset size xs ≡ Err why
section_not_closed offset size xs h why e f = section_closed offset size xs h e ∙ ap (whole None (record { endian = Some h.0; interfaces = [] }) h.1) f

pub section_whole : (offset : ℕ) (size xs : List ℕ) (h : Endian × ℕ) (section : SectionView) (rest : List ℕ) → header_of offset size (take 16 xs) ≡ Ok h
    → section ≡ record { endian = Some h.0; interfaces = [] } → closed h.0 offset h.1 (h.1 - 28) (drop 16 xs) ≡ Ok rest
    → section_block offset size xs ≡ Ok (record { packet = None; section = section; size = h.1; rest = rest })
section_whole offset size xs h section rest e s f =
    section_closed offset size xs h e
    ∙ ap (whole None (record { endian = Some h.0; interfaces = [] }) h.1) f
    ∙ ap (λ (v : SectionView). Ok (record { packet = None; section = v; size = h.1; rest = rest })) (sym s)

-- ---- an interface description

pub interface_cut : (section : SectionView) (offset size : ℕ) (xs : List ℕ) → length xs < 8 → interface_block section offset size xs ≡ Err (Truncated offset)
unfolding interface_block
interface_cut section offset size xs few = cond-true _ _ _ (lt-ltb (length xs) 8 few)

interface_walked : (section : SectionView) (offset size : ℕ) (xs : List ℕ) → 8 ≤ length xs
    → interface_block section offset size xs
    ≡ interface_with section offset size (number (endian_of section) 2 (take 8 xs)) (walk (size - 20) (endian_of section) offset (size - 20) None (drop 8 xs))
unfolding interface_block
interface_walked section offset size xs enough = cond-false _ _ _ (le-ltb (length xs) 8 enough)

pub interface_err : (section : SectionView) (endian : Endian) (offset size : ℕ) (xs : List ℕ) (why : Stop) → endian ≡ endian_of section → 8 ≤ length xs
    → walk (size - 20) endian offset (size - 20) None (drop 8 xs) ≡ Err why → interface_block section offset size xs ≡ Err why
interface_err section endian offset size xs why s enough e =
    interface_walked section offset size xs enough
    ∙ ap (λ (n : Endian). interface_with section offset size (number (endian_of section) 2 (take 8 xs)) (walk (size - 20) n offset (size - 20) None (drop 8 xs))) (sym s)
    ∙ ap (interface_with section offset size (number (endian_of section) 2 (take 8 xs))) e

interface_closed : (section : SectionView) (endian : Endian) (offset size : ℕ) (xs : List ℕ) (w : Walked) → endian ≡ endian_of section → 8 ≤ length xs
    → walk (size - 20) endian offset (size - 20) None (drop 8 xs) ≡ Ok w
    → interface_block section offset size xs
    ≡ whole None (with_interface section (record { link = number endian 2 (take 8 xs); resolution = unwrap_or w.resolution 6 })) size (closed endian offset size w.more w.rest)
interface_closed section endian offset size xs w s enough e =
    interface_walked section offset size xs enough
    ∙ ap (λ (n : Endian). interface_with section offset size (number (endian_of section) 2 (take 8 xs)) (walk (size - 20) n offset (size - 20) None (drop 8 xs))) (sym s)
    ∙ ap (interface_with section offset size (number (endian_of section) 2 (take 8 xs))) e
    ∙ ap (λ (n : Endian). whole None (with_interface section (record { link = number n 2 (take 8 xs); resolution = unwrap_or w.resolution 6 })) size (closed n offset size w.more w.rest)) (sym s)

pub interface_not_closed : (section : SectionView) (endian : Endian) (offset size : ℕ) (xs : List ℕ) (w : Walked) (why : Stop) → endian ≡ endian_of section → 8 ≤ length xs
    → walk (size - 20) endian offset (size - 20) None (drop 8 xs) ≡ Ok w → closed endian offset size w.more w.rest ≡ Err why → interface_block section offset size xs ≡ Err why
interface_not_closed section endian offset size xs w why s enough e f =
    interface_closed section endian offset size xs w s enough e
    ∙ ap (whole None (with_interface section (record { link = number endian 2 (take 8 xs); resolution = unwrap_or w.resolution 6 })) size) f

-- a buffer that was filled wholly
pub front_whole : (n size : ℕ) (xs into : List ℕ) → length into ≤ size → size ≤ n → n ≤ size → take n into ≡ take size xs → into ≡ take size xs
front_whole n size xs into long low high same = sym (take_all n into (omega arith)) ∙ same

pub interface_whole : (section : SectionView) (endian : Endian) (offset size link resolution : ℕ) (xs fields rest : List ℕ) (w : Walked) (after : SectionView) → endian ≡ endian_of section → 8 ≤ length xs
    → walk (size - 20) endian offset (size - 20) None (drop 8 xs) ≡ Ok w → closed endian offset size w.more w.rest ≡ Ok rest → fields ≡ take 8 xs → link ≡ number endian 2 fields
    → resolution ≡ unwrap_or w.resolution 6 → after ≡ with_interface section (record { link = link; resolution = resolution })
    → interface_block section offset size xs ≡ Ok (record { packet = None; section = after; size = size; rest = rest })
interface_whole section endian offset size link resolution xs fields rest w after s enough e f front l r a =
    interface_closed section endian offset size xs w s enough e
    ∙ ap (whole None (with_interface section (record { link = number endian 2 (take 8 xs); resolution = unwrap_or w.resolution 6 })) size) f
    ∙ ap (λ (ys : List ℕ). Ok (record { packet = None; section = with_interface section (record { link = number endian 2 ys; resolution = unwrap_or w.resolution 6 }); size = size; rest = rest })) (sym front)
    ∙ ap (λ (n : ℕ). Ok (record { packet = None; section = with_interface section (record { link = n; resolution = unwrap_or w.resolution 6 }); size = size; rest = rest })) (sym l)
    ∙ ap (λ (n : ℕ). Ok (record { packet = None; section = with_interface section (record { link = link; resolution = n }); size = size; rest = rest })) (sym r)
    ∙ ap (λ (v : SectionView). Ok (record { packet = None; section = v; size = size; rest = rest })) (sym a)

-- ---- an enhanced packet block

packet_headed : (section : SectionView) (endian : Endian) (offset size : ℕ) (xs : List ℕ) (z : Result PacketHead Stop) → endian ≡ endian_of section
    → packet_of endian section.interfaces offset size (take 20 xs) ≡ z → packet_block section offset size xs ≡ packet_with_head section offset size z (drop 20 xs)
unfolding packet_block
packet_headed section endian offset size xs z s e =
    ap (λ (r : Result PacketHead Stop). packet_with_head section offset size r (drop 20 xs))
    (ap (λ (n : Endian). packet_of n section.interfaces offset size (take 20 xs)) (sym s) ∙ e)

pub packet_err : (section : SectionView) (endian : Endian) (offset size : ℕ) (xs : List ℕ) (why : Stop) → endian ≡ endian_of section
    → packet_of endian section.interfaces offset size (take 20 xs) ≡ Err why → packet_block section offset size xs ≡ Err why
packet_err section endian offset size xs why s e = packet_headed section endian offset size xs (Err why) s e

pub packet_cut : (section : SectionView) (endian : Endian) (offset size : ℕ) (xs : List ℕ) (head : PacketHead) → endian ≡ endian_of section
    → packet_of endian section.interfaces offset size (take 20 xs) ≡ Ok head → length (drop 20 xs) < head.captured → packet_block section offset size xs ≡ Err (Truncated offset)
packet_cut section endian offset size xs head s e few =
    packet_headed section endian offset size xs (Ok head) s e ∙ cond-true _ _ _ (lt-ltb (length (drop 20 xs)) head.captured few)

packet_closed : (section : SectionView) (endian : Endian) (offset size : ℕ) (xs : List ℕ) (head : PacketHead) → endian ≡ endian_of section
    → packet_of endian section.interfaces offset size (take 20 xs) ≡ Ok head → head.captured ≤ length (drop 20 xs)
    → packet_block section offset size xs
    ≡ whole (Some (record { head = head; bytes = take head.captured (drop 20 xs) })) section size (closed endian offset size (size - 32 - head.captured) (drop head.captured (drop 20 xs)))
packet_closed section endian offset size xs head s e enough =
    packet_headed section endian offset size xs (Ok head) s e
    ∙ cond-false _ _ _ (le-ltb (length (drop 20 xs)) head.captured enough)
    ∙ ap (λ (n : Endian). whole (Some (record { head = head; bytes = take head.captured (drop 20 xs) })) section size (closed n offset size (size - 32 - head.captured) (drop head.captured (drop 20 xs)))) (sym s)

pub packet_not_closed : (section : SectionView) (endian : Endian) (offset size : ℕ) (xs : List ℕ) (head : PacketHead) (why : Stop) → endian ≡ endian_of section
    → packet_of endian section.interfaces offset size (take 20 xs) ≡ Ok head → head.captured ≤ length (drop 20 xs)
    → closed endian offset size (size - 32 - head.captured) (drop head.captured (drop 20 xs)) ≡ Err why → packet_block section offset size xs ≡ Err why
packet_not_closed section endian offset size xs head why s e enough f =
    packet_closed section endian offset size xs head s e enough
    ∙ ap (whole (Some (record { head = head; bytes = take head.captured (drop 20 xs) })) section size) f

pub packet_whole : (section : SectionView) (endian : Endian) (offset size : ℕ) (xs bytes rest : List ℕ) (head : PacketHead) → endian ≡ endian_of section
    → packet_of endian section.interfaces offset size (take 20 xs) ≡ Ok head → head.captured ≤ length (drop 20 xs) → bytes ≡ take head.captured (drop 20 xs)
    → closed endian offset size (size - 32 - head.captured) (drop head.captured (drop 20 xs)) ≡ Ok rest
    → packet_block section offset size xs ≡ Ok (record { packet = Some (record { head = head; bytes = bytes }); section = section; size = size; rest = rest })
packet_whole section endian offset size xs bytes rest head s e enough b f =
    packet_closed section endian offset size xs head s e enough
    ∙ ap (whole (Some (record { head = head; bytes = take head.captured (drop 20 xs) })) section size) f
    ∙ ap (λ (ys : List ℕ). Ok (record { packet = Some (record { head = head; bytes = ys }); section = section; size = size; rest = rest })) (sym b)

-- ---- any block

-- the block that the first eight bytes tell of
pub block_is : (section : SectionView) (offset : ℕ) (xs first : List ℕ) (z : Result Front Stop) → first ≡ take 8 xs → z ≡ front_of section offset first
    → block_at section offset xs ≡ block_with section offset z first (drop 8 xs)
unfolding block_at
block_is section offset xs first z same e =
    ap (λ (ys : List ℕ). block_with section offset (front_of section offset ys) ys (drop 8 xs)) (sym same)
    ∙ ap (λ (r : Result Front Stop). block_with section offset r first (drop 8 xs)) (sym e)

-- the bytes behind the first four
pub tail_whole : (xs : List ℕ) → take (length xs - 4) (drop 4 xs) ≡ drop 4 xs
tail_whole xs = take_all (length xs - 4) (drop 4 xs) (omega (arith, length-drop 4 xs))
