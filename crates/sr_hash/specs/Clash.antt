-- When a packet matches an entry of the connection table, and when two keys clash.
use Rattle.std.specs.Prelude.{◌≡◌, ℕ, Bool, false, ◌&&◌, ◌==◌}
use Rattle.sr_base.specs.Key.{KeyView}
use Rattle.sr_base.specs.declared.shape.Shape.{Shape}
use Rattle.sr_base.specs.declared.slot_word.SlotWord.{SlotWord}
use Rattle.sr_base.specs.declared.slot_word.SlotWord.TheVariants.{Empty, Reserved, Live}
use Rattle.sr_hash.specs.Uses.{bucket_of, digest_of}

-- these are the key's virtual address and its digest of this way
abbrev pub tells_key : ℕ → ℕ → ℕ → KeyView → ℕ → Bool
tells_key vip digest way key bits = (vip == key.vip) && (digest == digest_of way key bits)

-- a cell of the key's bucket of this way is taken for the key's
abbrev pub word_matches : SlotWord → ℕ → KeyView → ℕ → Bool
word_matches Empty way key bits = false
word_matches (Reserved vip digest) way key bits = tells_key vip digest way key bits
word_matches (Live vip digest version) way key bits = tells_key vip digest way key bits

-- the word of a key's entry in a cell of this way
abbrev pub entry_of : ℕ → KeyView → ℕ → ℕ → SlotWord
entry_of way key bits version = Live key.vip (digest_of way key bits) version

-- two keys clash in a way, 1 or 2: their virtual addresses, their buckets and their digests of that way are equal, so that the entry of the
-- one is taken for the other's
abbrev pub clashes : Shape → ℕ → KeyView → KeyView → Bool
clashes shape way a b =
    (a.vip == b.vip)
    && ((bucket_of way a shape.buckets == bucket_of way b shape.buckets) && (digest_of way a shape.digest_bits == digest_of way b shape.digest_bits))

-- in one bucket the entry of a key is taken for another's just where the two clash
abbrev pub ClashIsMatch : Shape → ℕ → KeyView → KeyView → Type 0
ClashIsMatch shape way a b =
    bucket_of way a shape.buckets ≡ bucket_of way b shape.buckets → (version : ℕ)
    → word_matches (entry_of way a shape.digest_bits version) way b shape.digest_bits ≡ clashes shape way a b
