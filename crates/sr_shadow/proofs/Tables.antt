-- Steps of the table of counts.
use Rattle.std.proofs.Common.{◌≡◌, ℕ, ◌+◌, ◌-◌, ◌<◌, ◌≤◌, List, [], ◌∷◌, ◌++◌, length, set, get_or, refl, sym, ◌∙◌, arith}
use Rattle.std.proofs.lemmas.Bool.Decides.{nat_tests}
use Rattle.std.proofs.lemmas.List.Sums.{count_by-le-length}
use Rattle.std.proofs.lemmas.Grind.{common_steps}
use Rattle.sr_shadow.specs.Book.{most_taken}
use Rattle.sr_shadow.specs.VersionCounts.{cell_of, Counted, FewCounted, HasCounted}
use Rattle.sr_shadow.specs.Entry.{has_version}
use Rattle.sr_shadow.specs.declared.entry.Entry.{Entry}
use Rattle.sr_shadow.proofs.Splits.{count_split, count_joined}

-- a number more where the entry has its
pub counted_more : (table : List ℕ) (es : List Entry) (e : Entry) → e.key.vip < 16 → e.version < 64 → length table ≡ 1024 → Counted table es
    → Counted (set table (cell_of e.key.vip e.version) (get_or table (cell_of e.key.vip e.version) 0 + 1)) (es ++ e ∷ [])
counted_more table es e vip version size h v n hv hn = grind (arith, common_steps, nat_tests, count_split (has_version v n) es [] e, h v n hv hn)

-- and a number less without it
pub counted_less : (table : List ℕ) (front back : List Entry) (e : Entry) → e.key.vip < 16 → e.version < 64 → length table ≡ 1024 → Counted table (front ++ e ∷ back)
    → Counted (set table (cell_of e.key.vip e.version) (get_or table (cell_of e.key.vip e.version) 0 - 1)) (front ++ back)
counted_less table front back e version vip size h v n hv hn =
    grind (arith, common_steps, nat_tests, count_split (has_version v n) front back e, count_joined (has_version v n) front back, h v n hv hn)

-- the entry is counted
pub counted_one : (table : List ℕ) (e : Entry) → e.key.vip < 16 → e.version < 64 → HasCounted table e → 0 < get_or table (cell_of e.key.vip e.version) 0
counted_one table e vip version h =
    grind (arith, common_steps, nat_tests, count_split (has_version e.key.vip e.version) h.0 h.1 e, h.2 e.key.vip e.version vip version)

-- and no number is near its end
pub counted_few : (table : List ℕ) (vip version : ℕ) → vip < 16 → version < 64 → FewCounted table → get_or table (cell_of vip version) 0 ≤ most_taken
counted_few table vip version hv hn h = omega (arith, h.1 vip version hv hn, count_by-le-length (has_version vip version) h.0, h.2)

-- an entry in the place of another of the same key and version leaves the table
pub counted_same : (table : List ℕ) (front back : List Entry) (e f : Entry) → f.key ≡ e.key → f.version ≡ e.version → Counted table (front ++ e ∷ back)
    → Counted table (front ++ f ∷ back)
counted_same table front back e f key version h v n hv hn =
    let k : has_version v n f ≡ has_version v n e = rw (key, version) refl in
    h v n hv hn ∙ count_split (has_version v n) front back e ∙ rw (← k) (sym (count_split (has_version v n) front back f))
