-- The opening words, pool by pool and member by member.
use Rattle.std.proofs.Common.{◌≡◌, ℕ, ◌+◌, ◌<◌, ◌≤◌, ◌==◌, nat_lt, Bool, true, false, List, [], ◌∷◌, Some, length, replicate, slice_index, get_or, subst, zero, suc, refl, sym, ◌∙◌, ap, arith}
use Rattle.std.proofs.lemmas.Bool.Decides.{nat_tests}
use Rattle.std.proofs.lemmas.List.{get_or-replicate, get_or_past, length-replicate}
use Rattle.sr_base.specs.Layout.{LayoutView}
use Rattle.sr_base.specs.RowHead.{packed_head}
use Rattle.std.specs.List.{AllByRecursion}
use Rattle.sr_base.specs.declared.change.Change.{Change}
use Rattle.sr_law.specs.Pools.{pool_of, pools_from}
use Rattle.sr_core.specs.FirstPools.{first_words, listed, with_members}
use Rattle.sr_core.specs.PlainWords.{ShowsWords}
use Rattle.sr_machine.specs.Names.{rewritten}
use Rattle.sr_machine.specs.Config.{Config}
use Rattle.sr_machine.specs.Opening.{first_pool, opening_head, opening_words}
use Rattle.sr_machine.specs.declared.name.Name.{Name}
use Rattle.sr_machine.specs.declared.name.Name.TheVariants.{Tick, Head, Member}

-- words that are equal name by name are shown by the same list
pub shows_same : (l : LayoutView) (list : List ℕ) (words others : Name → ℕ) → ((name : Name) → words name ≡ others name)
    → ShowsWords l list words → ShowsWords l list others
shows_same l list words others e shows name h = shows name h ∙ e name

-- without a member the words are as they were
pub no_members : (words : Name → ℕ) (vip : ℕ) (pool : List ℕ) (name : Name) → words name ≡ with_members words vip pool 0 name
no_members words vip pool (Member at version index) = grind (arith, nat_tests)
no_members words vip pool name = refl

-- one member more
pub member_more : (words : Name → ℕ) (vip : ℕ) (pool : List ℕ) (n : ℕ) (name : Name)
    → rewritten (with_members words vip pool n) (Member vip 0 n) (slice_index pool n) name ≡ with_members words vip pool (n + 1) name
member_more words vip pool n (Member at version index) = grind (arith, nat_tests)
member_more words vip pool n name = refl

-- no pool is written yet
pub no_pools : (l : LayoutView) (f : ℕ → List ℕ) (name : Name) → rewritten (λ other. 0) Tick (l.vips + 1) name ≡ first_words l f 0 name
no_pools l f Tick = refl
no_pools l f (Head vip version) = grind (arith, nat_tests)
no_pools l f (Member vip version index) = grind (arith, nat_tests)
no_pools l f name = refl

-- one pool more
pub pool_more : (l : LayoutView) (f : ℕ → List ℕ) (vip : ℕ) (pool : List ℕ) → f vip ≡ pool → (name : Name)
    → with_members (rewritten (first_words l f vip) (Head vip 0) (opening_head pool)) vip pool (length pool) name
    ≡ first_words l f (vip + 1) name
pool_more l f vip pool e (Head at version) = grind (arith, nat_tests)
pool_more l f vip pool e (Member at version index) =
    let past : length pool ≤ index → slice_index pool index ≡ 0 = get_or_past pool index 0 in grind (arith, nat_tests, past)
pool_more l f vip pool e name = refl

zero_in : (n i : ℕ) → get_or {A = ℕ} (replicate n 0) i 0 ≡ 0
zero_in n i = by (nat_lt i n) refl
  where
    by : (t : Bool) → nat_lt i n ≡ t → get_or {A = ℕ} (replicate n 0) i 0 ≡ 0
    by true e = let h : i < n = grind (arith, nat_tests) in get_or-replicate n i 0 0 h
    by false e = let h : n ≤ i = grind (arith, nat_tests) in get_or_past (replicate n 0) i 0 (rw length-replicate h)

-- a list of zeros shows a zero of each name
pub shows_zeros : (l : LayoutView) (n : ℕ) → ShowsWords l (replicate n 0) (λ name. 0)
shows_zeros l n name h = zero_in n _

pub head_of : (pool : List ℕ) (n : ℕ) → n ≡ length pool → 1 ≤ n → packed_head (record { size = n; pool = 1 }) ≡ opening_head pool
head_of [] n e h = absurd (omega (arith, e, h))
head_of (server ∷ rest) n e h = ap (λ m. packed_head (record { size = m; pool = 1 })) e

pub listed_at : (first : List (List ℕ)) (i : ℕ) (pool : List ℕ) → i < length first → pool ≡ get_or first i pool → listed first i ≡ pool
listed_at [] i pool h e = absurd (omega (arith, h))
listed_at (x ∷ xs) zero pool h e = sym e
listed_at (x ∷ xs) (suc i) pool h e = listed_at xs i pool (omega (arith, h)) e

-- the first pools begin: the tick is written over zeros
pub pools_begin : (l m k : LayoutView) (list written : List ℕ) (n value : ℕ) (f : ℕ → List ℕ) → m ≡ l → k ≡ m → list ≡ replicate n 0
    → value ≡ l.vips + 1
    → ((words : Name → ℕ) → ShowsWords m list words → ShowsWords k written (rewritten words Tick value))
    → ShowsWords l written (first_words l f 0)
pools_begin l m k list written n value f e d zeros is step =
    shows_same l written (rewritten (λ name. 0) Tick (l.vips + 1)) (first_words l f 0) (no_pools l f)
    (subst (λ x. ShowsWords l written (rewritten (λ name. 0) Tick x)) is
    (subst (λ z. ShowsWords z written (rewritten (λ name. 0) Tick value)) (d ∙ e)
    (step (λ name. 0) (subst (λ xs. ShowsWords m xs (λ name. 0)) (sym zeros) (shows_zeros m n)))))

-- and go on with the next one
pub pools_go_on : (l m k : LayoutView) (list written : List ℕ) (f : ℕ → List ℕ) (vip : ℕ) → m ≡ l → k ≡ m
    → (ShowsWords m list (first_words m f vip) → ShowsWords k written (first_words m f (vip + 1)))
    → ShowsWords l list (first_words l f vip) → ShowsWords l written (first_words l f (vip + 1))
pools_go_on l m k list written f vip e d step shows =
    subst (λ z. ShowsWords z written (first_words l f (vip + 1))) (d ∙ e)
    (subst (λ z. ShowsWords k written (first_words z f (vip + 1))) e
    (step (subst (λ z. ShowsWords z list (first_words z f vip)) (sym e) shows)))

-- a virtual address's pool 1 is one of the first pools
pub first_fits : (P : List ℕ → Type 0) (n : ℕ) (first : List (List ℕ)) (changes : List Change) (vip : ℕ) (pool : List ℕ)
    → AllByRecursion P first → pool_of (pools_from n first changes) vip 1 ≡ Some pool → P pool
first_fits P n [] changes vip pool h e = absurd (cc e)
first_fits P n (x ∷ xs) changes zero pool h e = let same : x ≡ pool = cc e in subst P same h.0
first_fits P n (x ∷ xs) changes (suc vip) pool h e = first_fits P (n + 1) xs changes vip pool h.1 e

-- a virtual address without a pool has no words
pub without_pool : (l : LayoutView) (f : ℕ → List ℕ) (vip : ℕ) → f vip ≡ [] → (name : Name)
    → first_words l f vip name ≡ first_words l f (vip + 1) name
without_pool l f vip e (Head at version) = by (at == vip) refl
  where
    by : (t : Bool) → (at == vip) ≡ t → first_words l f vip (Head at version) ≡ first_words l f (vip + 1) (Head at version)
    by true is =
        let same : at ≡ vip = grind (arith, nat_tests) in
        let none : opening_head (f at) ≡ 0 = ap (λ i. opening_head (f i)) same ∙ ap opening_head e in
        grind (arith, nat_tests, none)
    by false is = grind (arith, nat_tests)
without_pool l f vip e (Member at version index) = by (at == vip) refl
  where
    by : (t : Bool) → (at == vip) ≡ t
        → first_words l f vip (Member at version index) ≡ first_words l f (vip + 1) (Member at version index)
    by true is =
        let same : at ≡ vip = grind (arith, nat_tests) in
        let none : slice_index (f at) index ≡ 0 = ap (λ i. slice_index (f i) index) same ∙ ap (λ xs. slice_index xs index) e in
        grind (arith, nat_tests, none)
    by false is = grind (arith, nat_tests)
without_pool l f vip e name = refl

-- once all first pools are written these are the opening words
pub all_pools : (k : Config) (list : List ℕ) → ShowsWords k.layout list (first_words k.layout (first_pool k) k.layout.vips)
    → ShowsWords k.layout list (opening_words k)
unfolding opening_words
all_pools k list shows (Head vip version) h =
    let within : vip < k.layout.vips = h.0 in shows (Head vip version) h ∙ grind (arith, nat_tests)
all_pools k list shows (Member vip version index) h =
    let within : vip < k.layout.vips = h.0.0 in shows (Member vip version index) h ∙ grind (arith, nat_tests)
all_pools k list shows name h = shows name h
