-- The words at the beginning are those of the machine that begins with these pools, whatever changes it is to make.
use Rattle.std.proofs.Common.{◌≡◌, ◌∙◌, ℕ, zero, suc, ◌+◌, ◌<◌, ◌==◌, ◌&&◌, nat_lt, Bool, true, false, List, [], ◌∷◌, slice_index, slice_index_or, unwrap_or, refl, sym, ap, subst, if◌then◌else◌, arith}
use Rattle.std.proofs.lemmas.Bool.Decides.{nat_tests}
use Rattle.sr_base.specs.Layout.{LayoutView}
use Rattle.sr_base.specs.WordName.{HasWord}
use Rattle.sr_base.specs.declared.change.Change.{Change}
use Rattle.sr_core.specs.FirstPools.{first_words, listed}
use Rattle.sr_core.specs.PlainWords.{ShowsWords}
use Rattle.sr_law.specs.Pools.{VipPools, pool_of, pools_from}
use Rattle.sr_machine.specs.Config.{Config}
use Rattle.sr_machine.specs.Names.{word_name}
use Rattle.sr_machine.specs.Opening.{first_pool, opening_head, opening_words}
use Rattle.sr_machine.specs.declared.name.Name.{Name}
use Rattle.sr_machine.specs.declared.name.Name.TheVariants.{Tick, Head, Member}

-- pool 1 of a virtual address is its first one
pool_one : (n : ℕ) (first : List (List ℕ)) (changes : List Change) (vip : ℕ)
    → unwrap_or (pool_of (pools_from n first changes) vip 1) [] ≡ slice_index_or first vip []
pool_one n [] changes vip = refl
pool_one n (pool ∷ rest) changes zero = refl
pool_one n (pool ∷ rest) changes (suc vip) = pool_one (n + 1) rest changes vip

module _ (l : LayoutView) (first : List (List ℕ)) (changes : List Change) where
  abbrev machine : Config
  machine = record { layout = l; pools = pools_from 0 first changes; changes = changes }

  pub opens : (list : List ℕ) → ShowsWords l list (first_words l (listed first) l.vips) → ShowsWords l list (opening_words machine)
  unfolding opening_words
  opens list shows (Head vip version) h =
      let within : vip < l.vips = h.0 in
      shows (Head vip version) h
      ∙ ap (λ (pool : List ℕ). if nat_lt vip l.vips && (version == 0) then opening_head pool else 0) (sym (pool_one 0 first changes vip))
      ∙ grind (arith, nat_tests)
  opens list shows (Member vip version index) h =
      let within : vip < l.vips = h.0.0 in
      shows (Member vip version index) h
      ∙ ap (λ (pool : List ℕ). if nat_lt vip l.vips && (version == 0) then slice_index pool index else 0)
      (sym (pool_one 0 first changes vip))
      ∙ grind (arith, nat_tests)
  opens list shows name h = shows name h

-- the words of a layout and of pools are those of the machine that has them
pub opens_so : (k : Config) (l : LayoutView) (pools : List VipPools) (list : List ℕ) → l ≡ k.layout → pools ≡ k.pools
    → ShowsWords l list (opening_words (record { layout = l; pools = pools; changes = k.changes })) → ShowsWords k.layout list (opening_words k)
opens_so k l pools list e f shows =
    subst (λ (p : List VipPools). ShowsWords k.layout list (opening_words (record { layout = k.layout; pools = p; changes = k.changes }))) f
    (subst (λ (m : LayoutView). ShowsWords m list (opening_words (record { layout = m; pools = pools; changes = k.changes }))) e shows)
