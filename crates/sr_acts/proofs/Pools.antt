-- The pools of what a machine is made for.
use Rattle.std.proofs.Common.{◌≡◌, ℕ, zero, suc, ◌+◌, ◌-◌, ◌≤◌, Bool, true, false, cond, List, [], ◌∷◌, length, Option, Some, None, refl, sym, subst, ◌==◌}
use Rattle.std.specs.List.{AllByRecursion, slice_get}
use Rattle.std.specs.Prelude.{IsSome, option_and_then, unwrap_or}
use Rattle.sr_base.specs.Fitting.{IsPoolOf, NamesOf}
use Rattle.sr_base.specs.Layout.{LayoutView}
use Rattle.sr_base.specs.declared.change.Change.{Change}
use Rattle.sr_base.specs.declared.change.What.{What}
use Rattle.sr_base.specs.declared.change.What.TheVariants.{Give, TakeDown}
use Rattle.sr_law.specs.Pools.{VipPools, gives_to, numbered, pool_of, pools_from}
use Rattle.sr_machine.specs.Config.{Config}
use Rattle.sr_machine.specs.Deciding.{update_pool}
use Rattle.sr_machine.specs.declared.pool_update.PoolUpdate.{PoolUpdate}
use Rattle.sr_acts.specs.Config.{IsFitting}
use Rattle.sr_acts.specs.Fits.{FitsUpdate}

-- the pools of a virtual address are pools of the layout
abbrev OwnFit : LayoutView → VipPools → Type 0
OwnFit l own = IsPoolOf l own.first × AllByRecursion (IsPoolOf l) own.given

given_fit : (l : LayoutView) (vip : ℕ) (changes : List Change) → AllByRecursion (λ change. NamesOf l change.what) changes
    → AllByRecursion (IsPoolOf l) (gives_to vip changes)
given_fit l vip [] names = tt
given_fit l vip (change ∷ changes) names = by change.what names.0 (given_fit l vip changes names.1)
  where
    by : (what : What) → NamesOf l what → AllByRecursion (IsPoolOf l) (gives_to vip changes)
        → AllByRecursion (IsPoolOf l) (elim what [ Give to pool ↦ cond (to == vip) (pool ∷ gives_to vip changes) (gives_to vip changes) | TakeDown server ↦ gives_to vip changes ])
    by (Give to pool) n rest = on (to == vip)
      where
        on : (b : Bool) → AllByRecursion (IsPoolOf l) (cond b (pool ∷ gives_to vip changes) (gives_to vip changes))
        on true = (n.1, rest)
        on false = rest
    by (TakeDown server) n rest = rest

all_fit : (l : LayoutView) (vip : ℕ) (first : List (List ℕ)) (changes : List Change) → AllByRecursion (IsPoolOf l) first
    → AllByRecursion (λ change. NamesOf l change.what) changes → AllByRecursion (OwnFit l) (pools_from vip first changes)
all_fit l vip [] changes pools names = tt
all_fit l vip (pool ∷ first) changes pools names =
    ((pools.0, given_fit l vip changes names), all_fit l (vip + 1) first changes pools.1 names)

-- what is found is one of those
found_fits : {X : Type 0} (P : X → Type 0) (xs : List X) (i : ℕ) (x : X) → AllByRecursion P xs → slice_get xs i ≡ Some x → P x
found_fits P [] i x all e = absurd (cc)
found_fits P (y ∷ xs) zero x all e = let same : y ≡ x = cc in subst P same all.0
found_fits P (y ∷ xs) (suc i) x all e = found_fits P xs i x all.1 e

numbered_fits : (l : LayoutView) (own : VipPools) (n : ℕ) (pool : List ℕ) → OwnFit l own → numbered own n ≡ Some pool → IsPoolOf l pool
numbered_fits l own n pool fit e = by (n == 0) (n == 1) e
  where
    by : (zeroth first : Bool) → cond zeroth None (cond first (Some own.first) (slice_get own.given (n - 2))) ≡ Some pool → IsPoolOf l pool
    by true first e = absurd (cc)
    by false true e = let same : own.first ≡ pool = cc in subst (IsPoolOf l) same fit.0
    by false false e = found_fits (IsPoolOf l) own.given (n - 2) pool fit.1 e

pub pool_fits : (k : Config) (vip n : ℕ) (pool : List ℕ) → IsFitting k → pool_of k.pools vip n ≡ Some pool → IsPoolOf k.layout pool
pool_fits k vip n pool fit e = by (slice_get k.pools vip) refl e
  where
    all : AllByRecursion (OwnFit k.layout) k.pools
    all = subst (AllByRecursion (OwnFit k.layout)) (sym fit.2) (all_fit k.layout 0 fit.0 k.changes fit.1.pools fit.1.names)

    by : (o : Option VipPools) → slice_get k.pools vip ≡ o → option_and_then (λ own. numbered own n) o ≡ Some pool → IsPoolOf k.layout pool
    by None found e = absurd (cc)
    by (Some own) found e = numbered_fits k.layout own n pool (found_fits (OwnFit k.layout) k.pools vip own all found) e

-- the size of an update's pool
pub pool_size : (k : Config) (u : PoolUpdate) → IsFitting k → FitsUpdate k u
    → (1 ≤ length (update_pool k u)) × (length (update_pool k u) ≤ k.layout.shape.pool_max)
pool_size k u fit h = by (pool_of k.pools u.vip u.pool) refl h.pool
  where
    by : (o : Option (List ℕ)) → pool_of k.pools u.vip u.pool ≡ o → IsSome o
        → (1 ≤ length (unwrap_or o [])) × (length (unwrap_or o []) ≤ k.layout.shape.pool_max)
    by None e some = absurd (cc)
    by (Some pool) e some = let p = pool_fits k u.vip u.pool pool fit e in (p.some, p.most)
