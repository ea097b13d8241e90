-- How the answers of parts stand to the walk.
use Rattle.std.proofs.Common.{◌≡◌, ℕ, ◌+◌, ◌<◌, ◌≤◌, List, [], ◌∷◌, ◌++◌, map, length, drop, get_or, Ok, Err, refl, sym, ap, ◌∙◌}
use Rattle.std.proofs.lemmas.List.{drop_more, map-append}
use Rattle.std.proofs.Math.ListN.{drop_of_length-le}
use Rattle.toml.specs.declared.value.Value.{Value}
use Rattle.toml.specs.Data.{Data}
use Rattle.toml.specs.View.{view}
use Rattle.sr_script.specs.declared.refusal.ParseRefusal.{ParseRefusal}
use Rattle.sr_script.specs.declared.refusal.ParseRefusal.TheVariants.{Script, Memory}
use Rattle.sr_script.specs.Fault.{Reading, ◌>>=◌, each_after, Fails}
use Rattle.sr_script.specs.Spelled.{Address, addresses_of, pools_of}
use Rattle.sr_script.specs.Walk.{vip_after, vip_in, vips_in}

-- want of memory stands beside every reading
pub fails_memory : {A : Type 0} (r : Reading A) → Fails Memory r
fails_memory (Ok x) = refl
fails_memory (Err fault) = tt

-- a refusal of the first part is one of the whole
pub fails_then : {A B : Type 0} (e : ParseRefusal) (r : Reading A) (f : A → Reading B) → Fails e r → Fails e (r >>= f)
fails_then e (Err fault) f h = h
fails_then (Script r) (Ok x) f h = absurd (cc)
fails_then Memory (Ok x) f h = fails_memory (f x)

-- an array whose element at i is v
each_turn : {A : Type 0} (step : List A → Data → Reading A) (before : List A) (all : List Value) (i : ℕ) (v : Value) → i < length all → v ≡ get_or all i v
    → each_after step before (map view (drop i all)) ≡ (step before (view v) >>= (λ x. each_after step (before ++ x ∷ []) (map view (drop (i + 1) all))))
unfolding each_after
each_turn step before all i v within is =
    let here : drop i all ≡ v ∷ drop (i + 1) all = drop_more all i v within ∙ ap (λ w. w ∷ drop (i + 1) all) (sym is) in
    rw here

-- the step reads the element: what is left goes on behind it
pub each_more : {A : Type 0} (step : List A → Data → Reading A) (before : List A) (all : List Value) (i : ℕ) (v : Value) (x : A) (whole : Reading (List A)) → i < length all → v ≡ get_or all i v
    → step before (view v) ≡ Ok x → each_after step before (map view (drop i all)) ≡ whole → each_after step (before ++ x ∷ []) (map view (drop (i + 1) all)) ≡ whole
each_more step before all i v x whole within is reads so_far =
    let turned = each_turn step before all i v within is in
    sym (rw reads at turned) ∙ so_far

-- the step fails at the element: so does the whole
pub each_fails : {A : Type 0} (step : List A → Data → Reading A) (before : List A) (all : List Value) (i : ℕ) (v : Value) (e : ParseRefusal) (whole : Reading (List A)) → i < length all → v ≡ get_or all i v
    → Fails e (step before (view v)) → each_after step before (map view (drop i all)) ≡ whole → Fails e whole
each_fails step before all i v e whole within is fails so_far =
    rw (← so_far, each_turn step before all i v within is) (fails_then e (step before (view v)) _ fails)

-- no element is left
pub each_ends : {A : Type 0} (step : List A → Data → Reading A) (before : List A) (all : List Value) (i : ℕ) (whole : Reading (List A)) → length all ≤ i
    → each_after step before (map view (drop i all)) ≡ whole → whole ≡ Ok before
unfolding each_after
each_ends step before all i whole past so_far =
    let none : drop i all ≡ [] = drop_of_length-le all past in
    sym so_far ∙ rw none

-- the virtual addresses before index i are these, and what is left gives what all give
pub record Parts (pool_max servers : ℕ) (addresses : List Address) (pools : List (List ℕ)) (i : ℕ) (all : List Value) : Type 0 where
  pub vips : List (Address × List ℕ)
  pub addresses_are : addresses_of vips ≡ addresses
  pub pools_are : pools_of vips ≡ pools
  pub so_far : each_after (vip_after pool_max servers) vips (map view (drop i all)) ≡ each_after (vip_after pool_max servers) [] (map view all)

-- one more virtual address
pub parts_more : (pool_max servers : ℕ) (addresses : List Address) (pools : List (List ℕ)) (i : ℕ) (all : List Value) (v : Value) (x : Address × List ℕ) → i < length all → v ≡ get_or all i v
    → vip_in pool_max servers addresses (view v) ≡ Ok x → Parts pool_max servers addresses pools i all → Parts pool_max servers (addresses ++ x.0 ∷ []) (pools ++ x.1 ∷ []) (i + 1) all
parts_more pool_max servers addresses pools i all v x within is reads p = record {
  vips = p.vips ++ x ∷ [];
  addresses_are = rw (map-append, p.addresses_are);
  pools_are = rw (map-append, p.pools_are);
  so_far = each_more (vip_after pool_max servers) p.vips all i v x _ within is (rw p.addresses_are reads) p.so_far;
}

-- a fault in the next one
pub parts_fails : (pool_max servers : ℕ) (addresses : List Address) (pools : List (List ℕ)) (i : ℕ) (all : List Value) (v : Value) (e : ParseRefusal) → i < length all → v ≡ get_or all i v
    → Fails e (vip_in pool_max servers addresses (view v)) → Parts pool_max servers addresses pools i all → Fails e (vips_in pool_max servers (map view all))
unfolding vips_in
parts_fails pool_max servers addresses pools i all v e within is fails p =
    fails_then e _ _ (each_fails (vip_after pool_max servers) p.vips all i v e _ within is (rw p.addresses_are fails) p.so_far)

-- none is left
pub parts_end : (pool_max servers : ℕ) (addresses : List Address) (pools : List (List ℕ)) (i : ℕ) (all : List Value) → length all ≤ i
    → Parts pool_max servers addresses pools i all → vips_in pool_max servers (map view all) ≡ Ok (addresses, pools)
unfolding vips_in
parts_end pool_max servers addresses pools i all past p =
    rw (each_ends (vip_after pool_max servers) p.vips all i _ past p.so_far, p.addresses_are, p.pools_are)
