-- First pools and changes that the schema takes fit the layout.
use Rattle.std.proofs.Common.{◌≡◌, ℕ, ◌+◌, ◌-◌, ◌<◌, ◌≤◌, Bool, true, false, cond, ◌||◌, List, [], ◌∷◌, ◌++◌, length, length-append, count_by, option_map, unwrap_or, Some, refl, sym, ap, subst, ◌∙◌, inl, inr, arith}
use Rattle.std.specs.List.{AllByRecursion, list_any, slice_get}
use Rattle.std.proofs.lemmas.Bool.{ltb-true}
use Rattle.std.proofs.lemmas.Bool.Decides.{eqb_tells}
use Rattle.std.proofs.lemmas.List.Folds.{list_any-append}
use Rattle.std.proofs.lemmas.List.Sums.{sum_by-append}
use Rattle.toml.specs.Data.{Data, Members}
use Rattle.sr_base.specs.Fitting.{IsPoolOf, NamesOf, IsInTime, takes_down}
use Rattle.sr_base.specs.Layout.{LayoutView}
use Rattle.sr_base.specs.declared.change.Change.{Change}
use Rattle.sr_base.specs.declared.change.What.{What}
use Rattle.sr_base.specs.declared.change.What.TheVariants.{Give, TakeDown}
use Rattle.sr_script.specs.declared.rule.Rule.TheVariants.{Below}
use Rattle.sr_script.specs.Schema.{SpellAll, SpellsNumber, SpellsPool, SpellsVip, SpellsWhat, SpellsChange, EachAfter, Follows, IsStillUp}
use Rattle.sr_script.specs.Spelled.{Address, pools_of, last_ms}

-- ---- pools

servers_below : (ds : List Data) (pool : List ℕ) (servers : ℕ) → SpellAll (SpellsNumber (Below servers)) ds pool → AllByRecursion (λ server. server < servers) pool
servers_below [] [] servers h = tt
servers_below [] (server ∷ pool) servers h = absurd h
servers_below (d ∷ ds) [] servers h = absurd h
servers_below (d ∷ ds) (server ∷ pool) servers h = (ltb-true server servers h.0.1, servers_below ds pool servers h.1)

pub pool_fits : (l : LayoutView) (d : Data) (pool : List ℕ) → SpellsPool l.shape.pool_max l.servers d pool → IsPoolOf l pool
pool_fits l d pool h = record { some = h.count.0; most = h.count.1; servers = servers_below h.each.0 pool l.servers h.each.2 }

pub pools_fit : (l : LayoutView) (ds : List Data) (vips : List (Address × List ℕ)) → SpellAll (SpellsVip l.shape.pool_max l.servers) ds vips
    → AllByRecursion (IsPoolOf l) (pools_of vips)
pools_fit l [] [] h = tt
pools_fit l [] (vip ∷ vips) h = absurd h
pools_fit l (d ∷ ds) [] h = absurd h
pools_fit l (d ∷ ds) (vip ∷ vips) h = (pool_fits l h.0.pool.0 vip.1 h.0.pool.2, pools_fit l ds vips h.1)

-- ---- what changes name

what_fits : (l : LayoutView) (t : Members) (what : What) → SpellsWhat l.shape.pool_max l.servers l.vips t what → NamesOf l what
what_fits l t (Give vip pool) h = (ltb-true vip l.vips h.1.2.1, pool_fits l h.2.0 pool h.2.2)
what_fits l t (TakeDown server) h = ltb-true server l.servers h.2.2.1

pub names_fit : (l : LayoutView) (ds : List Data) (changes : List Change) → SpellAll (SpellsChange l.shape.pool_max l.servers l.vips) ds changes
    → AllByRecursion (λ (change : Change). NamesOf l change.what) changes
names_fit l [] [] h = tt
names_fit l [] (change ∷ changes) h = absurd h
names_fit l (d ∷ ds) [] h = absurd h
names_fit l (d ∷ ds) (change ∷ changes) h = (what_fits l h.0.table change.what h.0.what, names_fit l ds changes h.1)

-- ---- when changes are due

get_last : (before : List Change) (change : Change) → slice_get (before ++ change ∷ []) (length before) ≡ Some change
get_last [] change = refl
get_last (first ∷ before) change = get_last before change

last_is : (before : List Change) (change : Change) → last_ms (before ++ change ∷ []) ≡ change.at_ms
last_is before change =
    let place : length (before ++ change ∷ []) - 1 ≡ length before = omega (arith, length-append before (change ∷ [])) in
    ap (λ o. unwrap_or (option_map (λ (c : Change). c.at_ms) o) 0) (ap (slice_get (before ++ change ∷ [])) place ∙ get_last before change)

pub in_time : (before changes : List Change) → EachAfter Follows before changes → IsInTime (last_ms before) changes
in_time before [] h = tt
in_time before (change ∷ changes) h =
    (h.0.0, subst (λ (from : ℕ). IsInTime from changes) (last_is before change) (in_time (before ++ change ∷ []) changes h.1))

-- ---- who is taken down

-- how many changes take a server down, where some before may have
abbrev DownOnce : ℕ → List Change → List Change → Type 0
DownOnce server before changes =
    (count_by (λ (change : Change). takes_down server change.what) changes ≤ 1)
    × (list_any (λ (change : Change). takes_down server change.what) before ≡ true → count_by (λ (change : Change). takes_down server change.what) changes ≡ 0)

down_again : {A : Type 0} (server : ℕ) (before : List Change) (what : What) → takes_down server what ≡ true → IsStillUp before what
    → list_any (λ (change : Change). takes_down server change.what) before ≡ true → A
down_again server before (Give vip pool) takes up down = absurd (cc)
down_again server before (TakeDown other) takes up down =
    let same : other ≡ server = elim (eqb_tells other server) [ inl e ↦ e.1 | inr e ↦ absurd (let f = e.0 in cc) ] in
    let down' : list_any (λ (change : Change). takes_down other change.what) before ≡ true =
    subst (λ (s : ℕ). list_any (λ (change : Change). takes_down s change.what) before ≡ true) (sym same) down in
    absurd (let up' : list_any (λ (change : Change). takes_down other change.what) before ≡ false = up in cc)

count_more : (server : ℕ) (change : Change) (changes : List Change)
    → count_by (λ (c : Change). takes_down server c.what) (change ∷ changes) ≡ cond (takes_down server change.what) 1 0 + count_by (λ (c : Change). takes_down server c.what) changes
count_more server change changes = omega (arith, sum_by-append (λ (c : Change). cond (takes_down server c.what) 1 0) (change ∷ []) changes)

or_true : (a b : Bool) → b ≡ true → (a || b) ≡ true
or_true true b h = refl
or_true false b h = h

or_first : (a b : Bool) → a ≡ true → (a || b) ≡ true
or_first true b h = refl
or_first false b h = absurd (cc)

any_more : (server : ℕ) (before : List Change) (change : Change) → list_any (λ (c : Change). takes_down server c.what) (before ++ change ∷ [])
    ≡ (list_any (λ (c : Change). takes_down server c.what) before || (takes_down server change.what || false))
any_more server before change = list_any-append (λ (c : Change). takes_down server c.what) before (change ∷ [])

once_by : (server : ℕ) (before changes : List Change) (change : Change) (b : Bool) → takes_down server change.what ≡ b → IsStillUp before change.what
    → DownOnce server (before ++ change ∷ []) changes → DownOnce server before (change ∷ changes)
once_by server before changes change true takes up rest =
    let down = any_more server before change ∙ or_true _ _ (or_first (takes_down server change.what) false takes) in
    let bit : Bool → ℕ = λ b. cond b 1 0 in
    let one = ap bit takes in
    (omega (arith, count_more server change changes, rest.1 down, one), λ earlier. down_again server before change.what takes up earlier)
once_by server before changes change false takes up rest =
    let bit : Bool → ℕ = λ b. cond b 1 0 in
    let none = ap bit takes in (
      omega (arith, count_more server change changes, rest.0, none),
      λ earlier. let h = rest.1 (any_more server before change ∙ or_first _ _ earlier) in omega (arith, count_more server change changes, h, none),
    )

pub down_once : (server : ℕ) (before changes : List Change) → EachAfter Follows before changes → DownOnce server before changes
down_once server before [] h = (omega arith, λ _. refl)
down_once server before (change ∷ changes) h =
    once_by server before changes change (takes_down server change.what) refl h.0.1 (down_once server (before ++ change ∷ []) changes h.1)
