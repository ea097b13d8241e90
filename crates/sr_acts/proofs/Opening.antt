-- What the controller has at the beginning is of the layout.
use Rattle.std.proofs.Common.{◌≡◌, ℕ, zero, suc, ◌+◌, ◌-◌, ◌^◌, ◌<◌, ◌≤◌, Bool, true, false, cond, List, [], ◌∷◌, ◌++◌, length, replicate, count_by, refl, sym, ap, subst, ◌∙◌, arith, ◌==◌, append_assoc}
use Rattle.std.specs.List.{AllByRecursion, slice_get}
use Rattle.std.specs.Prelude.{IsSome, Option, Some, None, option_and_then}
use Rattle.std.proofs.lemmas.Bool.Decides.{nat_tests}
use Rattle.std.proofs.lemmas.List.Sums.{count_by-le-length, sum_by-cons}
use Rattle.sr_base.specs.Fitting.{NamesOf}
use Rattle.sr_base.specs.Layout.{LayoutView}
use Rattle.sr_base.specs.declared.change.Change.{Change}
use Rattle.sr_base.specs.declared.change.What.{What}
use Rattle.sr_base.specs.declared.change.What.TheVariants.{Give, TakeDown}
use Rattle.sr_law.specs.Pools.{VipPools, numbered, pool_of, pools_from}
use Rattle.sr_law.specs.Pools as law
use Rattle.sr_machine.specs.Config.{Config}
use Rattle.sr_law.specs.declared.line.Line.{Line}
use Rattle.sr_machine.specs.Opening.{opening_controller, opening_lines, opening_named, outages_in}
use Rattle.sr_machine.specs.Reads.{steady}
use Rattle.sr_machine.specs.declared.held_opener.HeldOpener.{HeldOpener}
use Rattle.sr_base.specs.declared.vip_word.VipWord.{VipWord}
use Rattle.sr_shadow.specs.declared.book.Book.{Book}
use Rattle.sr_update.specs.Numbers.{NumberRows, opening_rows}
use Rattle.sr_update.specs.Updates.{give_of, gives_after, gives_to, next_pool}
use Rattle.sr_acts.specs.Config.{IsFitting}
use Rattle.sr_machine.specs.Deciding.{words_taken}
use Rattle.sr_machine.specs.declared.job.Job.TheVariants.{Free}
use Rattle.sr_machine.specs.declared.outage.Outage.{Outage}
use Rattle.sr_machine.specs.declared.ring_count.RingCount.{RingCount}
use Rattle.sr_update.specs.declared.give_change.GiveChange.{GiveChange}
use Rattle.std.proofs.lemmas.List.{length-replicate}
use Rattle.sr_acts.specs.Fits.{AreCounted, FitsGive}

-- ---- servers

pub outages_fit : (l : LayoutView) (changes : List Change) → AllByRecursion (λ change. NamesOf l change.what) changes
    → AllByRecursion (λ o. o.server < l.servers) (outages_in changes)
outages_fit l [] names = tt
outages_fit l (change ∷ changes) names = by change.what names.0 (outages_fit l changes names.1)
  where
    by : (what : What) → NamesOf l what → AllByRecursion (λ o. o.server < l.servers) (outages_in changes)
        → AllByRecursion (λ o. o.server < l.servers) (elim what [ Give vip pool ↦ outages_in changes | TakeDown server ↦ record { at_ms = change.at_ms; server = server } ∷ outages_in changes ])
    by (Give vip pool) n rest = rest
    by (TakeDown server) n rest = (n, rest)

-- ---- pools

-- the pools of a virtual address
own_at : (base : ℕ) (first : List (List ℕ)) (changes : List Change) (i : ℕ) → i < length first
    → (f : List ℕ) × (slice_get (pools_from base first changes) i ≡ Some (record { first = f; given = law.gives_to (base + i) changes }))
own_at base [] changes i h = absurd (omega (arith, h))
own_at base (f ∷ first) changes zero h = (f, ap (λ n. Some (record { first = f; given = law.gives_to n changes })) (let e : base ≡ base + 0 = omega arith in e))
own_at base (f ∷ first) changes (suc i) h =
    let rest = own_at (base + 1) first changes i (omega (arith, h)) in
    let e : base + 1 + i ≡ base + suc i = omega arith in
    (rest.0, rest.1 ∙ ap (λ n. Some (record { first = rest.0; given = law.gives_to n changes })) e)

-- one more pool, where the change before gives one
one_more : (p : List ℕ) (xs : List (List ℕ)) (n : ℕ) (b : Bool) (x : List ℕ) → slice_get xs n ≡ Some x
    → slice_get (cond b (p ∷ xs) xs) (cond b 1 0 + n) ≡ Some x
one_more p xs n true x e = let s : 1 + n ≡ suc n = omega arith in ap (slice_get (p ∷ xs)) s ∙ e
one_more p xs n false x e = let s : 0 + n ≡ n = omega arith in ap (slice_get xs) s ∙ e

-- the pool of a change is the one after those that the changes before it give
given_at : (vip : ℕ) (before rest : List Change) (at_ms : ℕ) (pool : List ℕ)
    → slice_get (law.gives_to vip (before ++ record { at_ms = at_ms; what = Give vip pool } ∷ rest)) (count_by (λ change. gives_to vip change.what) before) ≡ Some pool
given_at vip [] rest at_ms pool =
    let same : (vip == vip) ≡ true = grind (arith, nat_tests) in
    ap (λ b. slice_get (cond b (pool ∷ law.gives_to vip rest) (law.gives_to vip rest)) 0) same
given_at vip (change ∷ before) rest at_ms pool =
    ap (slice_get (law.gives_to vip (change ∷ before ++ record { at_ms = at_ms; what = Give vip pool } ∷ rest)))
    (sum_by-cons (λ (c : Change). cond (gives_to vip c.what) 1 0) change before)
    ∙ by change.what (given_at vip before rest at_ms pool)
  where
    tail : List (List ℕ)
    tail = law.gives_to vip (before ++ record { at_ms = at_ms; what = Give vip pool } ∷ rest)

    n : ℕ
    n = count_by (λ change. gives_to vip change.what) before

    by : (what : What) → slice_get tail n ≡ Some pool
        → slice_get (elim what [ Give to p ↦ cond (to == vip) (p ∷ tail) tail | TakeDown server ↦ tail ]) (cond (gives_to vip what) 1 0 + n) ≡ Some pool
    by (Give to p) e = one_more p tail n (to == vip) pool e
    by (TakeDown server) e = let s : 0 + n ≡ n = omega arith in ap (slice_get tail) s ∙ e

-- a pool that was given
numbered_given : (own : VipPools) (n : ℕ) → numbered own (n + 2) ≡ slice_get own.given n
numbered_given own n =
    let zeroth : (n + 2 == 0) ≡ false = grind (arith, nat_tests) in
    let first : (n + 2 == 1) ≡ false = grind (arith, nat_tests) in
    let less : n + 2 - 2 ≡ n = omega arith in
    ap (λ b. cond b None (cond (n + 2 == 1) (Some own.first) (slice_get own.given (n + 2 - 2)))) zeroth
    ∙ ap (λ b. cond b (Some own.first) (slice_get own.given (n + 2 - 2))) first ∙ ap (slice_get own.given) less

give_fits : (k : Config) → IsFitting k → (before rest : List Change) (at_ms vip : ℕ) (pool : List ℕ)
    → before ++ record { at_ms = at_ms; what = Give vip pool } ∷ rest ≡ k.changes → vip < k.layout.vips
    → IsSome (pool_of k.pools vip (next_pool vip before))
give_fits k fit before rest at_ms vip pool e within =
    let own = own_at 0 fit.0 k.changes vip (subst (λ n. vip < n) (sym fit.1.vips) within) in
    let at : 0 + vip ≡ vip = omega arith in
    let found = ap (λ ps. slice_get ps vip) fit.2 ∙ own.1 in
    let pools : pool_of k.pools vip (next_pool vip before) ≡ Some pool =
    ap (option_and_then (λ (o : VipPools). numbered o (next_pool vip before))) found
    ∙ numbered_given (record { first = own.0; given = law.gives_to (0 + vip) k.changes }) (count_by (λ change. gives_to vip change.what) before)
    ∙ ap (λ v. slice_get (law.gives_to v k.changes) (count_by (λ change. gives_to vip change.what) before)) at
    ∙ ap (λ cs. slice_get (law.gives_to vip cs) (count_by (λ change. gives_to vip change.what) before)) (sym e)
    ∙ given_at vip before rest at_ms pool in
    subst IsSome (sym pools) refl

longer : (xs ys : List Change) → length xs ≤ length (xs ++ ys)
longer [] ys = omega arith
longer (x ∷ xs) ys = omega (arith, longer xs ys)

few_pools : (k : Config) → IsFitting k → (before rest : List Change) (at_ms vip : ℕ) (pool : List ℕ)
    → before ++ record { at_ms = at_ms; what = Give vip pool } ∷ rest ≡ k.changes → next_pool vip before < 2 ^ 48
few_pools k fit before rest at_ms vip pool e =
    let shorter : length before ≤ length k.changes =
    subst (λ (cs : List Change). length before ≤ length cs) e (longer before (record { at_ms = at_ms; what = Give vip pool } ∷ rest)) in
    let counted : count_by (λ (change : Change). gives_to vip change.what) before ≤ length before = count_by-le-length (λ (change : Change). gives_to vip change.what) before in
    omega (arith, shorter, counted, fit.1.few)

pub gives_fit : (k : Config) → IsFitting k → (before changes : List Change) → before ++ changes ≡ k.changes
    → AllByRecursion (λ change. NamesOf k.layout change.what) changes → AllByRecursion (FitsGive k) (gives_after before changes)
gives_fit k fit before [] e names = tt
gives_fit k fit before (change ∷ changes) e names =
    by change.at_ms change.what names.0 e (gives_fit k fit (before ++ change ∷ []) changes (append_assoc before (change ∷ []) changes ∙ e) names.1)
  where
    by : (at_ms : ℕ) (what : What) → NamesOf k.layout what → before ++ record { at_ms = at_ms; what = what } ∷ changes ≡ k.changes
        → AllByRecursion (FitsGive k) (gives_after (before ++ change ∷ []) changes)
        → AllByRecursion (FitsGive k) (give_of before at_ms what ++ gives_after (before ++ change ∷ []) changes)
    by at_ms (Give vip pool) n e rest =
        (record { vip = n.0; bits = few_pools k fit before changes at_ms vip pool e; pool = give_fits k fit before changes at_ms vip pool e n.0 }, rest)
    by at_ms (TakeDown server) n e rest = rest

-- ---- all of it

pub words_none : (pipes : ℕ) → words_taken (replicate pipes (record { words = 0; punts = 0 })) ≡ 0
words_none zero = refl
words_none (suc pipes) =
    sum_by-cons (λ (r : RingCount). r.words) (record { words = 0; punts = 0 }) (replicate pipes (record { words = 0; punts = 0 }))
    ∙ (let e = words_none pipes in omega (arith, e))

pub opened : (k : Config) → IsFitting k → (gives : List GiveChange) (outages : List Outage) (rings : List RingCount) (taken : ℕ)
    → gives ≡ gives_after [] k.changes → outages ≡ outages_in k.changes
    → rings ≡ replicate k.layout.shape.pipes (record { words = 0; punts = 0 }) → taken ≡ 0
    → AllByRecursion (FitsGive k) gives × AllByRecursion (λ o. o.server < k.layout.servers) outages
    × (length rings ≡ k.layout.shape.pipes) × Unit {0} × Unit {0} × AreCounted 0 (words_taken rings) 0 taken Free
opened k fit gives outages rings taken g o r t =
    let none : words_taken rings ≡ 0 = ap words_taken r ∙ words_none k.layout.shape.pipes in (
      subst (AllByRecursion (FitsGive k)) (sym g) (gives_fit k fit [] k.changes refl fit.1.names),
      subst (AllByRecursion (λ x. x.server < k.layout.servers)) (sym o) (outages_fit k.layout k.changes fit.1.names),
      ap length r ∙ length-replicate k.layout.shape.pipes (record { words = 0; punts = 0 }),
      tt,
      tt,
      record { most_drawn = omega arith; most_words = omega (arith, none); most_sweeps = omega arith; most_taken = omega (arith, t) },
    )

pub opening_is : (k : Config) (gives : List GiveChange) (outages : List Outage) (clock : Option ℕ) (book : Book) (rings : List RingCount)
    (held : List HeldOpener) (numbers : NumberRows) (named : List (List ℕ)) (vips : List VipWord) (down : List ℕ) (lines : List Line)
    → gives ≡ gives_after [] k.changes → outages ≡ outages_in k.changes → clock ≡ None → book ≡ record { entries = []; taken = 0 }
    → rings ≡ replicate k.layout.shape.pipes (record { words = 0; punts = 0 }) → held ≡ [] → numbers ≡ opening_rows k.layout
    → named ≡ opening_named k → vips ≡ replicate k.layout.vips (steady 0) → down ≡ [] → lines ≡ opening_lines k
    → record {
      gives = gives;
      outages = outages;
      clock = clock;
      refusing = false;
      book = book;
      rings = rings;
      held = held;
      numbers = numbers;
      named = named;
      vips = vips;
      down = down;
      update = None;
      mark = 0;
      sweeps = 0;
      swept_ms = 0;
      job = Free;
      drawn = 0;
      lines = lines;
    }
    ≡ opening_controller k
unfolding opening_controller
opening_is k gives outages clock book rings held numbers named vips down lines a b c d e f g h i j l = cc

abbrev pub fresh_rings : ℕ → List RingCount
fresh_rings pipes = replicate pipes (record { words = 0; punts = 0 })

abbrev pub named_rows : LayoutView → List (List ℕ)
named_rows l = replicate l.vips (1 ∷ replicate (l.shape.versions - 1) 0)
