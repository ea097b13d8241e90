-- The walk gives a value exactly where the schema has it: the changes.
use Rattle.std.proofs.Common.{◌≡◌, ℕ, ◌≤◌, Bool, true, false, ◌||◌, nat_le, le-leb, cond, List, [], ◌∷◌, codes, length, Option, Some, None, MatchOption, Ok, refl, sym, ap, ◌∙◌, subst, arith, option_map, inl, inr}
use Rattle.std.proofs.lemmas.Bool.{cases_Bool, and_parts}
use Rattle.std.proofs.lemmas.Bool.Decides.{nat_tests}
use Rattle.std.proofs.lemmas.Slice.Eq.{bytes_eq-Decides}
use Rattle.std.specs.List.{list_any, AllByRecursion}
use Rattle.std.specs.Str.{bytes_eq}
use Rattle.toml.specs.Data.{Data, Members, get_member, as_array, as_table}
use Rattle.sr_base.specs.Limit.{between}
use Rattle.sr_base.specs.declared.change.Change.{Change}
use Rattle.sr_base.specs.declared.change.What.{What}
use Rattle.sr_base.specs.declared.change.What.TheVariants.{Give, TakeDown}
use Rattle.sr_script.specs.declared.why.Why.TheVariants.{WrongType, OutOfRange, NoSuchServer, NoSuchVip, TooManyChanges}
use Rattle.sr_script.specs.declared.section.Section.{Section}
use Rattle.sr_script.specs.declared.section.Section.TheVariants.{Top, Change as Change_section}
use Rattle.sr_script.specs.declared.rule.Rule.TheVariants.{Between, Below}
use Rattle.sr_script.specs.Fault.{at_path, ◌>>=◌, each_after}
use Rattle.sr_script.specs.Judge.{list_of, keys_of, has, wanted, elements, table, number, at_most}
use Rattle.sr_script.specs.Path.{key_path, item_path}
use Rattle.sr_script.specs.Spelled.{last_ms, takes_down}
use Rattle.sr_script.specs.Walk.{only_known, pool_in, gives, change_keys, still_up, down_in, given_vip, take_down_in, give_in, what_in, due_in, change_table, change_in, elements_or_none, change_values, changes_of}
use Rattle.sr_script.specs.Schema.{IsAmong, HasOnly, At, SpellsNumber, SpellsPool, SpellsWhat, SpellsChange, IsStillUp, Follows, SpellsChanges}
use Rattle.sr_script.proofs.LawWords.{chain, ok_same, at_path_ok, ok_or_ok, number_to, number_from, at_most_to, at_most_from, fresh_cases, known_to, known_from, each_to, each_from, SpellAll-length}
use Rattle.sr_script.proofs.LawKeys.{has_known, lacks_key, has_at, wanted_to}
use Rattle.sr_script.proofs.LawLists.{pool_to, pool_from}

-- ---- when a change is due

between_to : (low high n : ℕ) → between low high n ≡ true → (low ≤ n) × (n ≤ high)
between_to low high n h =
    let p = and_parts (nat_le low n) (nat_le n high) h in
    (grind (arith, nat_tests, p.0), grind (arith, nat_tests, p.1))

between_from : (low high n : ℕ) → low ≤ n → n ≤ high → between low high n ≡ true
between_from low high n a b = rw (le-leb low n a, le-leb n high b)

due_to : (last : ℕ) (t : Members) (n : ℕ) → due_in last t ≡ Ok n → At (codes "at_ms") t (λ e. SpellsNumber (Between 0 9007199254740991) e n) × (last ≤ n)
unfolding due_in
due_to last t n h =
    chain (wanted (codes "at_ms") t) (number (Between last 9007199254740991) OutOfRange) n h (λ d at h.
    let s = number_to (Between last 9007199254740991) OutOfRange d n h in
    let b = between_to last 9007199254740991 n s.1 in
    ((d, wanted_to (codes "at_ms") t d at, (s.0, between_from 0 9007199254740991 n (omega arith) b.1)), b.0))

due_from : (last : ℕ) (t : Members) (n : ℕ) → At (codes "at_ms") t (λ e. SpellsNumber (Between 0 9007199254740991) e n) → last ≤ n → due_in last t ≡ Ok n
unfolding due_in
due_from last t n h after =
    let b = between_to 0 9007199254740991 n h.2.1 in
    rw h.1 (number_from (Between last 9007199254740991) OutOfRange h.0 n (h.2.0, between_from last 9007199254740991 n after b.1))

-- ---- what a change does

take_down_to : (section : Section) (servers : ℕ) (before : List Change) (t : Members) (w : What) → take_down_in section servers before t ≡ Ok w
    → (server : ℕ) × (w ≡ TakeDown server) × At (codes "down") t (λ d. SpellsNumber (Below servers) d server) × (list_any (λ c. takes_down server c.what) before ≡ false)
unfolding take_down_in down_in
take_down_to section servers before t w h =
    let path = key_path section (codes "down") in
    chain (at_path path (down_in servers before t)) _ w h (λ server read made.
    chain (wanted (codes "down") t >>= number (Below servers) NoSuchServer) (still_up before) server (at_path_ok path (down_in servers before t) server read) (λ n in_range up.
    chain (wanted (codes "down") t) (number (Below servers) NoSuchServer) n in_range (λ d at in_range.
    let f = fresh_cases (list_any (λ c. takes_down n c.what) before) n server up in
    (n, ok_same (TakeDown server) w made ∙ ap TakeDown f.0, (d, wanted_to (codes "down") t d at, number_to (Below servers) NoSuchServer d n in_range), f.1))))

give_to : (section : Section) (pool_max servers vips : ℕ) (t : Members) (w : What) → give_in section pool_max servers vips t ≡ Ok w
    → (vip : ℕ) × (pool : List ℕ) × (w ≡ Give vip pool) × At (codes "vip") t (λ d. SpellsNumber (Below vips) d vip) × At (codes "pool") t (λ d. SpellsPool pool_max servers d pool)
unfolding give_in given_vip
give_to section pool_max servers vips t w h =
    let path = key_path section (codes "vip") in
    chain (at_path path (given_vip vips t)) _ w h (λ vip read h. chain (pool_in section pool_max servers t) _ w h (λ pool given made.
    chain (wanted (codes "vip") t) (number (Below vips) NoSuchVip) vip (at_path_ok path (given_vip vips t) vip read) (λ d at in_range. (
      vip,
      pool,
      ok_same (Give vip pool) w made,
      (d, wanted_to (codes "vip") t d at, number_to (Below vips) NoSuchVip d vip in_range),
      pool_to section pool_max servers t pool given,
    ))))

gives_not : (g : Bool) → IsAmong (change_keys g) (codes "down") → g ≡ false
gives_not true h = cc
gives_not false h = refl

or_false : (x y : Bool) → (x || y) ≡ false → (x ≡ false) × (y ≡ false)
or_false true y h = cc
or_false false y h = (refl, h)

what_cases : (section : Section) (pool_max servers vips : ℕ) (before : List Change) (t : Members) (w : What) (b : Bool) → has (codes "down") t ≡ b
    → cond b (take_down_in section servers before t) (give_in section pool_max servers vips t) ≡ Ok w → HasOnly (change_keys (gives t)) t
    → SpellsWhat pool_max servers vips t w × IsStillUp before w
what_cases section pool_max servers vips before t w true down h only =
    let d = take_down_to section servers before t w h in
    let none = or_false (has (codes "vip") t) (has (codes "pool") t) (gives_not (gives t) (has_known (codes "down") (change_keys (gives t)) t down only)) in
    subst (λ w. SpellsWhat pool_max servers vips t w × IsStillUp before w) (sym d.1) ((none.0, none.1, d.2), d.3)
what_cases section pool_max servers vips before t w false down h only =
    let g = give_to section pool_max servers vips t w h in
    subst (λ w. SpellsWhat pool_max servers vips t w × IsStillUp before w) (sym g.2) ((down, g.3, g.4), tt)

what_to : (section : Section) (pool_max servers vips : ℕ) (before : List Change) (t : Members) (w : What) → what_in section pool_max servers vips before t ≡ Ok w → HasOnly (change_keys (gives t)) t
    → SpellsWhat pool_max servers vips t w × IsStillUp before w
unfolding what_in
what_to section pool_max servers vips before t w h only = what_cases section pool_max servers vips before t w (has (codes "down") t) refl h only

what_from : (section : Section) (pool_max servers vips : ℕ) (before : List Change) (t : Members) (w : What) → SpellsWhat pool_max servers vips t w → IsStillUp before w
    → what_in section pool_max servers vips before t ≡ Ok w
unfolding what_in take_down_in give_in down_in given_vip
what_from section pool_max servers vips before t (Give vip pool) s up =
    rw (s.0, s.1.1, number_from (Below vips) NoSuchVip s.1.0 vip s.1.2, pool_from section pool_max servers t pool s.2)
what_from section pool_max servers vips before t (TakeDown server) s up =
    rw (has_at (codes "down") t _ s.2, s.2.1, number_from (Below servers) NoSuchServer s.2.0 server s.2.2, up)

-- ---- the keys of a change

or_more : (x y z w : Bool) → (x || (y || (z || false))) ≡ true → (x || (y || (z || (w || false)))) ≡ true
or_more true y z w h = refl
or_more false true z w h = refl
or_more false false true w h = refl
or_more false false false w h = cc

or_less : (x y z w : Bool) → (x || (y || (z || (w || false)))) ≡ true → w ≡ false → (x || (y || (z || false))) ≡ true
or_less true y z w h not_last = refl
or_less false true z w h not_last = refl
or_less false false true w h not_last = refl
or_less false false false true h not_last = cc
or_less false false false false h not_last = h

keys_more : (g : Bool) (keys : List (List ℕ)) → AllByRecursion (IsAmong (change_keys g)) keys → AllByRecursion (IsAmong (change_keys false)) keys
keys_more g [] h = tt
keys_more true (key ∷ keys) h =
    (or_more (bytes_eq key (codes "at_ms")) (bytes_eq key (codes "vip")) (bytes_eq key (codes "pool")) (bytes_eq key (codes "down")) h.0, keys_more true keys h.1)
keys_more false (key ∷ keys) h = h

other_way : (k l : List ℕ) → bytes_eq k l ≡ false → bytes_eq l k ≡ false
other_way k l lacks =
    elim (cases_Bool (bytes_eq l k)) [
      | inl equal ↦ let same : bytes_eq k l ≡ true = (bytes_eq-Decides k l).1 (sym ((bytes_eq-Decides l k).0 equal)) in cc
      | inr other ↦ other
    ]

keys_less : (keys : List (List ℕ)) → AllByRecursion (IsAmong (change_keys false)) keys → AllByRecursion (λ l. bytes_eq (codes "down") l ≡ false) keys → AllByRecursion (IsAmong (change_keys true)) keys
keys_less [] h none = tt
keys_less (key ∷ keys) h none = (
  or_less (bytes_eq key (codes "at_ms")) (bytes_eq key (codes "vip")) (bytes_eq key (codes "pool")) (bytes_eq key (codes "down")) h.0 (other_way (codes "down") key none.0),
  keys_less keys h.1 none.1,
)

only_from : (pool_max servers vips : ℕ) (t : Members) (w : What) → SpellsWhat pool_max servers vips t w → HasOnly (change_keys false) t → HasOnly (change_keys (gives t)) t
only_from pool_max servers vips t (Give vip pool) s h = rw (has_at (codes "vip") t _ s.1) (keys_less (keys_of t) h (lacks_key (codes "down") t s.0))
only_from pool_max servers vips t (TakeDown server) s h = rw (s.0, s.1) h

-- ---- a change

change_table_to : (pool_max servers vips : ℕ) (before : List Change) (d : Data) (t : Members) (c : Change) → as_table d ≡ Some t → change_table pool_max servers vips before t ≡ Ok c
    → SpellsChange pool_max servers vips d c × Follows before c
unfolding change_table
change_table_to pool_max servers vips before d t c is h =
    let section = Change_section (length before) in
    let path = key_path section (codes "at_ms") in
    chain (only_known section (change_keys (gives t)) (keys_of t)) _ c h (λ _ known h. chain (at_path path (due_in (last_ms before) t)) _ c h (λ at_ms due h.
    chain (what_in section pool_max servers vips before t) _ c h (λ what does made.
    let only = known_to section (change_keys (gives t)) (keys_of t) known in
    let at = due_to (last_ms before) t at_ms (at_path_ok path (due_in (last_ms before) t) at_ms due) in
    let w = what_to section pool_max servers vips before t what does only in
    subst (λ c. SpellsChange pool_max servers vips d c × Follows before c) (sym (ok_same (record { at_ms = at_ms; what = what }) c made))
    (record { table = t; is_table = is; keys = keys_more (gives t) (keys_of t) only; at_ms = at.0; what = w.0 }, (at.1, w.1)))))

change_to : (pool_max servers vips : ℕ) (before : List Change) (d : Data) (c : Change) → change_in pool_max servers vips before d ≡ Ok c → SpellsChange pool_max servers vips d c × Follows before c
unfolding change_in
change_to pool_max servers vips before d c h =
    let path = item_path Top (codes "change") (length before) in
    chain (at_path path (table d)) _ c h (λ t is h. change_table_to pool_max servers vips before d t c (ok_or_ok (as_table d) WrongType t (at_path_ok path (table d) t is)) h)

change_from : (pool_max servers vips : ℕ) (before : List Change) (d : Data) (c : Change) → SpellsChange pool_max servers vips d c → Follows before c → change_in pool_max servers vips before d ≡ Ok c
unfolding change_in change_table
change_from pool_max servers vips before d c s f =
    let section = Change_section (length before) in
    rw (
      s.is_table,
      known_from section (change_keys (gives s.table)) (keys_of s.table) (only_from pool_max servers vips s.table c.what s.what s.keys),
      due_from (last_ms before) s.table c.at_ms s.at_ms f.0,
      what_from section pool_max servers vips before s.table c.what s.what f.1,
    )

-- ---- the changes

changes_or_to : (pool_max servers vips : ℕ) (o : Option Data) (cs : List Change)
    → (at_path (key_path Top (codes "change")) (elements_or_none o >>= at_most 4096 TooManyChanges) >>= each_after (change_in pool_max servers vips) []) ≡ Ok cs
    → MatchOption o (cs ≡ []) (λ d. SpellsChanges pool_max servers vips d cs)
unfolding each_after
changes_or_to pool_max servers vips None cs h = ok_same [] cs h
changes_or_to pool_max servers vips (Some d) cs h =
    let path = key_path Top (codes "change") in
    chain (at_path path (elements d >>= at_most 4096 TooManyChanges)) (each_after (change_in pool_max servers vips) []) cs h (λ ds values all.
    chain (elements d) (at_most 4096 TooManyChanges) ds (at_path_ok path (elements d >>= at_most 4096 TooManyChanges) ds values) (λ es array counted.
    let a = at_most_to 4096 TooManyChanges es ds counted in
    let e = each_to (SpellsChange pool_max servers vips) Follows (change_in pool_max servers vips) (change_to pool_max servers vips) [] ds cs all in
    let n : length e.0 ≡ length ds = SpellAll-length (SpellsChange pool_max servers vips) ds e.0 e.2 in
    let same : cs ≡ e.0 = e.1 in
    let most : length cs ≤ 4096 = omega (arith, a.1, n, ap length same, ap length a.0) in
    subst (λ cs. (length cs ≤ 4096) → SpellsChanges pool_max servers vips d cs) (sym same)
    (λ most. record {
      each = (ds, ok_or_ok (option_map list_of (as_array d)) WrongType es array ∙ ap Some (sym a.0), e.2);
      count = (omega arith, most);
      ordered = e.3;
    }) most))

changes_or_from : (pool_max servers vips : ℕ) (o : Option Data) (cs : List Change) → MatchOption o (cs ≡ []) (λ d. SpellsChanges pool_max servers vips d cs)
    → (at_path (key_path Top (codes "change")) (elements_or_none o >>= at_most 4096 TooManyChanges) >>= each_after (change_in pool_max servers vips) []) ≡ Ok cs
unfolding each_after
changes_or_from pool_max servers vips None cs h = ap Ok (sym h)
changes_or_from pool_max servers vips (Some d) cs h =
    let ds = h.each.0 in
    let n : length cs ≡ length ds = SpellAll-length (SpellsChange pool_max servers vips) ds cs h.each.2 in
    let most : length ds ≤ 4096 = omega (arith, n, h.count.1) in
    rw (h.each.1, at_most_from 4096 TooManyChanges ds most)
    (each_from (SpellsChange pool_max servers vips) Follows (change_in pool_max servers vips) (change_from pool_max servers vips) [] ds cs h.each.2 h.ordered)

pub changes_to : (pool_max servers vips : ℕ) (t : Members) (cs : List Change) → changes_of pool_max servers vips t ≡ Ok cs
    → MatchOption (get_member (codes "change") t) (cs ≡ []) (λ d. SpellsChanges pool_max servers vips d cs)
unfolding changes_of change_values
changes_to pool_max servers vips t cs h = changes_or_to pool_max servers vips (get_member (codes "change") t) cs h

pub changes_from : (pool_max servers vips : ℕ) (t : Members) (cs : List Change) → MatchOption (get_member (codes "change") t) (cs ≡ []) (λ d. SpellsChanges pool_max servers vips d cs)
    → changes_of pool_max servers vips t ≡ Ok cs
unfolding changes_of change_values
changes_from pool_max servers vips t cs h = changes_or_from pool_max servers vips (get_member (codes "change") t) cs h
