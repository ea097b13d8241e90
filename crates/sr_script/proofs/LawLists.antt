-- The walk gives a value exactly where the schema has it: servers, pools, virtual addresses.
use Rattle.std.proofs.Common.{◌≡◌, ℕ, ◌≤◌, nat_eq, List, [], ◌∷◌, codes, length, Some, Ok, sym, ap, ◌∙◌, arith, subst, option_map}
use Rattle.toml.specs.Data.{Data, Members, as_str, as_array, as_table}
use Rattle.sr_script.specs.declared.why.Why.{Why}
use Rattle.sr_script.specs.declared.why.Why.TheVariants.{WrongType, OutOfRange, NoSuchServer, EmptyPool, PoolTooLarge, TooManyVips}
use Rattle.sr_script.specs.declared.section.Section.{Section}
use Rattle.sr_script.specs.declared.section.Section.TheVariants.{Top, Vip}
use Rattle.sr_script.specs.declared.rule.Rule.TheVariants.{Below}
use Rattle.sr_script.specs.Address.{address_of}
use Rattle.sr_script.specs.Fault.{Reading, ◌>>=◌, at_path, each_after}
use Rattle.sr_script.specs.Judge.{list_of, keys_of, wanted, text, elements, table, number, some, at_most, fresh}
use Rattle.sr_script.specs.Path.{key_path, item_path}
use Rattle.sr_script.specs.Spelled.{Address, same_address, addresses_of, pools_of}
use Rattle.sr_script.specs.Walk.{address, new_address, server_in, server_values, servers_of, new_server, member_in, pool_values, pool_in, only_known, vip_address, vip_table, vip_in, vip_after, vip_values, vips_in, vips_of}
use Rattle.sr_script.specs.Schema.{IsArray, IsText, At, SpellAll, SpellsList, HasCount, EachAfter, IsNew, SpellsNumber, SpellsAddress, SpellsServers, SpellsPool, SpellsVip, SpellsVips}
use Rattle.sr_script.proofs.LawWords.{bound, chain, ok_same, at_path_ok, ok_or_ok, number_to, number_from, some_to, some_from, at_most_to, at_most_from, fresh_to, known_to, known_from, each_to, each_from, SpellAll-length}
use Rattle.sr_script.proofs.LawKeys.{wanted_to}

-- an array at a key, of one element at least and so many at most
pub counted_to : (key : List ℕ) (t : Members) (few : Why) (most : ℕ) (many : Why) (ds : List Data) → (wanted key t >>= elements >>= some few >>= at_most most many) ≡ Ok ds
    → At key t (λ d. IsArray d ds × HasCount 1 most ds)
counted_to key t few most many ds h =
    let b = bound (wanted key t >>= elements >>= some few) (at_most most many) ds h in
    let a = at_most_to most many b.0 ds b.2 in
    let c = bound (wanted key t >>= elements) (some few) b.0 b.1 in
    let s = some_to few c.0 b.0 c.2 in
    let e = bound (wanted key t) elements c.0 c.1 in
    let same : ds ≡ c.0 = a.0 ∙ s.0 in
    let array : IsArray e.0 ds = ok_or_ok (option_map list_of (as_array e.0)) WrongType c.0 e.2 ∙ ap Some (sym same) in
    let least : 1 ≤ length ds = omega (arith, s.1, ap length same) in
    let greatest : length ds ≤ most = omega (arith, a.1, ap length a.0) in
    (e.0, wanted_to key t e.0 e.1, (array, (least, greatest)))

pub counted_from : (key : List ℕ) (t : Members) (few : Why) (most : ℕ) (many : Why) (ds : List Data) → At key t (λ d. IsArray d ds × HasCount 1 most ds)
    → (wanted key t >>= elements >>= some few >>= at_most most many) ≡ Ok ds
counted_from key t few most many ds h =
    rw (h.1, h.2.0, some_from few ds h.2.1.0) (at_most_from most many ds h.2.1.1)

-- a list that is such an array, read by a step
pub listed_to : {A : Type 0} (R : Data → A → Type 0) (Q : List A → A → Type 0) (step : List A → Data → Reading A)
    → ((before : List A) (d : Data) (x : A) → step before d ≡ Ok x → R d x × Q before x)
    → (path key : List ℕ) (t : Members) (few : Why) (most : ℕ) (many : Why) (xs : List A)
    → (at_path path (wanted key t >>= elements >>= some few >>= at_most most many) >>= each_after step []) ≡ Ok xs
    → At key t (λ d. SpellsList R d xs × HasCount 1 most xs × EachAfter Q [] xs)
listed_to R Q step means path key t few most many xs h =
    let b = bound (at_path path (wanted key t >>= elements >>= some few >>= at_most most many)) (each_after step []) xs h in
    let c = counted_to key t few most many b.0 (at_path_ok path (wanted key t >>= elements >>= some few >>= at_most most many) b.0 b.1) in
    let e = each_to R Q step means [] b.0 xs b.2 in
    let n : length e.0 ≡ length b.0 = SpellAll-length R b.0 e.0 e.2 in
    let same : xs ≡ e.0 = e.1 in
    let least : 1 ≤ length xs = omega (arith, n, ap length same, c.2.1.0) in
    let greatest : length xs ≤ most = omega (arith, n, ap length same, c.2.1.1) in
    (c.0, c.1, ((b.0, c.2.0, subst (λ ys. SpellAll R b.0 ys) (sym same) e.2), (least, greatest), subst (λ ys. EachAfter Q [] ys) (sym same) e.3))

pub listed_from : {A : Type 0} (R : Data → A → Type 0) (Q : List A → A → Type 0) (step : List A → Data → Reading A)
    → ((before : List A) (d : Data) (x : A) → R d x → Q before x → step before d ≡ Ok x)
    → (path key : List ℕ) (t : Members) (few : Why) (most : ℕ) (many : Why) (xs : List A)
    → At key t (λ d. SpellsList R d xs × HasCount 1 most xs × EachAfter Q [] xs)
    → (at_path path (wanted key t >>= elements >>= some few >>= at_most most many) >>= each_after step []) ≡ Ok xs
listed_from R Q step means path key t few most many xs h =
    let ds = h.2.0.0 in
    let n : length xs ≡ length ds = SpellAll-length R ds xs h.2.0.2 in
    let least : 1 ≤ length ds = omega (arith, n, h.2.1.0) in
    let greatest : length ds ≤ most = omega (arith, n, h.2.1.1) in
    rw (counted_from key t few most many ds (h.0, h.1, (h.2.0.1, (least, greatest)))) (each_from R Q step means [] ds xs h.2.0.2 h.2.2)

-- ---- servers

new_address_to : (before : List Address) (d : Data) (a : Address) → new_address before d ≡ Ok a → SpellsAddress d a × IsNew same_address before a
unfolding new_address
new_address_to before d a h =
    let b = bound (text d >>= address) (fresh same_address before) a h in
    let f = fresh_to same_address before b.0 a b.2 in
    let c = bound (text d) address b.0 b.1 in
    let bytes : IsText d c.0 = ok_or_ok (as_str d) WrongType c.0 c.1 in
    let spelled : address_of c.0 ≡ Some b.0 = ok_or_ok (address_of c.0) OutOfRange b.0 c.2 in
    rw f.0 ((c.0, bytes, spelled), f.1)

new_address_from : (before : List Address) (d : Data) (a : Address) → SpellsAddress d a → IsNew same_address before a → new_address before d ≡ Ok a
unfolding new_address
new_address_from before d a s new = rw (s.1, s.2, new)

pub servers_to : (t : Members) (servers : List Address) → servers_of t ≡ Ok servers → At (codes "servers") t (λ d. SpellsServers d servers)
unfolding servers_of server_values
servers_to t servers h =
    let l = listed_to SpellsAddress (IsNew same_address) server_in (λ before d x h. new_address_to before d x (at_path_ok _ (new_address before d) x h))
    (key_path Top (codes "servers")) (codes "servers") t OutOfRange 65536 OutOfRange servers h in
    (l.0, l.1, record { each = l.2.0; count = l.2.1; different = l.2.2 })

pub servers_from : (t : Members) (servers : List Address) → At (codes "servers") t (λ d. SpellsServers d servers) → servers_of t ≡ Ok servers
unfolding servers_of server_values
servers_from t servers h =
    listed_from SpellsAddress (IsNew same_address) server_in (λ before d x r q. rw (new_address_from before d x r q))
    (key_path Top (codes "servers")) (codes "servers") t OutOfRange 65536 OutOfRange servers (h.0, h.1, (h.2.each, h.2.count, h.2.different))

-- ---- a pool

new_server_to : (servers : ℕ) (before : List ℕ) (d : Data) (n : ℕ) → new_server servers before d ≡ Ok n → SpellsNumber (Below servers) d n × IsNew nat_eq before n
unfolding new_server
new_server_to servers before d n h =
    let b = bound (number (Below servers) NoSuchServer d) (fresh nat_eq before) n h in
    let f = fresh_to nat_eq before b.0 n b.2 in
    rw f.0 (number_to (Below servers) NoSuchServer d b.0 b.1, f.1)

new_server_from : (servers : ℕ) (before : List ℕ) (d : Data) (n : ℕ) → SpellsNumber (Below servers) d n → IsNew nat_eq before n → new_server servers before d ≡ Ok n
unfolding new_server
new_server_from servers before d n s new = rw (number_from (Below servers) NoSuchServer d n s, new)

pub pool_to : (section : Section) (pool_max servers : ℕ) (t : Members) (pool : List ℕ) → pool_in section pool_max servers t ≡ Ok pool
    → At (codes "pool") t (λ d. SpellsPool pool_max servers d pool)
unfolding pool_in pool_values
pool_to section pool_max servers t pool h =
    let l = listed_to (SpellsNumber (Below servers)) (IsNew nat_eq) (member_in section servers) (λ before d x h. new_server_to servers before d x (at_path_ok _ (new_server servers before d) x h))
    (key_path section (codes "pool")) (codes "pool") t EmptyPool pool_max PoolTooLarge pool h in
    (l.0, l.1, record { each = l.2.0; count = l.2.1; different = l.2.2 })

pub pool_from : (section : Section) (pool_max servers : ℕ) (t : Members) (pool : List ℕ) → At (codes "pool") t (λ d. SpellsPool pool_max servers d pool)
    → pool_in section pool_max servers t ≡ Ok pool
unfolding pool_in pool_values
pool_from section pool_max servers t pool h =
    listed_from (SpellsNumber (Below servers)) (IsNew nat_eq) (member_in section servers) (λ before d x r q. rw (new_server_from servers before d x r q))
    (key_path section (codes "pool")) (codes "pool") t EmptyPool pool_max PoolTooLarge pool (h.0, h.1, (h.2.each, h.2.count, h.2.different))

-- ---- the virtual addresses

vip_address_to : (before : List Address) (t : Members) (a : Address) → vip_address before t ≡ Ok a → At (codes "addr") t (λ d. SpellsAddress d a) × IsNew same_address before a
unfolding vip_address
vip_address_to before t a h =
    let b = bound (wanted (codes "addr") t) (new_address before) a h in
    let n = new_address_to before b.0 a b.2 in
    ((b.0, wanted_to (codes "addr") t b.0 b.1, n.0), n.1)

vip_table_to : (pool_max servers : ℕ) (before : List Address) (d : Data) (t : Members) (v : Address × List ℕ) → as_table d ≡ Some t → vip_table pool_max servers before t ≡ Ok v
    → SpellsVip pool_max servers d v × IsNew same_address before v.0
unfolding vip_table
vip_table_to pool_max servers before d t v is h =
    let section = Vip (length before) in
    let keys = codes "addr" ∷ codes "pool" ∷ [] in
    let path = key_path section (codes "addr") in
    chain (only_known section keys (keys_of t)) _ v h (λ _ known h. chain (at_path path (vip_address before t)) _ v h (λ a at h. chain (pool_in section pool_max servers t) _ v h (λ pool given made.
    let n = vip_address_to before t a (at_path_ok path (vip_address before t) a at) in
    subst (λ v. SpellsVip pool_max servers d v × IsNew same_address before v.0) (sym (ok_same (a, pool) v made)) (
      record {
        table = t;
        is_table = is;
        keys = known_to section keys (keys_of t) known;
        addr = n.0;
        pool = pool_to section pool_max servers t pool given;
      },
      n.1,
    ))))

vip_in_to : (pool_max servers : ℕ) (before : List Address) (d : Data) (v : Address × List ℕ) → vip_in pool_max servers before d ≡ Ok v
    → SpellsVip pool_max servers d v × IsNew same_address before v.0
unfolding vip_in
vip_in_to pool_max servers before d v h =
    chain (at_path (item_path Top (codes "vip") (length before)) (table d)) _ v h (λ t is. vip_table_to pool_max servers before d t v (ok_or_ok (as_table d) WrongType t (at_path_ok (item_path Top (codes "vip") (length before)) (table d) t is)))

vip_in_from : (pool_max servers : ℕ) (before : List Address) (d : Data) (v : Address × List ℕ) → SpellsVip pool_max servers d v → IsNew same_address before v.0
    → vip_in pool_max servers before d ≡ Ok v
unfolding vip_in vip_table vip_address
vip_in_from pool_max servers before d v s new =
    rw (
      s.is_table,
      known_from (Vip (length before)) (codes "addr" ∷ codes "pool" ∷ []) (keys_of s.table) s.keys,
      s.addr.1,
      new_address_from before s.addr.0 v.0 s.addr.2 new,
      pool_from (Vip (length before)) pool_max servers s.table v.1 s.pool,
    )

pub vips_to : (pool_max servers : ℕ) (t : Members) (v : List Address × List (List ℕ)) → vips_of pool_max servers t ≡ Ok v
    → (vips : List (Address × List ℕ)) × At (codes "vip") t (λ d. SpellsVips pool_max servers d vips) × (v.0 ≡ addresses_of vips) × (v.1 ≡ pools_of vips)
unfolding vips_of vips_in vip_values
vips_to pool_max servers t v h =
    let path = key_path Top (codes "vip") in
    chain (at_path path (vip_values t)) (vips_in pool_max servers) v h (λ ds values h. chain (each_after (vip_after pool_max servers) [] ds) _ v h (λ vips all made.
    let l = listed_to (SpellsVip pool_max servers) (λ before v. IsNew same_address (addresses_of before) v.0) (vip_after pool_max servers)
    (λ before d x h. vip_in_to pool_max servers (addresses_of before) d x h)
    path (codes "vip") t OutOfRange 16 TooManyVips vips (rw values all) in
    let same : v ≡ (addresses_of vips, pools_of vips) = ok_same (addresses_of vips, pools_of vips) v made in
    (vips, (l.0, l.1, record { each = l.2.0; count = l.2.1; different = l.2.2 }), ap (λ v. v.0) same, ap (λ v. v.1) same)))

vips_whole : (pool_max servers : ℕ) (t : Members) (vips : List (Address × List ℕ))
    → (at_path (key_path Top (codes "vip")) (wanted (codes "vip") t >>= elements >>= some OutOfRange >>= at_most 16 TooManyVips) >>= each_after (vip_after pool_max servers) []) ≡ Ok vips
    → vips_of pool_max servers t ≡ Ok (addresses_of vips, pools_of vips)
unfolding vips_of vip_values vips_in
vips_whole pool_max servers t vips h =
    let b = bound (at_path (key_path Top (codes "vip")) (wanted (codes "vip") t >>= elements >>= some OutOfRange >>= at_most 16 TooManyVips)) (each_after (vip_after pool_max servers) []) vips h in
    rw (b.1, b.2)

pub vips_from : (pool_max servers : ℕ) (t : Members) (vips : List (Address × List ℕ)) → At (codes "vip") t (λ d. SpellsVips pool_max servers d vips)
    → vips_of pool_max servers t ≡ Ok (addresses_of vips, pools_of vips)
vips_from pool_max servers t vips h =
    vips_whole pool_max servers t vips (listed_from (SpellsVip pool_max servers) (λ before v. IsNew same_address (addresses_of before) v.0) (vip_after pool_max servers)
    (λ before d x r q. vip_in_from pool_max servers (addresses_of before) d x r q)
    (key_path Top (codes "vip")) (codes "vip") t OutOfRange 16 TooManyVips vips (h.0, h.1, (h.2.each, h.2.count, h.2.different)))
