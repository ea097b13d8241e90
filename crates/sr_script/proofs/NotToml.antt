-- No fault of the walk says that the text isn't TOML: only a text without a tree has that one.
use Rattle.std.proofs.Common.{◌≡◌, ◌≢◌, ℕ, Bool, true, false, cond, List, [], ◌∷◌, ◌++◌, codes, length, Option, Some, None, Ok, Err, ap, ◌∙◌, subst, ok_or, nat_eq, nat_le, ℤ, pos, negsuc}
use Rattle.std.specs.List.{list_any}
use Rattle.std.specs.Str.{bytes_eq}
use Rattle.toml.specs.Data.{Data, Members, get_member}
use Rattle.sr_base.specs.declared.change.Change.{Change}
use Rattle.sr_script.specs.declared.why.Why.{Why}
use Rattle.sr_script.specs.declared.why.Why.TheVariants.{NotToml, Missing, WrongType, UnknownKey, OutOfRange, Repeated, NoSuchServer, NoSuchVip, EmptyPool, PoolTooLarge, TooManyChanges, TooManyVips}
use Rattle.sr_script.specs.declared.section.Section.{Section}
use Rattle.sr_script.specs.declared.section.Section.TheVariants.{Top, Shape, Vip, Change as Change_section}
use Rattle.sr_script.specs.declared.rule.Rule.{Rule}
use Rattle.sr_script.specs.declared.rule.Rule.TheVariants.{Between, PowerUpTo, FoursUpTo, Below}
use Rattle.sr_script.specs.Fault.{Fault, Judgement, Reading, ◌>>=◌, at_path, each_after}
use Rattle.sr_script.specs.Judge.{keys_of, has, wanted, text, whole, elements, table, fits, by_rule, number, some, at_most, fresh}
use Rattle.sr_script.specs.Path.{key_path, item_path}
use Rattle.sr_script.specs.Spelled.{Address, Spelled, shape_keys, top_keys, last_ms, addresses_of, same_address, takes_down}
use Rattle.sr_script.specs.Walk.{change_keys, gives, only_known, number_or, shape_number, shape_in, shape_or, shape_of, address, new_address, server_in, server_values, servers_of, new_server, member_in, pool_values, pool_in, vip_address, vip_table, vip_in, vip_after, vip_values, vips_in, vips_of, still_up, down_in, given_vip, take_down_in, give_in, what_in, due_in, change_table, change_in, elements_or_none, change_values, changes_of, script_in}

-- a reason that a tree can have
abbrev pub OfTree : Why → Type 0
OfTree NotToml = ⊥
OfTree _ = Unit {0}

-- the judgement, the reading have no other
abbrev Judges : {A : Type 0} → Judgement A → Type 0
Judges (Ok x) = Unit {0}
Judges (Err why) = OfTree why

abbrev Reads : {A : Type 0} → Reading A → Type 0
Reads (Ok x) = Unit {0}
Reads (Err fault) = OfTree fault.why

judges_then : {A B : Type 0} (r : Judgement A) (f : A → Judgement B) → Judges r → ((x : A) → Judges (f x)) → Judges (r >>= f)
judges_then (Ok x) f h more = more x
judges_then (Err why) f h more = h

reads_then : {A B : Type 0} (r : Reading A) (f : A → Reading B) → Reads r → ((x : A) → Reads (f x)) → Reads (r >>= f)
reads_then (Ok x) f h more = more x
reads_then (Err fault) f h more = h

placed_reads : {A : Type 0} (path : List ℕ) (j : Judgement A) → Judges j → Reads (at_path path j)
placed_reads path (Ok x) h = tt
placed_reads path (Err why) h = h

each_reads : {A : Type 0} (step : List A → Data → Reading A) → ((before : List A) (d : Data) → Reads (step before d)) → (before : List A) (ds : List Data) → Reads (each_after step before ds)
unfolding each_after
each_reads step h before [] = tt
each_reads step h before (d ∷ ds) = reads_then (step before d) (λ x. each_after step (before ++ x ∷ []) ds) (h before d) (λ x. each_reads step h (before ++ x ∷ []) ds)

or_judges : {A : Type 0} (o : Option A) (why : Why) → OfTree why → Judges (ok_or o why)
or_judges None why h = h
or_judges (Some x) why h = tt

cond_judges : {A : Type 0} (b : Bool) (x : A) (why : Why) → OfTree why → Judges (cond b (Ok x) (Err why))
cond_judges true x why h = tt
cond_judges false x why h = h

cond_not : {A : Type 0} (b : Bool) (x : A) (why : Why) → OfTree why → Judges (cond b (Err why) (Ok x))
cond_not true x why h = h
cond_not false x why h = tt

number_judges : (rule : Rule) (why : Why) (d : Data) → OfTree why → Judges (number rule why d)
number_judges rule why d h = judges_then (whole d) (by_rule rule why) (or_judges _ WrongType tt) (λ z. ruled z)
  where
    ruled : (z : ℤ) → Judges (by_rule rule why z)
    ruled (pos n) = cond_judges (fits rule n) n why h
    ruled (negsuc n) = h

some_judges : {A : Type 0} (why : Why) (xs : List A) → OfTree why → Judges (some why xs)
some_judges why [] h = h
some_judges why (x ∷ xs) h = tt

counted_judges : (key : List ℕ) (t : Members) (few : Why) (most : ℕ) (many : Why) → OfTree few → OfTree many → Judges (wanted key t >>= elements >>= some few >>= at_most most many)
counted_judges key t few most many f m =
    judges_then (wanted key t >>= elements >>= some few) (at_most most many)
    (judges_then (wanted key t >>= elements) (some few) (judges_then (wanted key t) elements (or_judges _ Missing tt) (λ d. or_judges _ WrongType tt)) (λ ds. some_judges few ds f))
    (λ ds. cond_judges _ ds many m)

known_reads : (section : Section) (known keys : List (List ℕ)) → Reads (only_known section known keys)
unfolding only_known
known_reads section known [] = tt
known_reads section known (key ∷ keys) = tested (list_any (bytes_eq key) known) (known_reads section known keys)
  where
    tested : (b : Bool) → Reads (only_known section known keys) → Reads (cond b (only_known section known keys) (at_path (key_path section key) (Err UnknownKey)))
    tested true h = h
    tested false h = tt

-- ---- the shape

number_or_judges : (default : ℕ) (rule : Rule) (o : Option Data) → Judges (number_or default rule o)
number_or_judges default rule None = tt
number_or_judges default rule (Some d) = number_judges rule OutOfRange d tt

shape_number_reads : (key : List ℕ) (default : ℕ) (rule : Rule) (t : Members) → Reads (shape_number key default rule t)
unfolding shape_number
shape_number_reads key default rule t = placed_reads (key_path Shape key) (number_or default rule (get_member key t)) (number_or_judges default rule (get_member key t))

shape_in_reads : (t : Members) → Reads (shape_in t)
unfolding shape_in
shape_in_reads t =
    reads_then (only_known Shape shape_keys (keys_of t)) _ (known_reads Shape shape_keys (keys_of t)) (λ _.
    reads_then (shape_number (codes "pipes") 8 (Between 1 16) t) _ (shape_number_reads (codes "pipes") 8 (Between 1 16) t) (λ pipes.
    reads_then (shape_number (codes "buckets") 8192 (PowerUpTo 65536) t) _ (shape_number_reads (codes "buckets") 8192 (PowerUpTo 65536) t) (λ buckets.
    reads_then (shape_number (codes "digest_bits") 16 (Between 0 16) t) _ (shape_number_reads (codes "digest_bits") 16 (Between 0 16) t) (λ digest_bits.
    reads_then (shape_number (codes "versions") 64 (Between 2 64) t) _ (shape_number_reads (codes "versions") 64 (Between 2 64) t) (λ versions.
    reads_then (shape_number (codes "pool_max") 16 (Between 1 255) t) _ (shape_number_reads (codes "pool_max") 16 (Between 1 255) t) (λ pool_max.
    reads_then (shape_number (codes "full_rows") 1024 (FoursUpTo 65536) t) _ (shape_number_reads (codes "full_rows") 1024 (FoursUpTo 65536) t) (λ full_rows.
    reads_then (shape_number (codes "filter_bits") 65536 (PowerUpTo 1048576) t) _ (shape_number_reads (codes "filter_bits") 65536 (PowerUpTo 1048576) t) (λ filter_bits.
    reads_then (shape_number (codes "ring") 65536 (Between 1 65536) t) _ (shape_number_reads (codes "ring") 65536 (Between 1 65536) t) (λ ring.
    reads_then (shape_number (codes "window_ms") 100 (Between 1 60000) t) _ (shape_number_reads (codes "window_ms") 100 (Between 1 60000) t) (λ window_ms.
    reads_then (shape_number (codes "idle_ms") 10000 (Between 1 86400000) t) _ (shape_number_reads (codes "idle_ms") 10000 (Between 1 86400000) t) (λ idle_ms.
    reads_then (shape_number (codes "lives") 3 (Between 1 255) t) _ (shape_number_reads (codes "lives") 3 (Between 1 255) t) (λ lives.
    tt))))))))))))

shape_or_reads : (o : Option Data) → Reads (shape_or o)
shape_or_reads None = tt
shape_or_reads (Some d) = reads_then (at_path (key_path Top (codes "shape")) (table d)) shape_in (placed_reads _ (table d) (or_judges _ WrongType tt)) shape_in_reads

shape_reads : (t : Members) → Reads (shape_of t)
unfolding shape_of
shape_reads t = shape_or_reads (get_member (codes "shape") t)

-- ---- servers, pools, virtual addresses

address_judges : (before : List Address) (d : Data) → Judges (new_address before d)
unfolding new_address
address_judges before d =
    judges_then (text d >>= address) (fresh same_address before) (judges_then (text d) address (or_judges _ WrongType tt) (λ bytes. or_judges _ OutOfRange tt))
    (λ a. cond_not (list_any (λ b. same_address b a) before) a Repeated tt)

servers_reads : (t : Members) → Reads (servers_of t)
unfolding servers_of server_values
servers_reads t =
    reads_then _ (each_after server_in []) (placed_reads (key_path Top (codes "servers")) _ (counted_judges (codes "servers") t OutOfRange 65536 OutOfRange tt tt))
    (each_reads server_in (λ before d. placed_reads _ (new_address before d) (address_judges before d)) [])

server_judges : (servers : ℕ) (before : List ℕ) (d : Data) → Judges (new_server servers before d)
unfolding new_server
server_judges servers before d =
    judges_then (number (Below servers) NoSuchServer d) (fresh nat_eq before) (number_judges (Below servers) NoSuchServer d tt)
    (λ n. cond_not (list_any (λ m. nat_eq m n) before) n Repeated tt)

pool_reads : (section : Section) (pool_max servers : ℕ) (t : Members) → Reads (pool_in section pool_max servers t)
unfolding pool_in pool_values
pool_reads section pool_max servers t =
    reads_then _ (each_after (member_in section servers) []) (placed_reads (key_path section (codes "pool")) _ (counted_judges (codes "pool") t EmptyPool pool_max PoolTooLarge tt tt))
    (each_reads (member_in section servers) (λ before d. placed_reads _ (new_server servers before d) (server_judges servers before d)) [])

vip_table_reads : (pool_max servers : ℕ) (before : List Address) (t : Members) → Reads (vip_table pool_max servers before t)
unfolding vip_table vip_address
vip_table_reads pool_max servers before t =
    let section = Vip (length before) in
    let keys = codes "addr" ∷ codes "pool" ∷ [] in
    reads_then (only_known section keys (keys_of t)) _ (known_reads section keys (keys_of t)) (λ _.
    reads_then (at_path (key_path section (codes "addr")) (vip_address before t)) _
    (placed_reads (key_path section (codes "addr")) (vip_address before t) (judges_then (wanted (codes "addr") t) (new_address before) (or_judges _ Missing tt) (address_judges before))) (λ vip.
    reads_then (pool_in section pool_max servers t) _ (pool_reads section pool_max servers t) (λ pool. tt)))

vip_reads : (pool_max servers : ℕ) (before : List Address) (d : Data) → Reads (vip_in pool_max servers before d)
unfolding vip_in
vip_reads pool_max servers before d =
    reads_then (at_path (item_path Top (codes "vip") (length before)) (table d)) (vip_table pool_max servers before) (placed_reads _ (table d) (or_judges _ WrongType tt)) (vip_table_reads pool_max servers before)

vips_reads : (pool_max servers : ℕ) (t : Members) → Reads (vips_of pool_max servers t)
unfolding vips_of vips_in vip_values
vips_reads pool_max servers t =
    reads_then _ (vips_in pool_max servers) (placed_reads (key_path Top (codes "vip")) _ (counted_judges (codes "vip") t OutOfRange 16 TooManyVips tt tt))
    (λ ds. reads_then (each_after (vip_after pool_max servers) [] ds) _ (each_reads (vip_after pool_max servers) (λ before d. vip_reads pool_max servers (addresses_of before) d) [] ds) (λ vips. tt))

-- ---- changes

down_reads : (section : Section) (servers : ℕ) (before : List Change) (t : Members) → Reads (take_down_in section servers before t)
unfolding take_down_in down_in
down_reads section servers before t =
    reads_then (at_path (key_path section (codes "down")) (down_in servers before t)) _
    (placed_reads (key_path section (codes "down")) (down_in servers before t)
    (judges_then (wanted (codes "down") t >>= number (Below servers) NoSuchServer) (still_up before)
    (judges_then (wanted (codes "down") t) (number (Below servers) NoSuchServer) (or_judges _ Missing tt) (λ d. number_judges (Below servers) NoSuchServer d tt))
    (λ server. cond_not (list_any (λ c. takes_down server c.what) before) server Repeated tt)))
    (λ server. tt)

give_reads : (section : Section) (pool_max servers vips : ℕ) (t : Members) → Reads (give_in section pool_max servers vips t)
unfolding give_in given_vip
give_reads section pool_max servers vips t =
    reads_then (at_path (key_path section (codes "vip")) (given_vip vips t)) _
    (placed_reads (key_path section (codes "vip")) (given_vip vips t)
    (judges_then (wanted (codes "vip") t) (number (Below vips) NoSuchVip) (or_judges _ Missing tt) (λ d. number_judges (Below vips) NoSuchVip d tt)))
    (λ vip. reads_then (pool_in section pool_max servers t) _ (pool_reads section pool_max servers t) (λ pool. tt))

either_reads : {A : Type 0} (b : Bool) (r q : Reading A) → Reads r → Reads q → Reads (cond b r q)
either_reads true r q h k = h
either_reads false r q h k = k

what_reads : (section : Section) (pool_max servers vips : ℕ) (before : List Change) (t : Members) → Reads (what_in section pool_max servers vips before t)
unfolding what_in
what_reads section pool_max servers vips before t =
    either_reads (has (codes "down") t) (take_down_in section servers before t) (give_in section pool_max servers vips t) (down_reads section servers before t) (give_reads section pool_max servers vips t)

change_table_reads : (pool_max servers vips : ℕ) (before : List Change) (t : Members) → Reads (change_table pool_max servers vips before t)
unfolding change_table due_in
change_table_reads pool_max servers vips before t =
    let section = Change_section (length before) in
    reads_then (only_known section (change_keys (gives t)) (keys_of t)) _ (known_reads section (change_keys (gives t)) (keys_of t)) (λ _.
    reads_then (at_path (key_path section (codes "at_ms")) (due_in (last_ms before) t)) _
    (placed_reads (key_path section (codes "at_ms")) (due_in (last_ms before) t)
    (judges_then (wanted (codes "at_ms") t) (number (Between (last_ms before) 9007199254740991) OutOfRange) (or_judges _ Missing tt)
    (λ d. number_judges (Between (last_ms before) 9007199254740991) OutOfRange d tt))) (λ at_ms.
    reads_then (what_in section pool_max servers vips before t) _ (what_reads section pool_max servers vips before t) (λ what. tt)))

change_reads : (pool_max servers vips : ℕ) (before : List Change) (d : Data) → Reads (change_in pool_max servers vips before d)
unfolding change_in
change_reads pool_max servers vips before d =
    reads_then (at_path (item_path Top (codes "change") (length before)) (table d)) (change_table pool_max servers vips before) (placed_reads _ (table d) (or_judges _ WrongType tt))
    (change_table_reads pool_max servers vips before)

elements_judges : (o : Option Data) → Judges (elements_or_none o)
elements_judges None = tt
elements_judges (Some d) = or_judges _ WrongType tt

changes_reads : (pool_max servers vips : ℕ) (t : Members) → Reads (changes_of pool_max servers vips t)
unfolding changes_of change_values
changes_reads pool_max servers vips t =
    reads_then _ (each_after (change_in pool_max servers vips) [])
    (placed_reads (key_path Top (codes "change")) _ (judges_then (elements_or_none (get_member (codes "change") t)) (at_most 4096 TooManyChanges) (elements_judges (get_member (codes "change") t))
    (λ ds. cond_judges (nat_le (length ds) 4096) ds TooManyChanges tt)))
    (each_reads (change_in pool_max servers vips) (change_reads pool_max servers vips) [])

-- ---- the script

script_reads : (t : Members) → Reads (script_in t)
unfolding script_in
script_reads t =
    reads_then (only_known Top top_keys (keys_of t)) _ (known_reads Top top_keys (keys_of t)) (λ _.
    reads_then (shape_of t) _ (shape_reads t) (λ shape. reads_then (servers_of t) _ (servers_reads t) (λ servers.
    reads_then (vips_of shape.pool_max (length servers) t) _ (vips_reads shape.pool_max (length servers) t) (λ vips.
    reads_then (changes_of shape.pool_max (length servers) (length vips.0) t) _ (changes_reads shape.pool_max (length servers) (length vips.0) t) (λ changes. tt)))))

of_tree : (r : Reading Spelled) (f : Fault) → Reads r → r ≡ Err f → f.why ≢ NotToml
of_tree (Ok x) f h e toml = cc
of_tree (Err g) f h e toml = let why : g.why ≡ NotToml = ap (λ x. x.why) (same g f e) ∙ toml in subst OfTree why h
  where
    same : (g f : Fault) → ◌≡◌ {A = Reading Spelled} (Err g) (Err f) → g ≡ f
    same g f e = cc

-- a fault of the walk has another reason
pub walk_not_toml : (t : Members) (f : Fault) → script_in t ≡ Err f → f.why ≢ NotToml
walk_not_toml t f e = of_tree (script_in t) f (script_reads t) e
