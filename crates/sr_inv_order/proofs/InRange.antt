-- Each line that is printed names what the setup has: virtual addresses, pipes, servers, and places of its key.
use Rattle.std.proofs.Common.{◌≡◌, ℕ, ◌<◌, nat_lt, ◌&&◌, Bool, true, false, List, [], ◌∷◌, ◌++◌, length, Some, None, Option, option_map, unwrap_or, refl, ap, ◌∙◌, subst, arith}
use Rattle.std.proofs.lemmas.Bool.Decides.{nat_tests}
use Rattle.std.specs.List.{AllByRecursion}
use Rattle.sr_base.specs.Fitting.{IsPoolOf, NamesOf}
use Rattle.sr_base.specs.Key.{KeyView}
use Rattle.sr_base.specs.Layout.{LayoutView}
use Rattle.sr_base.specs.declared.change.Change.{Change}
use Rattle.sr_base.specs.declared.change.What.{What}
use Rattle.sr_base.specs.declared.change.What.TheVariants.{Give, TakeDown}
use Rattle.sr_hash.specs.Uses.{selected}
use Rattle.sr_inv_facts.proofs.Lists.{all_back, all_front, got_or}
use Rattle.sr_inv_facts.specs.InCauses.{setup_of}
use Rattle.sr_inv_facts.specs.InShape.{VerdictFits, downing, servers_of}
use Rattle.sr_inv_facts.specs.Invariant.{Invariant}
use Rattle.sr_inv_order.proofs.Grouped.{pools_count}
use Rattle.sr_inv_order.proofs.Rising.{and_true}
use Rattle.sr_inv_facts.proofs.FittedPools.{pool_fits}
use Rattle.sr_law.specs.Pools.{picked, pool_of}
use Rattle.sr_law.specs.Ranges.{if_below, in_range, names_own_place, pipe_of, server_named, vip_of}
use Rattle.sr_law.specs.declared.line.Line.{Line}
use Rattle.sr_law.specs.declared.verdict.Verdict.{Verdict}
use Rattle.sr_machine.specs.Core.{Core}
use Rattle.sr_machine.specs.Deciding.{is_down, named_at, server_for, verdict_of}
use Rattle.sr_machine.specs.Opening.{outages_in}
use Rattle.sr_machine.specs.Stages.{verdict_by}
use Rattle.sr_law.specs.Ticks.{chosen}
use Rattle.sr_machine.specs.declared.draw.Draw.TheVariants as draw
use Rattle.sr_machine.specs.declared.job.Job.TheVariants as job
use Rattle.sr_law.specs.declared.verdict.Verdict.TheVariants as verdict

-- ---- a line in range

-- what a line owes: its numbers are below their limits
pub record RangeOwed (s : Core) (l : Line) : Type 0 where
  pub vip : if_below s.config.layout.vips (vip_of l) ≡ true
  pub pipe : if_below s.config.layout.shape.pipes (pipe_of l) ≡ true
  pub server : if_below s.config.layout.servers (server_named l) ≡ true
  pub place : names_own_place s.config.layout.shape l ≡ true

pub ranged : (s : Core) → Invariant s → (l : Line) → RangeOwed s l → in_range (setup_of s.config) l ≡ true
unfolding in_range
ranged s i l r =
    let k = s.config in
    let vip : if_below (length k.pools) (vip_of l) ≡ true = ap (λ n. if_below n (vip_of l)) (pools_count k i.shape.config) ∙ r.vip in
    and_true ((if_below (length k.pools) (vip_of l) && if_below k.layout.shape.pipes (pipe_of l)) && if_below k.layout.servers (server_named l))
    (names_own_place k.layout.shape l)
    (and_true (if_below (length k.pools) (vip_of l) && if_below k.layout.shape.pipes (pipe_of l)) (if_below k.layout.servers (server_named l))
    (and_true (if_below (length k.pools) (vip_of l)) (if_below k.layout.shape.pipes (pipe_of l)) vip r.pipe) r.server)
    r.place

pub is_below : (n m : ℕ) → n < m → nat_lt n m ≡ true
is_below n m h = grind (arith, nat_tests)

-- ---- servers

-- the server that a key's hash picks from a pool of the layout is one of the layout
pub picked_below : (l : LayoutView) → 0 < l.servers → (pool : List ℕ) (key : KeyView) → IsPoolOf l pool → picked pool key < l.servers
picked_below l some pool key f = got_or (λ n. n < l.servers) pool (selected (length pool) key) 0 f.servers some

pub server_below : (s : Core) → Invariant s → (key : KeyView) (version : ℕ) → server_for s.config s.controller.named key version < s.config.layout.servers
server_below s i key version = at (pool_of s.config.pools key.vip (named_at s.controller.named key.vip version)) refl
  where
    some : 0 < s.config.layout.servers
    some = omega (arith, i.shape.config.layout.servers.0)

    at : (o : Option (List ℕ)) → pool_of s.config.pools key.vip (named_at s.controller.named key.vip version) ≡ o
        → unwrap_or (option_map (λ pool. picked pool key) o) 0 < s.config.layout.servers
    at None e = some
    at (Some pool) e =
        picked_below s.config.layout some pool key
        (pool_fits s.config i.shape.config key.vip (named_at s.controller.named key.vip version) pool e).is

-- so is that of an answer
pub answer_below : (s : Core) → Invariant s → (key : KeyView) (version : Option ℕ)
    → if_below s.config.layout.servers (option_map (λ c. c.server) (chosen key (verdict_of s.config s.controller.named s.controller.down key version))) ≡ true
answer_below s i key None = refl
answer_below s i key (Some version) = at (is_down s.controller.down server)
  where
    server : ℕ
    server = server_for s.config s.controller.named key version

    below : nat_lt server s.config.layout.servers ≡ true
    below = is_below server s.config.layout.servers (server_below s i key version)

    at : (b : Bool)
        → if_below s.config.layout.servers (option_map (λ c. c.server) (chosen key (verdict_by b server version (named_at s.controller.named key.vip version)))) ≡ true
    at true = below
    at false = below

-- and that of a packet
pub verdict_below : (l : LayoutView) (key : KeyView) (v : Verdict) → VerdictFits l v
    → if_below l.servers (option_map (λ c. c.server) (chosen key v)) ≡ true
verdict_below l key (verdict.To server version pool) f = is_below server l.servers f.0
verdict_below l key (verdict.Down server version pool) f = is_below server l.servers f.0
verdict_below l key v f = refl

-- ---- the servers that are taken down

outages_named : (l : LayoutView) (changes : List Change) → AllByRecursion (λ change. NamesOf l change.what) changes
    → AllByRecursion (λ n. n < l.servers) (servers_of (outages_in changes))
outages_named l [] a = tt
outages_named l (change ∷ rest) a = at change.what a.0 (outages_named l rest a.1)
  where
    at : (what : What) → NamesOf l what → AllByRecursion (λ n. n < l.servers) (servers_of (outages_in rest))
        → AllByRecursion (λ n. n < l.servers) (servers_of (elim what [ Give vip pool ↦ outages_in rest | TakeDown server ↦ record { at_ms = change.at_ms; server = server } ∷ outages_in rest ]))
    at (Give vip pool) n more = more
    at (TakeDown server) n more = (n, more)

-- a server that is about to be taken down is one of the layout
pub downing_below : (s : Core) → Invariant s → (server : ℕ) → s.controller.job ≡ job.Draw (draw.TakenDown server)
    → server < s.config.layout.servers
downing_below s i server e =
    let c = s.controller in
    let P = λ (n : ℕ). n < s.config.layout.servers in
    let all : AllByRecursion P (servers_of (outages_in s.config.changes)) =
    outages_named s.config.layout s.config.changes i.shape.config.fits.names in
    let there : AllByRecursion P ((c.down ++ downing c.job) ++ servers_of c.outages) = subst (AllByRecursion P) i.shape.controller.outages all in
    let front : AllByRecursion P (c.down ++ downing c.job) = all_front P (c.down ++ downing c.job) (servers_of c.outages) there in
    let own : AllByRecursion P (downing c.job) = all_back P c.down (downing c.job) front in
    (subst (λ j. AllByRecursion P (downing j)) e own).0
