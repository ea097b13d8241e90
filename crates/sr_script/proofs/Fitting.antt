-- A script that the schema takes fits a layout.
use Rattle.std.proofs.Common.{◌≡◌, ℕ, ◌≤◌, true, List, length, codes, Option, Some, None, MatchOption, Result, Ok, Err, IfOk, [], refl, sym, ap, subst, ◌∙◌, arith}
use Rattle.std.proofs.lemmas.Bool.{le-leb, and_from}
use Rattle.std.proofs.lemmas.List.{length-map}
use Rattle.toml.specs.Data.{Data, Members, get_member}
use Rattle.std.specs.List.{AllByRecursion}
use Rattle.sr_base.specs.Fitting.{IsPoolOf, FitsLayout}
use Rattle.sr_base.specs.Layout.{LayoutView}
use Rattle.sr_base.specs.declared.change.Change.{Change}
use Rattle.sr_base.specs.Limit.{between, limit_of}
use Rattle.sr_base.specs.declared.shape.Shape.{Shape}
use Rattle.sr_script.specs.declared.refusal.ParseRefusal.{ParseRefusal}
use Rattle.sr_script.specs.declared.rule.Rule.{Rule}
use Rattle.sr_script.specs.declared.rule.Rule.TheVariants.{Between, PowerUpTo, FoursUpTo}
use Rattle.sr_script.specs.declared.script.Script.{Script as script}
use Rattle.sr_script.specs.Fitting.{layout_of, IsFitting}
use Rattle.sr_script.specs.Judge.{fits}
use Rattle.sr_script.specs.Script.{spelled, Parses}
use Rattle.sr_script.specs.Schema.{Spells, SpellsNumber, SpellsOr, SpellsShape, SpellsChanges, IsTable}
use Rattle.sr_script.specs.Spelled.{Spelled, default_shape}
use Rattle.sr_script.proofs.FittingLists.{pools_fit, names_fit, in_time, down_once}
use Rattle.sr_script.proofs.Law.{walk_spells}

met_or : (rule : Rule) (default : ℕ) (o : Option Data) (n : ℕ) → fits rule default ≡ true → MatchOption o (n ≡ default) (λ d. SpellsNumber rule d n) → fits rule n ≡ true
met_or rule default None n good h = ap (fits rule) h ∙ good
met_or rule default (Some d) n good h = h.1

met : (key : List ℕ) (default : ℕ) (rule : Rule) (t : Members) (n : ℕ) → fits rule default ≡ true → SpellsOr key default rule t n → fits rule n ≡ true
met key default rule t n good h = met_or rule default (get_member key t) n good h

shape_fits : (t : Members) (s : Shape) (vips servers : ℕ) → between 1 16 vips ≡ true → between 1 65536 servers ≡ true → SpellsShape t s → limit_of s vips servers ≡ None
unfolding lib.Count.ones
shape_fits t s vips servers some_vips some_servers h =
    rw (
      met (codes "pipes") 8 (Between 1 16) t s.pipes refl h.pipes,
      met (codes "buckets") 8192 (PowerUpTo 65536) t s.buckets refl h.buckets,
      met (codes "digest_bits") 16 (Between 0 16) t s.digest_bits refl h.digest_bits,
      met (codes "versions") 64 (Between 2 64) t s.versions refl h.versions,
      met (codes "pool_max") 16 (Between 1 255) t s.pool_max refl h.pool_max,
      met (codes "full_rows") 1024 (FoursUpTo 65536) t s.full_rows refl h.full_rows,
      met (codes "filter_bits") 65536 (PowerUpTo 1048576) t s.filter_bits refl h.filter_bits,
      met (codes "ring") 65536 (Between 1 65536) t s.ring refl h.ring,
      met (codes "window_ms") 100 (Between 1 60000) t s.window_ms refl h.window_ms,
      met (codes "idle_ms") 10000 (Between 1 86400000) t s.idle_ms refl h.idle_ms,
      met (codes "lives") 3 (Between 1 255) t s.lives refl h.lives,
      some_vips,
      some_servers,
    ) refl

default_fits : (vips servers : ℕ) → between 1 16 vips ≡ true → between 1 65536 servers ≡ true → limit_of default_shape vips servers ≡ None
unfolding lib.Count.ones
default_fits vips servers some_vips some_servers = rw (some_vips, some_servers) refl

shape_or_fits : (o : Option Data) (s : Shape) (vips servers : ℕ) → between 1 16 vips ≡ true → between 1 65536 servers ≡ true
    → MatchOption o (s ≡ default_shape) (λ d. (u : Members) × IsTable d u × SpellsShape u s) → limit_of s vips servers ≡ None
shape_or_fits None s vips servers some_vips some_servers h = ap (λ x. limit_of x vips servers) h ∙ default_fits vips servers some_vips some_servers
shape_or_fits (Some d) s vips servers some_vips some_servers h = shape_fits h.0 s vips servers some_vips some_servers h.2

counted : (low high n : ℕ) → low ≤ n → n ≤ high → between low high n ≡ true
counted low high n first last = and_from _ _ (le-leb low n first) (le-leb n high last)

-- the changes of a script, where it has any
changes_fit : (l : LayoutView) (first : List (List ℕ)) (o : Option Data) (changes : List Change) → length first ≡ l.vips → AllByRecursion (IsPoolOf l) first
    → MatchOption o (changes ≡ []) (λ d. SpellsChanges l.shape.pool_max l.servers l.vips d changes) → FitsLayout l first changes
changes_fit l first None changes vips pools h =
    subst (FitsLayout l first) (sym h) (record { vips = vips; pools = pools; few = omega arith; in_time = tt; names = tt; once = λ server. omega arith })
changes_fit l first (Some d) changes vips pools h = record {
  vips = vips;
  pools = pools;
  few = omega (arith, h.count.1);
  in_time = in_time [] changes h.ordered;
  names = names_fit l h.each.0 changes h.each.2;
  once = λ server. (down_once server [] changes h.ordered).0;
}

spells_fits : (t : Members) (s : Spelled) → Spells t s → IsFitting s
spells_fits t s h =
    let vips = h.vips.0 in
    let count = h.vips.1.2.count in
    let first : length s.first ≡ length vips = ap length h.vips.3 ∙ length-map vips (λ v. v.1) in
    let addresses : length s.vips ≡ length vips = ap length h.vips.2 ∙ length-map vips (λ v. v.0) in
    let servers = h.servers.2.count in
    record {
      layout = shape_or_fits (get_member (codes "shape") t) s.shape (length s.first) (length s.servers)
          (counted 1 16 (length s.first) (omega arith) (omega arith)) (counted 1 65536 (length s.servers) servers.0 servers.1) h.shape;
      pools = first ∙ sym addresses;
      fits = changes_fit (layout_of s) s.first (get_member (codes "change") t) s.changes refl
          (subst (AllByRecursion (IsPoolOf (layout_of s))) (sym h.vips.3) (pools_fit (layout_of s) h.vips.1.2.each.0 vips h.vips.1.2.each.2))
          (subst (λ (n : ℕ). MatchOption (get_member (codes "change") t) (s.changes ≡ []) (λ d. SpellsChanges s.shape.pool_max (length s.servers) n d s.changes))
          (addresses ∙ sym first) h.changes);
    }

pub parses_fitting : (bytes : List ℕ) (answer : Result script ParseRefusal) → Parses bytes answer → IfOk answer (λ s. IsFitting (spelled s))
parses_fitting bytes (Ok s) h = spells_fits h.0 (spelled s) (walk_spells h.0 (spelled s) h.2)
parses_fitting bytes (Err e) h = tt
