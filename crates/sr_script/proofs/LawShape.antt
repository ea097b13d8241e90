-- The walk gives a value exactly where the schema has it: the shape.
use Rattle.std.proofs.Common.{◌≡◌, ℕ, List, codes, Option, Some, None, MatchOption, Ok, sym, subst}
use Rattle.toml.specs.Data.{Data, Members, get_member, as_table}
use Rattle.sr_base.specs.declared.shape.Shape.{Shape}
use Rattle.sr_script.specs.declared.why.Why.TheVariants.{WrongType, OutOfRange}
use Rattle.sr_script.specs.declared.section.Section.TheVariants.{Top, Shape as Shape_section}
use Rattle.sr_script.specs.declared.rule.Rule.{Rule}
use Rattle.sr_script.specs.declared.rule.Rule.TheVariants.{Between, PowerUpTo, FoursUpTo}
use Rattle.sr_script.specs.Fault.{at_path}
use Rattle.sr_script.specs.Judge.{keys_of, table}
use Rattle.sr_script.specs.Path.{key_path}
use Rattle.sr_script.specs.Spelled.{default_shape, shape_keys}
use Rattle.sr_script.specs.Walk.{only_known, number_or, shape_number, shape_in, shape_or, shape_of}
use Rattle.sr_script.specs.Schema.{IsTable, SpellsNumber, SpellsOr, SpellsShape}
use Rattle.sr_script.proofs.LawWords.{chain, ok_same, at_path_ok, ok_or_ok, number_to, number_from, known_to, known_from}

number_or_to : (default : ℕ) (rule : Rule) (o : Option Data) (n : ℕ) → number_or default rule o ≡ Ok n → MatchOption o (n ≡ default) (λ d. SpellsNumber rule d n)
number_or_to default rule None n h = cc
number_or_to default rule (Some d) n h = number_to rule OutOfRange d n h

number_or_from : (default : ℕ) (rule : Rule) (o : Option Data) (n : ℕ) → MatchOption o (n ≡ default) (λ d. SpellsNumber rule d n) → number_or default rule o ≡ Ok n
number_or_from default rule None n h = rw h
number_or_from default rule (Some d) n h = number_from rule OutOfRange d n h

shape_number_to : (key : List ℕ) (default : ℕ) (rule : Rule) (t : Members) (n : ℕ) → shape_number key default rule t ≡ Ok n → SpellsOr key default rule t n
unfolding shape_number
shape_number_to key default rule t n h =
    number_or_to default rule (get_member key t) n (at_path_ok (key_path Shape_section key) (number_or default rule (get_member key t)) n h)

shape_number_from : (key : List ℕ) (default : ℕ) (rule : Rule) (t : Members) (n : ℕ) → SpellsOr key default rule t n → shape_number key default rule t ≡ Ok n
unfolding shape_number
shape_number_from key default rule t n h = rw (number_or_from default rule (get_member key t) n h)

shape_in_to : (t : Members) (s : Shape) → shape_in t ≡ Ok s → SpellsShape t s
unfolding shape_in
shape_in_to t s h =
    chain (only_known Shape_section shape_keys (keys_of t)) _ s h (λ _ known h.
    chain (shape_number (codes "pipes") 8 (Between 1 16) t) _ s h (λ pipes e_pipes h.
    chain (shape_number (codes "buckets") 8192 (PowerUpTo 65536) t) _ s h (λ buckets e_buckets h.
    chain (shape_number (codes "digest_bits") 16 (Between 0 16) t) _ s h (λ digest_bits e_digest_bits h.
    chain (shape_number (codes "versions") 64 (Between 2 64) t) _ s h (λ versions e_versions h.
    chain (shape_number (codes "pool_max") 16 (Between 1 255) t) _ s h (λ pool_max e_pool_max h.
    chain (shape_number (codes "full_rows") 1024 (FoursUpTo 65536) t) _ s h (λ full_rows e_full_rows h.
    chain (shape_number (codes "filter_bits") 65536 (PowerUpTo 1048576) t) _ s h (λ filter_bits e_filter_bits h.
    chain (shape_number (codes "ring") 65536 (Between 1 65536) t) _ s h (λ ring e_ring h.
    chain (shape_number (codes "window_ms") 100 (Between 1 60000) t) _ s h (λ window_ms e_window_ms h.
    chain (shape_number (codes "idle_ms") 10000 (Between 1 86400000) t) _ s h (λ idle_ms e_idle_ms h.
    chain (shape_number (codes "lives") 3 (Between 1 255) t) _ s h (λ lives e_lives h.
    subst (SpellsShape t) (sym (ok_same (record { pipes = pipes; buckets = buckets; digest_bits = digest_bits; versions = versions; pool_max = pool_max; full_rows = full_rows; filter_bits = filter_bits; ring = ring; window_ms = window_ms; idle_ms = idle_ms; lives = lives }) s h)) (record {
      keys = known_to Shape_section shape_keys (keys_of t) known;
      pipes = shape_number_to (codes "pipes") 8 (Between 1 16) t pipes e_pipes;
      buckets = shape_number_to (codes "buckets") 8192 (PowerUpTo 65536) t buckets e_buckets;
      digest_bits = shape_number_to (codes "digest_bits") 16 (Between 0 16) t digest_bits e_digest_bits;
      versions = shape_number_to (codes "versions") 64 (Between 2 64) t versions e_versions;
      pool_max = shape_number_to (codes "pool_max") 16 (Between 1 255) t pool_max e_pool_max;
      full_rows = shape_number_to (codes "full_rows") 1024 (FoursUpTo 65536) t full_rows e_full_rows;
      filter_bits = shape_number_to (codes "filter_bits") 65536 (PowerUpTo 1048576) t filter_bits e_filter_bits;
      ring = shape_number_to (codes "ring") 65536 (Between 1 65536) t ring e_ring;
      window_ms = shape_number_to (codes "window_ms") 100 (Between 1 60000) t window_ms e_window_ms;
      idle_ms = shape_number_to (codes "idle_ms") 10000 (Between 1 86400000) t idle_ms e_idle_ms;
      lives = shape_number_to (codes "lives") 3 (Between 1 255) t lives e_lives;
    })))))))))))))

shape_in_from : (t : Members) (s : Shape) → SpellsShape t s → shape_in t ≡ Ok s
unfolding shape_in
shape_in_from t s h =
    rw (
      known_from Shape_section shape_keys (keys_of t) h.keys,
      shape_number_from (codes "pipes") 8 (Between 1 16) t s.pipes h.pipes,
      shape_number_from (codes "buckets") 8192 (PowerUpTo 65536) t s.buckets h.buckets,
      shape_number_from (codes "digest_bits") 16 (Between 0 16) t s.digest_bits h.digest_bits,
      shape_number_from (codes "versions") 64 (Between 2 64) t s.versions h.versions,
      shape_number_from (codes "pool_max") 16 (Between 1 255) t s.pool_max h.pool_max,
      shape_number_from (codes "full_rows") 1024 (FoursUpTo 65536) t s.full_rows h.full_rows,
      shape_number_from (codes "filter_bits") 65536 (PowerUpTo 1048576) t s.filter_bits h.filter_bits,
      shape_number_from (codes "ring") 65536 (Between 1 65536) t s.ring h.ring,
      shape_number_from (codes "window_ms") 100 (Between 1 60000) t s.window_ms h.window_ms,
      shape_number_from (codes "idle_ms") 10000 (Between 1 86400000) t s.idle_ms h.idle_ms,
      shape_number_from (codes "lives") 3 (Between 1 255) t s.lives h.lives,
    )

shape_or_to : (o : Option Data) (s : Shape) → shape_or o ≡ Ok s → MatchOption o (s ≡ default_shape) (λ d. (u : Members) × IsTable d u × SpellsShape u s)
shape_or_to None s h = ok_same default_shape s h
shape_or_to (Some d) s h =
    let path = key_path Top (codes "shape") in
    chain (at_path path (table d)) shape_in s h (λ u is h. (u, ok_or_ok (as_table d) WrongType u (at_path_ok path (table d) u is), shape_in_to u s h))

shape_or_from : (o : Option Data) (s : Shape) → MatchOption o (s ≡ default_shape) (λ d. (u : Members) × IsTable d u × SpellsShape u s) → shape_or o ≡ Ok s
shape_or_from None s h = rw h
shape_or_from (Some d) s h = rw h.1 (shape_in_from h.0 s h.2)

pub shape_to : (t : Members) (s : Shape) → shape_of t ≡ Ok s → MatchOption (get_member (codes "shape") t) (s ≡ default_shape) (λ d. (u : Members) × IsTable d u × SpellsShape u s)
unfolding shape_of
shape_to t s h = shape_or_to (get_member (codes "shape") t) s h

pub shape_from : (t : Members) (s : Shape) → MatchOption (get_member (codes "shape") t) (s ≡ default_shape) (λ d. (u : Members) × IsTable d u × SpellsShape u s) → shape_of t ≡ Ok s
unfolding shape_of
shape_from t s h = shape_or_from (get_member (codes "shape") t) s h
