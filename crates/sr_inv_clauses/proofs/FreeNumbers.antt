-- Every event keeps that each version that is given is one that nothing holds.
use Rattle.std.proofs.Common.{◌≡◌, ℕ, ◌<◌, ◌≢◌, ◌&&◌, ◌||◌, ◌==◌, not, nat_lt, Bool, true, false, List, length, Some, None, Option, if◌then◌else◌, sym, refl, ap, ◌∙◌, subst, inl, inr, arith}
use Rattle.std.proofs.lemmas.Bool.Decides.{nat_tests}
use Rattle.sr_base.specs.Key.{KeyView}
use Rattle.sr_base.specs.declared.ring_word.RingKind.TheVariants.{Learn}
use Rattle.sr_inv_clauses.proofs.Choices.{entry_used}
use Rattle.sr_inv_clauses.proofs.Drawn.{EachDraw, drawn_by, each_phase}
use Rattle.sr_inv_clauses.proofs.Opens.{opens_each}
use Rattle.sr_inv_clauses.proofs.SamePools.{IsKnownOpen, known_open}
use Rattle.sr_inv_clauses.specs.Clauses.{NumbersFree}
use Rattle.sr_inv_facts.proofs.Books.{found_key}
use Rattle.sr_inv_facts.proofs.Lists.{all_of}
use Rattle.sr_inv_facts.proofs.OpeningLines.{opened_lines}
use Rattle.sr_inv_facts.specs.Fitted.{IsFitted, IsPacket}
use Rattle.sr_inv_facts.specs.InCauses.{setup_of}
use Rattle.sr_inv_facts.specs.InFilter.{IsOfWord}
use Rattle.sr_inv_facts.specs.InUpdate.{AtFirst, OnUngiven, is_used, is_used_by, newest}
use Rattle.sr_inv_facts.specs.Invariant.{Invariant}
use Rattle.sr_inv_facts.specs.Laws.{OpensWith}
use Rattle.sr_inv_facts.specs.OnTrack.{IsKnown}
use Rattle.sr_inv_facts.specs.Readings.{ring_words}
use Rattle.sr_inv_order.proofs.Grouped.{fits, phase_at, pools_count}
use Rattle.sr_inv_order.proofs.Joined.{each_part}
use Rattle.sr_inv_order.proofs.Lines.{lines_keep}
use Rattle.sr_inv_order.proofs.OrderOpens.{opened_count}
use Rattle.sr_inv_order.proofs.Rising.{and_true, none_passes, not_false, or_false}
use Rattle.sr_law.specs.Given.{has_version, last_given}
use Rattle.sr_law.specs.Number.{holds_version, is_held_open, is_in_use, meets_number, opened_with}
use Rattle.sr_law.specs.Opening.{opening}
use Rattle.sr_law.specs.Ticks.{key_of}
use Rattle.sr_law.specs.declared.line.Line.{Line}
use Rattle.sr_law.specs.declared.opening.Opening.{Opening}
use Rattle.sr_machine.specs.Config.{Config}
use Rattle.sr_machine.specs.Core.{Core, printed}
use Rattle.sr_machine.specs.Deciding.{vip_at}
use Rattle.sr_machine.specs.Keeping.{Keeps}
use Rattle.sr_machine.specs.Reads.{steady}
use Rattle.sr_machine.specs.declared.pool_update.PoolUpdate.{PoolUpdate}
use Rattle.sr_update.specs.Numbers.{state_of}
use Rattle.sr_update.specs.declared.number_state.NumberState.TheVariants as state
use Rattle.sr_machine.specs.declared.draw.Draw.TheVariants as draw
use Rattle.sr_machine.specs.declared.job.Job.TheVariants as job
use Rattle.sr_law.specs.declared.line.Line.TheVariants as line
use Rattle.sr_machine.specs.declared.name.Name.TheVariants as name

or_second : (a b : Bool) → b ≡ true → (a || b) ≡ true
or_second true b h = refl
or_second false b h = h

and_second : (a b : Bool) → (a ≡ true → b ≡ false) → (a && b) ≡ false
and_second true b h = h refl
and_second false b h = refl

module _ (s : Core) (i : Invariant s) (u : PoolUpdate) (e : s.controller.job ≡ job.Draw (draw.Given u)) where
  first : AtFirst s.controller.update s.controller.vips u
  first = phase_at s i (job.Draw (draw.Given u)) e

  -- the version that is given is free
  unused : is_used s.controller.numbers u.vip u.given ≡ false
  unused =
      let free : OnUngiven (Some u) (job.Draw (draw.Given u)) (λ u. state_of u.vip u.given s.controller.numbers ≡ Some state.Free) =
      subst (λ m. OnUngiven (Some u) m (λ u. state_of u.vip u.given s.controller.numbers ≡ Some state.Free)) e
      (subst (λ o. OnUngiven o s.controller.job (λ u. state_of u.vip u.given s.controller.numbers ≡ Some state.Free)) first.0 i.update.versions.ungiven) in
      ap is_used_by (free refl)

  -- a report tells a version of its virtual address's word, which is the one that is replaced
  reported_apart : (key : KeyView) (o : Opening) → key.vip ≡ u.vip → IsKnownOpen s key o → o.version ≢ u.given
  reported_apart key o of k = at k.known
    where
      at : IsKnown s.config.layout (ring_words s.words) s.controller.book.entries key o.version
          → o.version ≢ u.given
      at (inl (n, found, is)) same =
          let used : is_used s.controller.numbers n.key.vip n.version ≡ true = entry_used s i key n found in
          let vip : n.key.vip ≡ u.vip = ap (λ k. k.vip) (sym (found_key key s.controller.book.entries n found)) ∙ of in
          let there : is_used s.controller.numbers u.vip u.given ≡ true =
          subst (λ m. is_used s.controller.numbers u.vip m ≡ true) (is ∙ same) (subst (λ m. is_used s.controller.numbers m n.version ≡ true) vip used) in
          absurd (cc (there, unused))
      at (inr (pipe, cell, read)) same =
          let told = i.filter.filter.reports pipe cell (record { kind = Learn; version = o.version; key = key }) read in
          let word : vip_at s.controller.vips key.vip ≡ steady u.replaced = ap (vip_at s.controller.vips) of ∙ first.1 in
          by (subst (λ w. IsOfWord w o.version) word told.0)
        where
          by : IsOfWord (steady u.replaced) o.version → ⊥
          by (inl r) = (fits s i u first.0).other (sym r ∙ same)
          by (inr r) = cc

  -- no open connection has it
  none_held : (l : Line) → holds_version (printed s) u.vip u.given (key_of l) ≡ false
  none_held l = at (key_of l)
    where
      by : (key : KeyView) (o : Option Opening) → opening (printed s) key ≡ o → key.vip ≡ u.vip → opened_with u.given o ≡ false
      by key None q of = refl
      by key (Some o) q of =
          let apart : o.version ≢ u.given = reported_apart key o of (known_open s i key o q) in
          grind (arith, nat_tests)

      at : (o : Option KeyView) → holds_version (printed s) u.vip u.given o ≡ false
      at None = refl
      at (Some key) =
          and_second (key.vip == u.vip) (opened_with u.given (opening (printed s) key))
          (λ t. let of : key.vip ≡ u.vip = grind (arith, nat_tests) in by key (opening (printed s) key) refl of)

  not_last : has_version (last_given (printed s) u.vip) u.given ≡ false
  not_last =
      let f = fits s i u first.0 in
      let new : newest s.controller.update s.controller.vips s.controller.job u.vip ≡ u.replaced =
      ap (λ o. newest o s.controller.vips s.controller.job u.vip) first.0
      ∙ (ap (λ j. newest (Some u) s.controller.vips j u.vip) e ∙ ap (λ b. if b then u.replaced else (vip_at s.controller.vips u.vip).cur) same) in
      ap (λ o. has_version o u.given) (i.update.versions.last u.vip f.vip) ∙ (ap (λ n. n == u.given) new ∙ apart f.other)
    where
      same : (u.vip == u.vip) ≡ true
      same = grind (arith, nat_tests)

      apart : u.replaced ≢ u.given → (u.replaced == u.given) ≡ false
      apart h = grind (arith, nat_tests)

  pub given_number : meets_number (setup_of s.config) (printed s) (line.Given (s.words name.Tick) u.vip u.given u.pool) ≡ true
  unfolding meets_number
  given_number =
      let below = (fits s i u first.0).given in
      let free : is_in_use (printed s) u.vip u.given ≡ false =
      or_false (has_version (last_given (printed s) u.vip) u.given) (is_held_open (printed s) u.vip u.given) not_last
      (none_passes (λ l. holds_version (printed s) u.vip u.given (key_of l)) (printed s) (all_of (λ l. holds_version (printed s) u.vip u.given (key_of l) ≡ false) none_held (printed s))) in
      or_second (nat_lt (length (printed s)) (length s.config.pools)) _
      (and_true (nat_lt u.given s.config.layout.shape.versions) (not (is_in_use (printed s) u.vip u.given)) (grind (arith, nat_tests)) (not_false (is_in_use (printed s) u.vip u.given) free))

drawn_number : (s : Core) → Invariant s → EachDraw s (λ l. meets_number (setup_of s.config) (printed s) l ≡ true)
unfolding meets_number
drawn_number s i = record {
  refused = λ n e. refl;
  taken_down = λ n e. refl;
  given = λ u e. given_number s i u e;
  comes = λ u p e.
      each_phase (λ l. meets_number (setup_of s.config) (printed s) l ≡ true) u (s.words name.Tick) refl refl refl refl p;
  reserved = λ p e. refl;
  placed = λ p e. refl;
  cleared = λ key place w e. refl;
  retired = λ key place version e. refl;
  answer = λ r e. refl;
  swept = λ from ms e. refl;
}

abbrev pub IsFree : Config → List Line → Line → Type 0
IsFree k before l = meets_number (setup_of k) before l ≡ true

pub number_keep : Keeps IsPacket Invariant NumbersFree
unfolding meets_number
number_keep = lines_keep IsFree (record {
  packet = λ s i p v q f w e. refl;
  drawn = λ s i d e l q. drawn_by s (IsFree s.config (printed s)) (drawn_number s i) d e l q;
})

pub number_part : (s : Core) → Invariant s → NumbersFree s
number_part s i = each_part (setup_of s.config) _ (IsFree s.config) (λ before l m. m.number) (printed s) i.causes.causes.clauses

first_free : (k : Config) → IsFitted k → (n : ℕ) → n < k.layout.vips → (b : Bool) → (nat_lt (length (opened_lines n)) (length k.pools) || b) ≡ true
first_free k f n h b =
    let count = pools_count k f in
    let here = opened_count n in
    at (nat_lt (length (opened_lines n)) (length k.pools)) (grind (arith, nat_tests))
  where
    at : (a : Bool) → a ≡ true → (a || b) ≡ true
    at true e = refl
    at false e = cc

pub number_open : OpensWith NumbersFree
unfolding meets_number
number_open k f = opens_each IsFree (λ k f n h. first_free k f n h _) k f
