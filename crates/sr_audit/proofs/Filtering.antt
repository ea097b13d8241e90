-- Steps of the index of filters.
use Rattle.std.proofs.Common.{◌≡◌, ℕ, Bool, true, false, not, ◌&&◌, ◌||◌, cond, List, [], ◌∷◌, Option, Some, None, refl, sym, ap, subst, ◌∙◌, inl, inr}
use Rattle.std.specs.BTreeMap.{is_at}
use Rattle.std.specs.BTreeSet.{contains}
use Rattle.std.specs.List.{list_any, list_all}
use Rattle.std.specs.Ordering.{nat_cmp}
use Rattle.std.specs.Prelude.{nat_eq}
use Rattle.std.proofs.lemmas.Bool.{cases_Bool, eqb-true}
use Rattle.sr_base.specs.Key.{KeyView}
use Rattle.sr_base.specs.declared.kind.Kind.TheVariants.{Opener}
use Rattle.sr_base.specs.declared.shape.Shape.{Shape}
use Rattle.sr_hash.specs.Uses.{bloom_places_of}
use Rattle.sr_law.specs.declared.giving.Giving.{Giving}
use Rattle.sr_law.specs.declared.line.Line.{Line}
use Rattle.sr_law.specs.declared.line.Line.TheVariants.{Packet, Recorded}
use Rattle.sr_law.specs.declared.verdict.Verdict.TheVariants.{To}
use Rattle.sr_law.specs.Given.{last_given, has_pool}
use Rattle.sr_law.specs.Held.{records, recorded_giving, sets_place, is_set, in_filter}
use Rattle.sr_audit.specs.declared.filters.Filter.{Filter}
use Rattle.sr_audit.specs.Filters.{has_places, MayHaveSet, Sends, TellsFilter, TellsRecorded}
use Rattle.sr_audit.proofs.Greatest.{same_number}

module _ (bits vip : ℕ) (before : List Line) where
  -- a line that neither begins to record nor sends an opener
  pub quiet_more : (line : Line) (filter : Option Filter) → records vip line ≡ false
      → ((giving : Option Giving) (place : ℕ) → sets_place bits vip giving place line ≡ false)
      → TellsRecorded bits vip before filter → TellsRecorded bits vip (line ∷ before) filter
  quiet_more line None none unset t = ap (λ b. b || list_any (records vip) before) none ∙ t
  quiet_more line (Some f) none unset t = record {
    recorded = ap (λ b. b || list_any (records vip) before) none ∙ t.recorded;
    giving = t.giving ∙ sym (ap (λ b. cond b (last_given before vip) (recorded_giving before vip)) none);
    places = λ place.
        t.places place
        ∙ sym (ap (λ b. cond b false (sets_place bits vip f.giving place line || is_set bits vip f.giving place before)) none
        ∙ ap (λ b. b || is_set bits vip f.giving place before) (unset f.giving place));
  }

  -- one that sends an opener to a server
  pub sent_more : (number entered out pipe : ℕ) (key : KeyView) (server version pool : ℕ) (old new : Option Filter)
      → TellsRecorded bits vip before old → Sends bits key pool (nat_eq key.vip vip) old new
      → TellsRecorded bits vip (Packet number entered out pipe key Opener (To server version pool) ∷ before) new
  sent_more number entered out pipe key server version pool None new t s =
      subst (TellsRecorded bits vip (Packet number entered out pipe key Opener (To server version pool) ∷ before)) (sym s) t
  sent_more number entered out pipe key server version pool (Some f) None t s = absurd s
  sent_more number entered out pipe key server version pool (Some f) (Some g) t s =
      let line : Line = Packet number entered out pipe key Opener (To server version pool) in
      record {
        recorded = t.recorded;
        giving = s.giving ∙ t.giving;
        places = λ place.
            s.places place ∙ ap (λ b. sets_place bits vip f.giving place line || b) (t.places place)
            ∙ sym (ap (λ x. sets_place bits vip x place line || is_set bits vip x place before) s.giving);
      }

  -- one that begins to record
  pub recorded_more : (out to : ℕ) (old new : Option Filter) (filter : Filter)
      → new ≡ cond (is_at (nat_cmp to) vip) (Some filter) old
      → (nat_eq to vip ≡ true → filter.giving ≡ last_given before vip) → ((place : ℕ) → contains nat_cmp filter.places place ≡ false)
      → TellsRecorded bits vip before old → TellsRecorded bits vip (Recorded out to ∷ before) new
  recorded_more out to old new filter step giving empty t =
      let line : Line = Recorded out to in
      let now : new ≡ cond (nat_eq to vip) (Some filter) old = step ∙ ap (λ b. cond b (Some filter) old) (same_number to vip) in
      elim (cases_Bool (nat_eq to vip)) [
        | inl same ↦
            let fresh : TellsFilter bits vip filter (line ∷ before) = record {
              recorded = ap (λ b. b || list_any (records vip) before) same;
              giving = giving same ∙ sym (ap (λ b. cond b (last_given before vip) (recorded_giving before vip)) same);
              places = λ place. empty place ∙ sym (ap (λ b. cond b false (sets_place bits vip filter.giving place line || is_set bits vip filter.giving place before)) same);
            } in
            subst (TellsRecorded bits vip (line ∷ before)) (sym (now ∙ ap (λ b. cond b (Some filter) old) same)) fresh
        | inr other ↦
            subst (TellsRecorded bits vip (line ∷ before)) (sym (now ∙ ap (λ b. cond b (Some filter) old) other))
            (quiet_more line old other (λ giving place. refl) t)
      ]

all_same : (p q : ℕ → Bool) (xs : List ℕ) → ((x : ℕ) → p x ≡ q x) → list_all p xs ≡ list_all q xs
all_same p q [] same = refl
all_same p q (x ∷ xs) same = rw (same x, all_same p q xs same) refl

-- the places of a filter are those of the lines
pub filter_told : (shape : Shape) (before : List Line) (key : KeyView) (filter : Filter) → TellsFilter shape.filter_bits key.vip filter before
    → has_places shape.filter_bits filter key ≡ (list_any (records key.vip) before && in_filter shape before key)
filter_told shape before key filter t =
    let bits = shape.filter_bits in
    let each : (place : ℕ) → contains nat_cmp filter.places place ≡ is_set bits key.vip (recorded_giving before key.vip) place before =
    λ place. t.places place ∙ ap (λ g. is_set bits key.vip g place before) t.giving in
    all_same (λ place. contains nat_cmp filter.places place) (λ place. is_set bits key.vip (recorded_giving before key.vip) place before) (bloom_places_of key bits) each
    ∙ sym (ap (λ b. b && in_filter shape before key) t.recorded)

-- ---- an opener is sent

unset : (bits : ℕ) (key : KeyView) (f : Filter) → MayHaveSet bits key false f f
unset bits key f = record { giving = refl; places = λ place. refl }

module _ (bits : ℕ) (key : KeyView) (pool : ℕ) where
  sends_other : (o : Option Filter) → Sends bits key pool false o o
  sends_other None = refl
  sends_other (Some f) = unset bits key f

  -- its virtual address has a filter
  pub sends_found : (old new : ℕ → Option Filter) (f g : Filter) (q : ℕ) → old key.vip ≡ Some f
      → new q ≡ cond (is_at (nat_cmp key.vip) q) (Some g) (old q) → MayHaveSet bits key (not (has_pool f.giving pool)) f g
      → Sends bits key pool (nat_eq key.vip q) (old q) (new q)
  sends_found old new f g q found step m =
      let now : new q ≡ cond (nat_eq key.vip q) (Some g) (old q) = step ∙ ap (λ b. cond b (Some g) (old q)) (same_number key.vip q) in
      elim (cases_Bool (nat_eq key.vip q)) [
        | inl same ↦
            let is : old q ≡ Some f = ap old (sym (eqb-true key.vip q same)) ∙ found in
            let after : new q ≡ Some g = now ∙ ap (λ b. cond b (Some g) (old q)) same in
            subst (λ n. Sends bits key pool (nat_eq key.vip q) (old q) n) (sym after)
            (subst (λ o. Sends bits key pool (nat_eq key.vip q) o (Some g)) (sym is) (subst (λ b. Sends bits key pool b (Some f) (Some g)) (sym same) m))
        | inr other ↦
            let after : new q ≡ old q = now ∙ ap (λ b. cond b (Some g) (old q)) other in
            subst (λ n. Sends bits key pool (nat_eq key.vip q) (old q) n) (sym after) (subst (λ b. Sends bits key pool b (old q) (old q)) (sym other) (sends_other (old q)))
      ]

  -- its filter has this very pool
  pub sends_own : (old new : ℕ → Option Filter) (f : Filter) (q : ℕ) → old key.vip ≡ Some f
      → new q ≡ cond (is_at (nat_cmp key.vip) q) (Some f) (old q) → has_pool f.giving pool ≡ true
      → Sends bits key pool (nat_eq key.vip q) (old q) (new q)
  sends_own old new f q found step has = sends_found old new f f q found step (subst (λ b. MayHaveSet bits key (not b) f f) (sym has) (unset bits key f))

  -- it has none
  pub sends_none : (old : ℕ → Option Filter) (q : ℕ) → old key.vip ≡ None → Sends bits key pool (nat_eq key.vip q) (old q) (old q)
  sends_none old q none = elim (cases_Bool (nat_eq key.vip q)) [
    | inl same ↦
        let is : old q ≡ None = ap old (sym (eqb-true key.vip q same)) ∙ none in
        subst (λ o. Sends bits key pool (nat_eq key.vip q) o o) (sym is) refl
    | inr other ↦ subst (λ b. Sends bits key pool b (old q) (old q)) (sym other) (sends_other (old q))
  ]
