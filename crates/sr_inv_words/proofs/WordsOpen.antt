-- The words are what the views say at the opening.
use Rattle.std.proofs.Common.{◌≡◌, ℕ, zero, suc, ◌+◌, ◌-◌, ◌*◌, ◌<◌, ◌≤◌, true, false, ◌⊎◌, List, [], ◌∷◌, length, replicate, slice_get, slice_index, slice_index_or, Some, unwrap_or, sym, refl, ap, ◌∙◌, subst, inl, inr, true≢false, arith}
use Rattle.std.proofs.lemmas.Bool.{cases_lt}
use Rattle.std.proofs.lemmas.List.{get_or_past, length-replicate}
use Rattle.sr_base.specs.Fitting.{IsPoolOf}
use Rattle.sr_base.specs.RowHead.{packed_head}
use Rattle.sr_base.specs.VipWord.{packed_vip}
use Rattle.sr_base.specs.declared.change.Change.{Change}
use Rattle.sr_inv_facts.proofs.Lists.{all_got, all_same, got_or, ranged_at}
use Rattle.sr_inv_facts.specs.Fitted.{IsFitted}
use Rattle.sr_inv_facts.specs.InWords.{HoldsPool, InWords, note_of, pipe_ticks, ticks_of}
use Rattle.sr_inv_facts.specs.Laws.{OpensWith}
use Rattle.sr_inv_facts.proofs.Sums.{sum_most}
use Rattle.sr_law.specs.Pools.{pool_of, pools_from}
use Rattle.sr_machine.specs.Config.{Config}
use Rattle.sr_machine.specs.Deciding.{named_at, ring_count}
use Rattle.sr_machine.specs.Opening.{first_pool, opening_controller, opening_head, opening_named, opening_pipes, opening_words}
use Rattle.sr_machine.specs.Pipe.{fresh_pipe}
use Rattle.sr_machine.specs.Reads.{steady}
use Rattle.sr_update.specs.Numbers.{is_free, opening_row, opening_rows, state_of}
use Rattle.sr_update.specs.declared.number_state.NumberState.{NumberState}
use Rattle.sr_update.specs.declared.number_state.NumberState.TheVariants.{Free}

-- a list of the same has it everywhere
replicated : {X : Type 0} (count n : ℕ) (x d : X) → n < count → slice_index_or (replicate count x) n d ≡ x
replicated zero n x d h = absurd (omega arith)
replicated (suc count) zero x d h = refl
replicated (suc count) (suc n) x d h = replicated count n x d (omega arith)

-- what is in reach is there
there : {X : Type 0} (xs : List X) (n : ℕ) → n < length xs → (x : X) × (slice_get xs n ≡ Some x)
there [] n h = absurd (omega arith)
there (x ∷ xs) zero h = (x, refl)
there (x ∷ xs) (suc n) h = there xs n (omega arith)

-- pool 1 of a virtual address is its first one
first_there : (vip : ℕ) (firsts : List (List ℕ)) (changes : List Change) (n : ℕ) (pool : List ℕ) → slice_get firsts n ≡ Some pool
    → pool_of (pools_from vip firsts changes) n 1 ≡ Some pool
first_there vip [] changes n pool e = cc
first_there vip (first ∷ rest) changes zero pool e = e
first_there vip (first ∷ rest) changes (suc n) pool e = first_there (vip + 1) rest changes n pool e

-- the head of a pool that isn't empty
head_of : (pool : List ℕ) → 1 ≤ length pool → opening_head pool ≡ packed_head (record { size = length pool; pool = 1 })
head_of [] h = absurd (omega arith)
head_of (server ∷ rest) h = refl

fresh_ticks : (k : Config) → pipe_ticks (opening_pipes k) ≡ 0
unfolding opening_pipes
fresh_ticks k =
    let none : pipe_ticks (opening_pipes k) ≤ length (opening_pipes k) * 0 =
    sum_most ticks_of 0 (opening_pipes k) (λ p v e. subst (λ u. ticks_of u ≤ 0) (sym (ranged_at fresh_pipe 0 k.layout.shape.pipes p v e)) (omega arith)) in
    omega arith

module _ (k : Config) (f : IsFitted k) where
  -- a number that isn't free is number 0 of a virtual address of the layout
  only_first : (vip n : ℕ) (is : NumberState) → state_of vip n (opening_rows k.layout) ≡ Some is → is_free is ≡ false
      → (n ≡ 0) × (vip < k.layout.vips)
  only_first vip n is e h = at (cases_lt vip k.layout.vips)
    where
      row : (n : ℕ) → slice_get (opening_row k.layout.shape.versions) n ≡ Some is → n ≡ 0
      row zero q = refl
      row (suc n) q =
          let free : is_free is ≡ true =
          all_got (λ state. is_free state ≡ true) (replicate (k.layout.shape.versions - 1) Free) n is (all_same (λ state. is_free state ≡ true) (k.layout.shape.versions - 1) Free refl) q in
          absurd (true≢false (sym free ∙ h))

      at : (vip < k.layout.vips) ⊎ (k.layout.vips ≤ vip) → (n ≡ 0) × (vip < k.layout.vips)
      at (inl b) =
          (row n (subst (λ r. slice_get r n ≡ Some is) (replicated k.layout.vips vip (opening_row k.layout.shape.versions) [] b) e), b)
      at (inr b) =
          let none : slice_get [] n ≡ Some is =
          subst (λ r. slice_get r n ≡ Some is) (get_or_past (opening_rows k.layout) vip [] (omega (arith, length-replicate k.layout.vips (opening_row k.layout.shape.versions)))) e in
          cc

  opening_pool : (vip : ℕ) → vip < k.layout.vips → HoldsPool k (opening_words k) vip 0 (named_at (opening_named k) vip 0)
  unfolding opening_words
  opening_pool vip b =
      let p = there f.first vip (omega (arith, f.fits.vips)) in
      let is : pool_of k.pools vip 1 ≡ Some p.0 = ap (λ pools. pool_of pools vip 1) f.pools ∙ first_there 0 f.first k.changes vip p.0 p.1 in
      let first : first_pool k vip ≡ p.0 = ap (λ o. unwrap_or o []) is in
      let named : named_at (opening_named k) vip 0 ≡ 1 =
      ap (λ row. slice_index row 0) (replicated k.layout.vips vip (1 ∷ replicate (k.layout.shape.versions - 1) 0) [] b) in
      subst (HoldsPool k (opening_words k) vip 0) (sym named) (record {
        pool = p.0;
        there = is;
        head = ap opening_head first ∙ head_of p.0 (all_got (IsPoolOf k.layout) f.first vip p.0 f.fits.pools p.1).some;
        members = λ i h. ap (λ pool. slice_index pool i) first;
      })

pub words_open : OpensWith InWords
unfolding opening_controller opening_pipes opening_words
words_open k f = record {
  tick = omega (arith, fresh_ticks k);
  note = λ p v e. sym (ap (λ u. note_of u.stage) (ranged_at fresh_pipe 0 k.layout.shape.pipes p v e));
  ring = λ p v e.
      let none : (ring_count (opening_controller k).rings p).words ≡ 0 =
      got_or (λ r. r.words ≡ 0) (opening_controller k).rings p (record { words = 0; punts = 0 }) (all_same (λ r. r.words ≡ 0) k.layout.shape.pipes (record { words = 0; punts = 0 }) refl) refl in
      let pushed : v.pushed ≡ 0 = ap (λ u. u.pushed) (ranged_at fresh_pipe 0 k.layout.shape.pipes p v e) in
      record {
        least = omega (arith, none, pushed);
        most = omega (arith, none, pushed);
        there = λ n low high. absurd (omega (arith, none, pushed));
        empty = λ n low high. refl;
      };
  others = record {
    table = λ place. refl;
    vip = λ vip. sym (got_or (λ w. packed_vip w ≡ 0) (opening_controller k).vips vip (steady 0) (all_same (λ w. packed_vip w ≡ 0) k.layout.vips (steady 0) refl) refl);
    down = λ server. refl;
    version = λ vip n is e h.
        let z = only_first k f vip n is e h in
        subst (λ m. HoldsPool k (opening_words k) vip m (named_at (opening_named k) vip m)) (sym z.0) (opening_pool k f vip z.1);
    written = tt;
    filter = λ n b c. refl;
  };
}
