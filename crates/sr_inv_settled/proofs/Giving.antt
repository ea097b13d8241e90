-- A list whose changes were made or refused in the script's order, with one line more.
use Rattle.std.proofs.Common.{◌≡◌, ℕ, ◌&&◌, ◌==◌, nat_lt, Bool, true, false, List, [], ◌∷◌, ◌++◌, length, map, reverse, if◌then◌else◌, sym, refl, ap, ◌∙◌, subst, append_assoc, append-nil, arith}
use Rattle.std.proofs.lemmas.Bool.{and_parts}
use Rattle.std.proofs.lemmas.Bool.Decides.{nat_tests}
use Rattle.std.proofs.lemmas.List.{map-append, reverse-append, reverse-reverse}
use Rattle.sr_inv_order.proofs.Rising.{and_true}
use Rattle.sr_inv_settled.specs.Told.{due_of}
use Rattle.sr_law.specs.Settled.{DueGive, gives_settled, is_given_next, is_refused_next, rest_of}
use Rattle.sr_law.specs.Setup.{SetupView}
use Rattle.sr_law.specs.declared.line.Line.{Line}
use Rattle.sr_law.specs.declared.line.Line.TheVariants.{Given, Refused}
use Rattle.sr_update.specs.declared.give_change.GiveChange.{GiveChange}

-- some lines, the newest first, once these are printed after them
abbrev onto : List Line → List Line → List Line
onto before [] = before
onto before (l ∷ rest) = onto (l ∷ before) rest

onto_reversed : (before lines : List Line) → onto before lines ≡ reverse lines ++ before
onto_reversed before [] = refl
onto_reversed before (l ∷ rest) =
    onto_reversed (l ∷ before) rest ∙ (sym (append_assoc (reverse rest) (l ∷ []) before) ∙ ap (λ ls. ls ++ before) (sym (reverse-append (l ∷ []) rest)))

module _ (setup : SetupView) where
  -- what is left of a part tells of its changes, and so with what comes after it
  abbrev On : List Line → List DueGive → List Line → List Line → Line → Type 0
  On before more xs ys l =
      (ds : List DueGive) → gives_settled setup (l ∷ before) ds xs ≡ true → gives_settled setup (l ∷ before) (ds ++ more) (xs ++ ys) ≡ true

  -- a part of the list tells of a part of the changes, and what is printed after it of the others
  joined : (before : List Line) (dues more : List DueGive) (xs ys : List Line) → gives_settled setup before dues xs ≡ true
      → gives_settled setup (onto before xs) more ys ≡ true → gives_settled setup before (dues ++ more) (xs ++ ys) ≡ true
  joined before [] more [] ys h t = t
  joined before (due ∷ dues) more [] ys h t = cc
  joined before dues more (Given out vip version pool ∷ xs) ys h t =
      at (nat_lt (length before) (length setup.pools)) (λ ds g. joined (Given out vip version pool ∷ before) ds more xs ys g t) h
    where
      next : On before more xs ys (Given out vip version pool) → (dues : List DueGive)
          → (is_given_next dues vip pool && gives_settled setup (Given out vip version pool ∷ before) (rest_of dues) xs) ≡ true
          → (is_given_next (dues ++ more) vip pool && gives_settled setup (Given out vip version pool ∷ before) (rest_of (dues ++ more)) (xs ++ ys)) ≡ true
      next on [] g = cc
      next on (due ∷ dues) g =
          let parts = and_parts (is_given_next (due ∷ dues) vip pool) (gives_settled setup (Given out vip version pool ∷ before) dues xs) g in
          and_true _ _ parts.0 (on dues parts.1)

      at : (b : Bool) → On before more xs ys (Given out vip version pool)
          → (if b then gives_settled setup (Given out vip version pool ∷ before) dues xs else (is_given_next dues vip pool && gives_settled setup (Given out vip version pool ∷ before) (rest_of dues) xs)) ≡ true
          → (if b then gives_settled setup (Given out vip version pool ∷ before) (dues ++ more) (xs ++ ys) else (is_given_next (dues ++ more) vip pool && gives_settled setup (Given out vip version pool ∷ before) (rest_of (dues ++ more)) (xs ++ ys))) ≡ true
      at true on g = on dues g
      at false on g = next on dues g
  joined before [] more (Refused out change ∷ xs) ys h t = cc
  joined before (due ∷ dues) more (Refused out change ∷ xs) ys h t =
      let parts = and_parts (is_refused_next setup before (due ∷ dues) change) (gives_settled setup (Refused out change ∷ before) dues xs) h in
      and_true _ _ parts.0 (joined (Refused out change ∷ before) dues more xs ys parts.1 t)
  joined before dues more (line ∷ xs) ys h t = joined (line ∷ before) dues more xs ys h t

  -- one line more tells of these changes more
  pub told_more : (lines : List Line) (l : Line) (made new : List GiveChange) → gives_settled setup lines (map due_of new) (l ∷ []) ≡ true
      → gives_settled setup [] (map due_of made) (reverse lines) ≡ true
      → gives_settled setup [] (map due_of (made ++ new)) (reverse (l ∷ lines)) ≡ true
  told_more lines l made new one h =
      let before : onto [] (reverse lines) ≡ lines =
      onto_reversed [] (reverse lines) ∙ (append-nil (reverse (reverse lines)) ∙ reverse-reverse lines) in
      let whole = joined [] (map due_of made) (map due_of new) (reverse lines) (l ∷ []) h
      (subst (λ ls. gives_settled setup ls (map due_of new) (l ∷ []) ≡ true) (sym before) one) in
      subst (λ ds. gives_settled setup [] ds (reverse (l ∷ lines)) ≡ true) (sym (map-append due_of made new))
      (subst (λ ls. gives_settled setup [] (map due_of made ++ map due_of new) ls ≡ true) (sym (reverse-append (l ∷ []) lines)) whole)

  -- one that tells of no change
  pub told_same : (lines : List Line) (l : Line) (made : List GiveChange) → gives_settled setup lines [] (l ∷ []) ≡ true
      → gives_settled setup [] (map due_of made) (reverse lines) ≡ true
      → gives_settled setup [] (map due_of made) (reverse (l ∷ lines)) ≡ true
  told_same lines l made one h =
      subst (λ gs. gives_settled setup [] (map due_of gs) (reverse (l ∷ lines)) ≡ true) (append-nil made) (told_more lines l made [] one h)

  -- once each virtual address has its first pool, a Given line tells of a change
  pub given_told : (lines : List Line) (out version : ℕ) (g : GiveChange) → nat_lt (length lines) (length setup.pools) ≡ false
      → gives_settled setup lines (due_of g ∷ []) (Given out g.vip version g.pool ∷ []) ≡ true
  given_told lines out version g late = at (nat_lt (length lines) (length setup.pools)) late
    where
      same : (n : ℕ) → (n == n) ≡ true
      same n = grind (arith, nat_tests)

      at : (b : Bool) → b ≡ false
          → (if b then gives_settled setup (Given out g.vip version g.pool ∷ lines) (due_of g ∷ []) [] else (((g.vip == g.vip) && (g.pool == g.pool)) && true)) ≡ true
      at true q = cc
      at false q = and_true _ _ (and_true _ _ (same g.vip) (same g.pool)) refl

  -- the lines of the opening tell of none
  pub first_told : (lines : List Line) (out vip : ℕ) → nat_lt (length lines) (length setup.pools) ≡ true
      → gives_settled setup lines [] (Given out vip 0 1 ∷ []) ≡ true
  first_told lines out vip early = at (nat_lt (length lines) (length setup.pools)) early
    where
      at : (b : Bool) → b ≡ true
          → (if b then gives_settled setup (Given out vip 0 1 ∷ lines) [] [] else (is_given_next [] vip 1 && gives_settled setup (Given out vip 0 1 ∷ lines) [] [])) ≡ true
      at true q = refl
      at false q = cc
