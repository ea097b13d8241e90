-- Steps of the loops over lines.
use Rattle.std.proofs.Common.{◌≡◌, ℕ, ◌+◌, ◌-◌, ◌<◌, Bool, true, false, not, ◌&&◌, ◌||◌, cond, List, [], ◌∷◌, ◌++◌, length, reverse, take, drop, get_or, refl, sym, ap, ◌∙◌, append_assoc, arith}
use Rattle.std.specs.Prelude.{nat_lt}
use Rattle.std.proofs.lemmas.List.{drop_more, reverse-append, length-reverse, length-take-le}
use Rattle.sr_base.specs.Key.{KeyView}
use Rattle.sr_base.specs.declared.place.Place.{Place}
use Rattle.sr_law.specs.declared.line.Line.{Line}
use Rattle.sr_law.specs.declared.line.Line.TheVariants.{Given, Refused}
use Rattle.sr_law.specs.Settled.{DueGive, gives_settled, is_given_next, rest_of, standing}
use Rattle.sr_law.specs.Setup.{SetupView}
use Rattle.sr_law.proofs.Newest.{newest_more}
use Rattle.sr_settled.specs.Gives.{is_change, is_next}

-- the newest of the lines that are left
pub stand_next : (c : KeyView) (lines : List Line) (later : ℕ) (line : Line) (ticks : List ℕ) (cleared : List Place) → later < length lines
    → get_or lines (length lines - 1 - later) line ≡ line
    → standing c [] (reverse lines) ≡ ticks ++ standing c cleared (reverse (take (length lines - later) lines))
    → standing c [] (reverse lines) ≡ ticks ++ standing c cleared (line ∷ reverse (take (length lines - (later + 1)) lines))
stand_next c lines later line ticks cleared h at e =
    let k = length lines - 1 - later in
    let now : length lines - later ≡ k + 1 = omega arith in
    let next : length lines - (later + 1) ≡ k = omega arith in
    let list : reverse (take (length lines - later) lines) ≡ line ∷ reverse (take (length lines - (later + 1)) lines) =
    ap (λ n. reverse (take n lines)) now ∙ newest_more lines k line (omega arith) ∙ ap (λ x. x ∷ reverse (take k lines)) at
    ∙ ap (λ n. line ∷ reverse (take n lines)) (sym next) in
    e ∙ ap (λ l. ticks ++ standing c cleared l) list

-- a tick more, or a place
pub stands_more : (ticks : List ℕ) (out : ℕ) (rest : List ℕ) → ticks ++ (out ∷ rest) ≡ (ticks ++ out ∷ []) ++ rest
stands_more ticks out rest = sym (append_assoc ticks (out ∷ []) rest)

pub clears_more : (cleared : List Place) (place : Place) → reverse (cleared ++ place ∷ []) ≡ place ∷ reverse cleared
clears_more cleared place = reverse-append cleared (place ∷ [])

-- ---- lines that tell of due changes

tells_next : (setup : SetupView) (before : List Line) (dues : List DueGive) (line : Line) (rest : List Line)
    → gives_settled setup before dues (line ∷ rest)
    ≡ ((not (is_change setup (length before) line) || is_next setup before dues line)
    && gives_settled setup (line ∷ before) (cond (is_change setup (length before) line) (rest_of dues) dues) rest)
tells_next setup before dues (Given out vip version pool) rest =
    by (nat_lt (length before) (length setup.pools)) (is_given_next dues vip pool) (λ d. gives_settled setup (Given out vip version pool ∷ before) d rest)
  where
    by : (b next : Bool) (then : List DueGive → Bool) → cond b (then dues) (next && then (rest_of dues)) ≡ ((not (not b) || next) && then (cond (not b) (rest_of dues) dues))
    by true next then = refl
    by false next then = refl
tells_next setup before dues (Refused out change) rest = refl
tells_next setup before dues line rest = refl

-- one line more of a list
pub line_told : (setup : SetupView) (lines : List Line) (i : ℕ) (line : Line) (dues : List DueGive) → i < length lines → get_or lines i line ≡ line
    → gives_settled setup (reverse (take i lines)) dues (drop i lines)
    ≡ ((not (is_change setup i line) || is_next setup (reverse (take i lines)) dues line)
    && gives_settled setup (reverse (take (i + 1) lines)) (cond (is_change setup i line) (rest_of dues) dues) (drop (i + 1) lines))
line_told setup lines i line dues h at =
    let before = reverse (take i lines) in
    let rest = drop (i + 1) lines in
    let size : length before ≡ i = length-reverse (take i lines) ∙ length-take-le i lines (omega arith) in
    let list : line ∷ before ≡ reverse (take (i + 1) lines) = sym (newest_more lines i line h ∙ ap (λ l. l ∷ before) at) in
    ap (gives_settled setup before dues) (drop_more lines i line h ∙ ap (λ l. l ∷ rest) at)
    ∙ tells_next setup before dues line rest
    ∙ ap (λ n. (not (is_change setup n line) || is_next setup before dues line) && gives_settled setup (line ∷ before) (cond (is_change setup n line) (rest_of dues) dues) rest) size
    ∙ ap (λ l. (not (is_change setup i line) || is_next setup before dues line) && gives_settled setup l (cond (is_change setup i line) (rest_of dues) dues) rest) list
