-- Settled: at the end of a run nothing is left to do. A list is settled for a script's changes and a clock, which is none where no time passed.
-- The lists here have their newest line first, but for that of `gives_settled`.
use Rattle.std.specs.Prelude.{ℕ, ◌+◌, ◌-◌, Bool, true, false, not, ◌&&◌, ◌||◌, ◌==◌, nat_lt, nat_le, if◌then◌else◌, List, [], ◌∷◌, ◌++◌, length, reverse, Option, Some, None, count_by}
use Rattle.std.specs.List.{list_any, list_all}
use Rattle.sr_base.specs.Key.{KeyView, same_key}
use Rattle.sr_base.specs.Place.{same_place}
use Rattle.sr_base.specs.declared.shape.Shape.{Shape}
use Rattle.sr_base.specs.declared.change.Change.{Change}
use Rattle.sr_base.specs.declared.change.What.{What}
use Rattle.sr_base.specs.declared.change.What.TheVariants.{Give, TakeDown}
use Rattle.sr_base.specs.declared.place.Place.{Place}
use Rattle.sr_law.specs.declared.line.Line.{Line}
use Rattle.sr_law.specs.declared.line.Line.TheVariants.{Packet, Given, TakenDown, Placed, Cleared, Refused}
use Rattle.sr_law.specs.declared.sweep.Sweep.{Sweep}
use Rattle.sr_law.specs.Cause.{all_in_use}
use Rattle.sr_law.specs.Groups.{after_gives, is_over, last_of_update}
use Rattle.sr_law.specs.Keys.{clashes_in}
use Rattle.sr_law.specs.Opening.{is_open}
use Rattle.sr_law.specs.Pools.{gives_to}
use Rattle.sr_law.specs.Retire.{last_sweep, numbered_sweep}
use Rattle.sr_law.specs.Rows.{is_group_full}
use Rattle.sr_law.specs.Setup.{SetupView}
use Rattle.sr_law.specs.Ticks.{key_of}

-- a change at this time is due
abbrev pub is_due : Option ℕ → ℕ → Bool
is_due None at_ms = false
is_due (Some clock) at_ms = nat_le at_ms clock

-- a change that gives a pool: its position in the script, from 0, its virtual address, and the pool's number
pub record DueGive : Type 0 where
  pub position : ℕ
  pub vip : ℕ
  pub pool : ℕ

-- the changes from a position on that give a pool and are due, in the script's order; the earlier changes count for the pool's number
abbrev pub due_gives : Option ℕ → List Change → ℕ → List Change → List DueGive
due_gives clock earlier position [] = []
due_gives clock earlier position (change ∷ rest) =
    due_give (is_due clock change.at_ms) earlier position change.what ++ due_gives clock (change ∷ earlier) (position + 1) rest
  where
    due_give : Bool → List Change → ℕ → What → List DueGive
    due_give due earlier position (Give vip pool) =
        if due then (record { position = position; vip = vip; pool = 2 + length (gives_to vip earlier) } ∷ []) else []
    due_give due earlier position (TakeDown server) = []

-- the next of the due changes gives this virtual address this pool
abbrev pub is_given_next : List DueGive → ℕ → ℕ → Bool
is_given_next [] vip pool = false
is_given_next (due ∷ rest) vip pool = (due.vip == vip) && (due.pool == pool)

-- the next of the due changes has this position, and all versions of its virtual address are in use
abbrev pub is_refused_next : SetupView → List Line → List DueGive → ℕ → Bool
is_refused_next setup before [] change = false
is_refused_next setup before (due ∷ rest) change = (due.position == change) && all_in_use before due.vip setup.shape.versions

-- all but the first
abbrev pub rest_of : List DueGive → List DueGive
rest_of [] = []
rest_of (due ∷ rest) = rest

-- there is none
abbrev pub are_none : List DueGive → Bool
are_none [] = true
are_none (due ∷ rest) = false

-- the due changes that give a pool were made or refused, each once, in the script's order; the lines are given in printed order, and
-- those before them with the newest first
abbrev pub gives_settled : SetupView → List Line → List DueGive → List Line → Bool
gives_settled setup before dues [] = are_none dues
gives_settled setup before dues (Given out vip version pool ∷ rest) =
    if nat_lt (length before) (length setup.pools) then gives_settled setup (Given out vip version pool ∷ before) dues rest
    else (is_given_next dues vip pool && gives_settled setup (Given out vip version pool ∷ before) (rest_of dues) rest)
gives_settled setup before dues (Refused out change ∷ rest) =
    is_refused_next setup before dues change && gives_settled setup (Refused out change ∷ before) (rest_of dues) rest
gives_settled setup before dues (line ∷ rest) = gives_settled setup (line ∷ before) dues rest

-- the servers that due changes take down
abbrev pub due_downs : Option ℕ → List Change → List ℕ
due_downs clock [] = []
due_downs clock (change ∷ rest) = due_down (is_due clock change.at_ms) change.what ++ due_downs clock rest
  where
    due_down : Bool → What → List ℕ
    due_down due (Give vip pool) = []
    due_down due (TakeDown server) = if due then (server ∷ []) else []

-- the servers that lines take down
abbrev pub downs_of : List Line → List ℕ
downs_of [] = []
downs_of (TakenDown out server ∷ before) = server ∷ downs_of before
downs_of (line ∷ before) = downs_of before

-- a number is there as often in one list as in the other
abbrev pub is_number_as_often : List ℕ → List ℕ → ℕ → Bool
is_number_as_often xs ys n = count_by (λ x. x == n) xs == count_by (λ y. y == n) ys

-- each server that is due to be taken down was, once, and no other
abbrev pub downs_settled : Option ℕ → List Change → List Line → Bool
downs_settled clock changes all =
    let due = due_downs clock changes in
    let made = downs_of all in
    list_all (is_number_as_often due made) due && list_all (is_number_as_often due made) made

-- no update is under way
abbrev pub update_settled : SetupView → List Line → Bool
update_settled setup all = is_over (last_of_update (after_gives (length setup.pools) all))

-- the ticks at which entries of a key were placed that no later line cleared; these places were cleared later
abbrev pub standing : KeyView → List Place → List Line → List ℕ
standing c cleared [] = []
standing c cleared (Placed out key at ∷ before) =
    if same_key key c && not (list_any (same_place at) cleared) then out ∷ standing c cleared before else standing c cleared before
standing c cleared (Cleared out key at ∷ before) = standing c (at ∷ cleared) before
standing c cleared (line ∷ before) = standing c cleared before

-- a key that is open at the end has a place, or there is none for it
abbrev pub has_place : SetupView → List Line → Option KeyView → Bool
has_place setup all None = true
has_place setup all (Some key) = not (is_open all key) || (nat_lt 0 (length (standing key [] all)) || is_group_full setup.shape all key)

-- each key that is open at the end has a place, or there is none for it
abbrev pub places_settled : SetupView → List Line → Bool
places_settled setup all = list_all (λ line. has_place setup all (key_of line)) all

-- the time of the last sweep, or 0
abbrev pub sweep_time : Option Sweep → ℕ
sweep_time None = 0
sweep_time (Some sweep) = sweep.at_ms

-- no sweep is due
abbrev pub sweeps_settled : SetupView → Option ℕ → List Line → Bool
sweeps_settled setup None all = true
sweeps_settled setup (Some clock) all = nat_lt clock (sweep_time (last_sweep all) + setup.shape.idle_ms)

-- a packet of this key, or of one that clashes with it, was out after this tick
abbrev pub uses_after : Shape → KeyView → ℕ → Line → Bool
uses_after shape c tick (Packet number entered out pipe key kind verdict) =
    (same_key key c || (clashes_in shape 1 key c || clashes_in shape 2 key c)) && nat_lt tick out
uses_after shape c tick line = false

-- a key that is open, and was placed before this tick and not cleared, was used after it
abbrev pub was_used : SetupView → List Line → ℕ → Option KeyView → Bool
was_used setup all tick None = true
was_used setup all tick (Some key) =
    not (is_open all key) || (not (list_any (λ placed. nat_lt placed tick) (standing key [] all)) || list_any (uses_after setup.shape key tick) all)

-- each key was used since this sweep
abbrev pub all_used : SetupView → List Line → Option Sweep → Bool
all_used setup all None = true
all_used setup all (Some sweep) = list_all (λ line. was_used setup all sweep.from (key_of line)) all

-- no connection is left that was quiet for so many sweeps
abbrev pub quiet_settled : SetupView → List Line → Option Sweep → Bool
quiet_settled setup all None = true
quiet_settled setup all (Some last) =
    not (nat_lt setup.shape.lives last.number) || all_used setup all (numbered_sweep all (last.number - setup.shape.lives))

-- what holds at the end even while an update waits for a key that has no place
unfoldable pub is_settled_waiting : SetupView → List Change → Option ℕ → List Line → Bool
is_settled_waiting setup changes clock lines =
    let all = reverse lines in
    downs_settled clock changes all && places_settled setup all && sweeps_settled setup clock all && quiet_settled setup all (last_sweep all)

-- a printed list is settled for these changes and this clock
unfoldable pub is_settled : SetupView → List Change → Option ℕ → List Line → Bool
is_settled setup changes clock lines =
    gives_settled setup [] (due_gives clock [] 0 changes) lines && update_settled setup (reverse lines) && is_settled_waiting setup changes clock lines
