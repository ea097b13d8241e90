-- The scene of the rows: one virtual address with two version numbers, and three changes that give it a pool.
use Rattle.std.specs.Prelude.{ℕ, List, [], ◌∷◌}
use Rattle.sr_update.specs.declared.give_change.GiveChange.{GiveChange}
use Rattle.sr_update.specs.declared.number_state.NumberState.{NumberState}

-- the states of the two numbers
abbrev pub pair_of : NumberState → NumberState → List (List NumberState)
pair_of zero_state one_state = (zero_state ∷ one_state ∷ []) ∷ []

-- a change of the virtual address, by its time, its position and the number of its pool
abbrev pub give_at : ℕ → ℕ → ℕ → GiveChange
give_at at_ms position pool = record { at_ms = at_ms; position = position; vip = 0; pool = pool }

-- the changes of the scene that give a pool
abbrev pub all_three : List GiveChange
all_three = give_at 0 0 2 ∷ give_at 1 2 3 ∷ give_at 1 3 4 ∷ []

abbrev pub last_two : List GiveChange
last_two = give_at 1 2 3 ∷ give_at 1 3 4 ∷ []

abbrev pub last_one : List GiveChange
last_one = give_at 1 3 4 ∷ []
