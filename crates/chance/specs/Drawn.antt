-- What each state of the generator makes and shows.
use Rattle.std.specs.Prelude.{ℕ, ◌+◌, ◌-◌, ◌*◌, ◌/◌, ◌%◌, ◌^◌, cond, ◌==◌, ℤ, pos, ◌+ℤ◌}
use borrow.Author.Differences.{up, down}

abbrev pub next : ℕ → ℕ
next state = (state * 6364136223846793005 + 1442695040888963407) % 2 ^ 64

-- the high 31 bits
abbrev pub shown : ℕ → ℕ
shown state = state / 2 ^ 33

abbrev pub number_below : ℕ → ℕ → ℕ
number_below count state = cond (count == 0) 0 (shown (next state) % count)

-- where no number is below the count, nothing is drawn
abbrev pub state_below : ℕ → ℕ → ℕ
state_below count state = cond (count == 0) state (next state)

-- how many numbers there are from `low` to `high`
abbrev pub width : ℤ → ℤ → ℕ
width low high = (up high + down low + 1) - (down high + up low)

abbrev pub number_between : ℤ → ℤ → ℕ → ℤ
number_between low high state = low +ℤ pos (number_below (width low high) state)

abbrev pub state_between : ℤ → ℤ → ℕ → ℕ
state_between low high state = state_below (width low high) state
