-- The layout of a run: the head, the channels, the states, the end. Every place and length in it is said here.
use Rattle.std.specs.Prelude.{ℕ, ◌+◌, ◌*◌}
use Rattle.record.specs.declared.Head.{Head}

abbrev pub head_length : ℕ
head_length = 10

abbrev pub channel_length : ℕ
channel_length = 10

-- the record of channel h
abbrev pub channel_place : ℕ → ℕ
channel_place h = head_length + channel_length * h

-- how many values a state has, four bytes each
abbrev pub value_count : ℕ
value_count = 4

-- value v, behind the place of a state's record; behind the last value comes the clock
abbrev pub value_place : ℕ → ℕ
value_place v = 18 + 4 * v

-- a state's record, whose clock has two bytes a process
abbrev pub state_length : Head → ℕ
state_length h = value_place value_count + 2 * h.processes
