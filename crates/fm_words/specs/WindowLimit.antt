-- How large a window of memory may be.
use Rattle.std.specs.Prelude.{ℕ, ◌^◌}

-- the words of a window, of a placed system, of an image, and of several images together
abbrev pub most_window : ℕ
most_window = 2 ^ 20
