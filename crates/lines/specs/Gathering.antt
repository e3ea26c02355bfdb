-- What a line buffer has gathered. Assumes nothing.
use Rattle.std.specs.Prelude.{◌≡◌, ℕ, ◌<◌, ◌≤◌, List, length, MatchOption}
use Rattle.lines.specs.declared.line_buffer.LineBuffer.{LineBuffer}

-- what the buffer knows where xs are the bytes since it was made or cleared: just these, or that there were too many to hold
abbrev pub Gathered : LineBuffer → List ℕ → Type 0
Gathered b xs = MatchOption b.bytes (1000 < length xs) (λ held. (length xs ≤ 1000) × (held.items ≡ xs))
