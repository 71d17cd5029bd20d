-- Where a dialogue stands within what is lent. Assumes nothing.
use Rattle.std.specs.Prelude.{ℕ, ◌≤◌, ◌<◌, ◌≡◌}
use Rattle.dialogue.specs.declared.turns.Turn.{Turn}

-- the chunk has the bytes that are still to be taken, the line has its bytes, and the piece has room for one more
pub record Fits (t : Turn) (chunk line piece : ℕ) : Type 0 where
  pub taken : t.end ≤ chunk
  pub held : t.size ≤ line
  pub room : t.at < piece

-- bytes of the chunk were taken: chunk and piece are as they were, and the line has its bytes
pub record Gathered (t r : Turn) (line : ℕ) : Type 0 where
  pub held : r.size ≤ line
  pub same_end : r.end ≡ t.end
  pub same_place : r.at ≡ t.at
