-- The lines of an input, byte by byte. Assumes nothing.
use Rattle.std.specs.Prelude.{◌≡◌, ℕ, List, [], ◌∷◌, ◌++◌, Some, None, Option, ◌≢◌}
use Rattle.lines.specs.Gathering.{Gathered}
use Rattle.replies.specs.declared.reply.Reply.{Reply}
use Rattle.check_sheet.specs.declared.session.Session.{Session}
use Rattle.check_sheet.specs.Answers.{Replied}
use Rattle.replies.specs.Summaries.{nothing_yet, noted}

-- no network or model, nothing of a line, no reply
pub record Fresh (s : Session) : Type 0 where
  pub setup : s.setup ≡ None
  pub line : Gathered s.line []
  pub summary : s.summary ≡ nothing_yet

-- the line was replied to as its bytes ask, the reply was counted, and nothing of the next line has come
pub record LineAnswered (before : Session) (bytes : List ℕ) (r : Reply) (after : Session) : Type 0 where
  pub replied : Replied before.setup bytes r after.setup
  pub line : Gathered after.line []
  pub summary : after.summary ≡ noted r before.summary

-- network, model and replies so far are as before
pub record Kept (before after : Session) : Type 0 where
  pub setup : after.setup ≡ before.setup
  pub summary : after.summary ≡ before.summary

-- byte 10 ends the line; every other byte is one more of it
abbrev pub Took : Session → List ℕ → ℕ → Option Reply → Session → Type 0
Took before bytes byte None after = (byte ≢ 10) × Gathered after.line (bytes ++ (byte ∷ [])) × Kept before after
Took before bytes byte (Some r) after = (byte ≡ 10) × LineAnswered before bytes r after

-- the end of the input ends the last line, which is none where nothing of it has come
abbrev pub Ended : Session → List ℕ → Option Reply → Session → Type 0
Ended before bytes None after = (bytes ≡ []) × Kept before after
Ended before bytes (Some r) after = (bytes ≢ []) × LineAnswered before bytes r after
