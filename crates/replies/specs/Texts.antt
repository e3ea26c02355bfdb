-- What is written of a reply. Assumes nothing.
use Rattle.std.specs.Prelude.{ℕ, List, ◌++◌, codes, decimal}
use Rattle.vocabulary.specs.Refusals.{refusal_number}
use Rattle.vocabulary.specs.Standings.{standing_text}
use Rattle.replies.specs.declared.reply.Reply.{Reply}
use Rattle.replies.specs.declared.reply.Reply.TheVariants.{Done, Refused, Judged, Unreadable}

abbrev pub reply_text : Reply → List ℕ
reply_text Done = codes "ok"
reply_text (Refused e) = codes "no " ++ decimal (refusal_number e)
reply_text (Judged standing) = standing_text standing
reply_text Unreadable = codes "?"
