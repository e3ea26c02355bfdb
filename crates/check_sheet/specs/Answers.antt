-- What a command does to the network, and what is replied. Assumes nothing.
use Rattle.std.specs.Prelude.{◌≡◌, ℕ, List, Some, None, Ok, Err, Option, Result, IsSomeAnd}
use Rattle.vocabulary.specs.declared.refusal.Refusal.{Refusal}
use Rattle.vocabulary.specs.declared.standing.Standing.{Standing}
use Rattle.rules.specs.Links.{linking}
use Rattle.rules.specs.Refusals.{link_refusal}
use Rattle.rules.specs.Lists.{Named}
use Rattle.rules.specs.Sheets.{sheet_refusal}
use Rattle.rules.specs.Standings.{StandsOnly}
use Rattle.matrix.specs.Matrices.{members_of, links_of, room}
use Rattle.any_model.specs.AnyModels.{meaning_of}
use Rattle.command.specs.Grammar.{Spelled, network, link, sheet, Written}
use Rattle.check_sheet.specs.declared.setup.Setup.{Setup}
use Rattle.replies.specs.declared.reply.Reply.{Reply}
use Rattle.replies.specs.declared.reply.Reply.TheVariants.{Done, Refused, Judged, Unreadable}
use Rattle.check_sheet.specs.Setups.{SetupIs, setup_refusal, Begun}

-- a call that was turned down is replied to by its refusal
abbrev pub reply_of : Result Reply Refusal → Reply
reply_of (Ok r) = r
reply_of (Err e) = Refused e

-- done, and P is true of what there is now; or refused, and all is as before
abbrev pub Changed : Option Refusal → (Setup → Type 0) → Option Setup → Reply → Option Setup → Type 0
Changed None P before r after = (r ≡ Done) × IsSomeAnd after P
Changed (Some e) P before r after = (r ≡ Refused e) × (after ≡ before)

-- how the set on the sheet stands, or the refusal
abbrev pub JudgedSheet : Option Refusal → Setup → List ℕ → Reply → Type 0
JudgedSheet None s numbers r =
    (S : ℕ) × ((standing : Standing) × Named numbers S × StandsOnly (members_of s.net) (links_of s.net) (meaning_of s.model) S standing × (r ≡ Judged standing))
JudgedSheet (Some e) s numbers r = r ≡ Refused e

-- network and model are made once, and before all else
abbrev pub Answered : Option Setup → Spelled → Reply → Option Setup → Type 0
Answered None (network n k t) r after = Changed (setup_refusal n k t) (Begun n k t) None r after
Answered None (link a b) r after = (r ≡ Unreadable) × (after ≡ None)
Answered None (sheet numbers) r after = (r ≡ Unreadable) × (after ≡ None)
Answered (Some s) (network n k t) r after = (r ≡ Unreadable) × (after ≡ Some s)
Answered (Some s) (link a b) r after =
    Changed (link_refusal (members_of s.net) room (links_of s.net) a b) (SetupIs (members_of s.net) (linking a b (links_of s.net)) (meaning_of s.model)) (Some s) r after
Answered (Some s) (sheet numbers) r after = JudgedSheet (sheet_refusal (members_of s.net) numbers) s numbers r × (after ≡ Some s)

-- what a line does: what its command does, or nothing where no command is written so
pub record Replied (before : Option Setup) (line : List ℕ) (r : Reply) (after : Option Setup) : Type 0 where
  pub command : (c : Spelled) → Written c line → Answered before c r after
  pub unreadable : ((c : Spelled) → Written c line → ⊥) → (r ≡ Unreadable) × (after ≡ before)
