-- How often each kind of reply was given. Assumes nothing.
use Rattle.std.specs.Prelude.{ℕ, ◌+◌, ◌-◌, ◌^◌, min, List, ◌++◌, codes, decimal}
use Rattle.vocabulary.specs.declared.standing.Standing.{Standing}
use Rattle.vocabulary.specs.declared.standing.Standing.TheVariants as standing
use Rattle.replies.specs.declared.reply.Reply.{Reply}
use Rattle.replies.specs.declared.reply.Reply.TheVariants.{Done, Refused, Judged, Unreadable}
use Rattle.replies.specs.declared.summary.Summary.{Summary}

abbrev pub nothing_yet : Summary
nothing_yet = record { groups = 0; others = 0; refused = 0; unreadable = 0 }

-- one more, as far as a count of 64 binary digits goes
abbrev pub more : ℕ → ℕ
more k = min (k + 1) (2 ^ 64 - 1)

abbrev pub other_set : Summary → Summary
other_set s = record { groups = s.groups; others = more s.others; refused = s.refused; unreadable = s.unreadable }

abbrev pub judged_set : Standing → Summary → Summary
judged_set standing.Empty s = other_set s
judged_set (standing.Unknown a) s = other_set s
judged_set (standing.Loose a) s = other_set s
judged_set (standing.Apart a b) s = other_set s
judged_set standing.Group s = record { groups = more s.groups; others = s.others; refused = s.refused; unreadable = s.unreadable }

abbrev pub noted : Reply → Summary → Summary
noted Done s = s
noted (Judged standing) s = judged_set standing s
noted (Refused e) s = record { groups = s.groups; others = s.others; refused = more s.refused; unreadable = s.unreadable }
noted Unreadable s = record { groups = s.groups; others = s.others; refused = s.refused; unreadable = more s.unreadable }

abbrev pub summary_text : Summary → List ℕ
summary_text s =
    decimal s.groups ++ (codes " groups, " ++ (decimal s.others ++ (codes " other sets, " ++ (decimal s.refused ++ (codes " refused, " ++ (decimal s.unreadable ++ codes " unreadable"))))))
