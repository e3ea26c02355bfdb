use Rattle.std.proofs.Common.{refl}
use Rattle.check_sheet.proofs.answer.carry_out.Goals as goal

pub returns-in_ok-link-in-Some-Link : goal.returns-in_ok-link-in-Some-Link
returns-in_ok-link-in-Some-Link c =
    let link = c.in_ok-link-in-Some-Link.ensures in
    rw (← c.in-Some-Link.ensures.value, c.in-Some-Link.is-1, link.after.0) (refl, record { members = link.members; links = link.after.1; meaning = refl })
