-- Before each digit the total is the number of the digits before it: below a million, as they are six at most, so one digit more fits.
use Rattle.std.proofs.Common.{◌≡◌, ◌+◌, ◌-◌, ◌*◌, ◌<◌, Some, length, map, refl, arith, rules}
use Rattle.std.proofs.lemmas.List.{map-append}
use Rattle.std.proofs.lemmas.List.Sums.{fold_push}
use Rattle.std.proofs.lemmas.Fn.{serves_by}
use Rattle.std.proofs.lemmas.Iterator.{YieldsList-from_slice}
use Rattle.std.proofs.lemmas.Iterator.Consumers.{YieldsList-so_far, YieldsList-turn}
use Rattle.command.specs.Grammar.{Digit, number_written}
use Rattle.command.proofs.Numbers.{number_small}
use Rattle.command.proofs.field.value.Goals as goal

pub fold-requires-clause-callable : goal.fold-requires-clause-callable
fold-requires-clause-callable c =
    let road = YieldsList-from_slice c.args.s.now c.iter.ensures.rest in
    serves_by _ (λ xs q. q.1 ≡ number_written (map (λ y. y.now) xs))
    (λ xs q x v h called.
    let step : v.1 ≡ q.1 * 10 + (x.now - 48) = search rules in
    simp (map-append, fold_push) (omega (arith, h, step)))
    _ _ _ _ refl
    (λ xs t q x u before h so_far.
    let turn = YieldsList-turn road xs t before (Some x) u x refl h in
    let digit : Digit x.now = let at = c.requires.digits (length xs) x.now turn.0 in (omega arith, omega arith) in
    let below = number_small c.args.s.now c.requires.digits (length xs) (omega arith) (omega arith) in
    let small : q.1 < 1000000 = rw (so_far, YieldsList-so_far road xs t before) below in
    search rules)
