use Rattle.std.proofs.Common.{sym, arith}
use Rattle.std.proofs.lemmas.Bool.{eqb-false}
use Rattle.std.proofs.lemmas.Bool.Decides.{nat_tests}
use Rattle.network.specs.Graphs.{members_of}
use Rattle.groups.proofs.Sheets.{naming_start, naming_next, naming_step, naming_end}
use Rattle.groups.proofs.sheet.read_sheet.Goals as goal

pub loop-number-init : goal.loop-number-init
loop-number-init c = naming_start (members_of c.args.graph.now) c.args.sheet.now c.empty-named.result.word (eqb-false _ _ (sym c.if-is_empty.ensures)) c.empty-named.ensures

pub returns-then-not-contains : goal.returns-then-not-contains
returns-then-not-contains c =
    let here = naming_next (members_of c.args.graph.now) c.args.sheet.now c.loop-number.number-index c.loop-number.named.word c.loop-number.invariant c.loop-number-test.true in
    let a = c.from-a.ensures in
    let n = c.n-n.ensures.value in
    let out = c.contains.ensures in
    grind (arith, nat_tests)

pub returns-then-has : goal.returns-then-has
returns-then-has c =
    let here = naming_next (members_of c.args.graph.now) c.args.sheet.now c.loop-number.number-index c.loop-number.named.word c.loop-number.invariant c.loop-number-test.true in
    let a = c.from-a.ensures in
    let n = c.n-n.ensures.value in
    let twice = c.if-has.ensures.value in
    grind (arith, nat_tests)

pub loop-number-preserved : goal.loop-number-preserved
loop-number-preserved c =
    let graph = c.args.graph.now in
    let a = c.from-a.ensures in
    let n = c.n-n.ensures.value in
    let new = c.if-has.ensures.value in
    naming_step (members_of graph) c.args.sheet.now c.loop-number.number-index c.loop-number.named.word c.loop-number.invariant c.loop-number-test.true c.with-named.result.word (grind (arith, nat_tests)) (grind (arith, nat_tests)) graph.lawful.few
    (λ b. let w = c.with-named.ensures b in grind (arith, nat_tests))

pub returns : goal.returns
returns c = naming_end (members_of c.args.graph.now) c.args.sheet.now c.loop-number.number-index c.loop-number.named.word c.loop-number.invariant c.loop-number-test.false
