use Rattle.std.proofs.Common.{◌+◌, ◌<◌, length, ap, ◌∙◌, rules}
use Rattle.calling.proofs.Answering.{refused, completed, seen_agrees}
use Rattle.calling.proofs.calls.call.Goals as goal

pub returns-in_err-registers : goal.returns-in_err-registers
returns-in_err-registers g c =
    let m = g.R.Reckoning.meaning in
    let is =
    ap (λ o. (o, c.begin.new.store)) c.from_residual.ensures
    ∙ refused m c.args.code.now c.args.places.now c.args.start c.args.cells c.args.arguments.now c.args.budget c.args.store.now c.begin.new.store c.in_err-registers.ensures in
    record { is = is; agrees = seen_agrees m g.met.R.Reckoning.lawful c.args.code.now c.args.places.now c.args.start c.args.cells c.args.arguments.now c.args.budget c.args.store.now _ is }

pub returns : goal.returns
returns g c =
    let m = g.R.Reckoning.meaning in
    let low : c.args.cells + 1 < length c.run-ending.new.store = search rules in
    let is =
    completed m c.args.code.now c.args.places.now c.args.start c.args.cells c.args.arguments.now c.args.budget c.args.store.now
    c.in_ok-registers.registers c.begin.new.store c.run-ending.result (c.run-ending.new.registers, c.run-ending.new.store) c.index-store-cells.result c.conclude.result
    c.in_ok-registers.ensures c.run-ending.ensures.is low c.index-store-cells.is c.conclude.ensures in
    record { is = is; agrees = seen_agrees m g.met.R.Reckoning.lawful c.args.code.now c.args.places.now c.args.start c.args.cells c.args.arguments.now c.args.budget c.args.store.now _ is }
