use Rattle.std.proofs.Common.{rules}
use Rattle.std.proofs.Math.Seq.{take-nil}
use Rattle.script.proofs.Fills.{all_one}
use Rattle.script.proofs.session.empty_store.Goals as goal

pub returns : goal.returns
returns g c = search (rules, take-nil, all_one)
