use Rattle.language.proofs.Budgets.{never_more, none_left, larger, smaller}
use Rattle.language.proofs.Equations.{equations}
use Rattle.language.proofs.Levels.{levels_agree}
use Rattle.language.proofs.Solutions.{only}
use Rattle.language.proofs.Stopping.{stops_so}
use Rattle.language.proofs.laws.obeyed.Goals as goal

pub returns : goal.returns
returns g c =
    let m = g.R.Reckoning.meaning in
    record { levels_agree = levels_agree m; equations = equations m; only = only m; never_more = never_more m; none_left = none_left m; larger = larger m; smaller = smaller m; stops_so = stops_so m }
