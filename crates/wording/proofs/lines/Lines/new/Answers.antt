use Rattle.wording.proofs.FewLines.{few_lines}
use Rattle.wording.proofs.lines.Lines.new.Goals as goal

pub returns-clause-few : goal.returns-clause-few
returns-clause-few c = few_lines c.args.text.now
