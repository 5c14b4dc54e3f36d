use Rattle.meaning.proofs.Theorem.{agreement}
use Rattle.meaning.proofs.Encodings.{encodable}
use Rattle.meaning.proofs.laws.agree.Goals as goal

pub returns : goal.returns
returns g c = record { agreement = agreement g.R.Reckoning.meaning g.met.R.Reckoning.lawful; encodable = encodable }
